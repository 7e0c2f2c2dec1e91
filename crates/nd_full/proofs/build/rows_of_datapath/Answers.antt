use Rattle.std.proofs.Common.{◌≡◌, [], ap, subst, ◌∙◌, List}
use Rattle.std.proofs.lemmas.Result.{IfOk-weaker}
use Rattle.std.specs.List.{Contains}
use Rattle.std.specs.Prelude.{◌↔◌}
use Rattle.sb_model.specs.declared.row.Row.{Row}
use Rattle.nd_full.specs.inner.Made.{datapath_rows}
use Rattle.nd_router.specs.Members.{HaveSameRows}
use Rattle.nd_full.proofs.All.{made_of_datapath}
use Rattle.nd_full.proofs.build.rows_of_datapath.Goals as goal

pub returns : goal.returns
returns c =
    IfOk-weaker c.into_list_by_key.result (λ list. (r : Row) → Contains list r ↔ Contains c.into_rows.result r) (λ list. HaveSameRows list (datapath_rows c.args.records.now c.args.switch.now))
    (λ list is. made_of_datapath c.args.records.now c.args.switch.now _ _ _ c.new-made.ensures c.in_ok-unknown.ensures.rows c.in_ok-add_rows_of_switch.ensures list (subst (λ (rows : List Row). (r : Row) → Contains list r ↔ Contains rows r) c.into_rows.ensures is)) c.into_list_by_key.ensures.members
