use Rattle.std.proofs.lemmas.Result.{IfOk-weaker}
use Rattle.std.specs.List.{Contains}
use Rattle.std.specs.Prelude.{◌↔◌}
use Rattle.sb_model.specs.declared.row.Row.{Row}
use Rattle.nd_router.specs.Members.{HaveSameRows}
use Rattle.nd_router.specs.Router.{rows_on}
use Rattle.nd_router.proofs.All.{made_router}
use Rattle.nd_router.proofs.router.rows_of_router.Goals as goal

pub returns : goal.returns
returns c =
    IfOk-weaker c.into_list_by_key.result (λ list. (r : Row) → Contains list r ↔ Contains c.put_balancers.new.rows r) (λ list. HaveSameRows list (rows_on c.args.records.now c.args.router.now.id))
    (made_router c.args.records.now c.requires.sound c.args.router.now c.requires.there c.new-rows.result c.put_own.new.rows c.put_ports.new.rows c.put_routes.new.rows c.put_nats.new.rows c.put_balancers.new.rows
    c.new-rows.ensures c.in_ok-put_own.ensures c.in_ok-put_ports.ensures c.in_ok-put_routes.ensures c.in_ok-put_nats.ensures c.in_ok-put_balancers.ensures)
    c.into_list_by_key.ensures.members
