use Rattle.std.proofs.Common.{◌++◌, ap, sym, ◌∙◌}
use Rattle.std.proofs.lemmas.Result.{on_ok_weaker}
use Rattle.std.specs.List.{flat_map}
use Rattle.std.specs.Prelude.{List, None}
use Rattle.nb_records.specs.declared.router.Router.{Router}
use Rattle.nb_records.specs.declared.switch.Switch.{Switch}
use Rattle.nb_store.proofs.Peering.{found_is_record}
use Rattle.nv_table.specs.Table.{is_after}
use Rattle.nv_table.proofs.Through.{all_left, fewer_left, left_after}
use Rattle.nd_router.proofs.Same.{same_equal}
use Rattle.nd_full.specs.inner.Between.{rows_of_each}
use Rattle.nd_full.specs.inner.Made.{datapath_rows}
use Rattle.nd_full.proofs.Between.{next_switch, no_switch}
use Rattle.nd_full.proofs.Sound.{switches_rise}
use Rattle.nd_full.proofs.build.add_rows_of_datapaths.Goals as goal

pub rows_of_datapath-requires-clause-there : goal.rows_of_datapath-requires-clause-there
rows_of_datapath-requires-clause-there c =
    found_is_record (λ (x : Switch). x.id) (λ (x : Switch). is_after c.loop-switch.last x.id) c.args.records.now.switches c.in-Some.switch.now (switches_rise c.args.records.now c.requires) (sym (rw c.switches.ensures at c.in-Some.ensures.record))

pub loop-switch-init : goal.loop-switch-init
loop-switch-init c =
    same_equal _ _
    (ap (λ (left : List Switch). c.args.made.now ++ (flat_map (datapath_rows c.args.records.now) left ++ rows_of_each c.args.records.now (left_after (λ (x : Router). x.id) None c.args.records.now.routers))) (all_left (λ (x : Switch). x.id) c.args.records.now.switches)
    ∙ ap (λ (left : List Router). c.args.made.now ++ (flat_map (datapath_rows c.args.records.now) c.args.records.now.switches ++ rows_of_each c.args.records.now left)) (all_left (λ (x : Router). x.id) c.args.records.now.routers))

pub loop-switch-smaller : goal.loop-switch-smaller
loop-switch-smaller c = fewer_left (λ (x : Switch). x.id) c.loop-switch.last c.args.records.now.switches c.in-Some.switch.now (switches_rise c.args.records.now c.requires) (sym (rw c.switches.ensures at c.in-Some.ensures.record))

pub loop-switch-preserved : goal.loop-switch-preserved
loop-switch-preserved c =
    next_switch c.args.records.now c.requires c.loop-switch.last c.loop-switch.made (c.args.made.now ++ (flat_map (datapath_rows c.args.records.now) c.args.records.now.switches ++ rows_of_each c.args.records.now c.args.records.now.routers)) c.loop-switch.invariant
    c.in-Some.switch.now c.add_rows_of_routers.new.made _ _ (sym (rw c.switches.ensures at c.in-Some.ensures.record)) c.in_ok-add_rows_of_routers.ensures c.in_ok-append.ensures.ok c.in_ok-rows_of_datapath.ensures

pub returns : goal.returns
returns c =
    on_ok_weaker c.add_rows_of_routers-2.result
    (no_switch c.args.records.now c.requires c.loop-switch.last c.loop-switch.made (c.args.made.now ++ (flat_map (datapath_rows c.args.records.now) c.args.records.now.switches ++ rows_of_each c.args.records.now c.args.records.now.routers)) c.loop-switch.invariant
    c.add_rows_of_routers-2.new.made (sym (rw c.switches.ensures at c.in_default.ensures.record)))
    c.add_rows_of_routers-2.ensures
