use Rattle.std.proofs.Common.{◌&&◌, ◌++◌, sym}
use Rattle.std.specs.Prelude.{Some}
use Rattle.nb_records.specs.declared.router.Router.{Router}
use Rattle.nb_store.proofs.Peering.{found_is_record}
use Rattle.nv_table.specs.Table.{is_after}
use Rattle.nv_table.proofs.Through.{these_after, these_fewer}
use Rattle.nd_router.specs.Router.{rows_on}
use Rattle.nd_inputs.proofs.First.{none_left, one_left}
use Rattle.nd_router.proofs.Same.{same_appended, same_first, same_itself, same_none}
use Rattle.nd_inputs.proofs.Sound.{routers_rise}
use Rattle.nd_full.specs.inner.Between.{is_before, routers_between, rows_of_each}
use Rattle.nd_full.proofs.routers.add_rows_of_routers.Goals as goal

pub rows_of_router-requires-clause-there : goal.rows_of_router-requires-clause-there
rows_of_router-requires-clause-there c =
    found_is_record (λ (x : Router). x.id) (λ (x : Router). is_after c.loop-router.last x.id && is_before c.args.before x.id) c.args.records.now.routers c.in-Some.router.now (routers_rise c.args.records.now c.requires) (sym c.in-Some.ensures)

pub loop-router-init : goal.loop-router-init
loop-router-init c = same_itself _

pub loop-router-smaller : goal.loop-router-smaller
loop-router-smaller c =
    these_fewer (λ (x : Router). x.id) (λ (x : Router). is_before c.args.before x.id) c.loop-router.last c.args.records.now.routers c.in-Some.router.now (routers_rise c.args.records.now c.requires) c.in-Some.ensures

pub loop-router-preserved : goal.loop-router-preserved
loop-router-preserved c =
    same_first (λ (x : Router). rows_on c.args.records.now x.id) (these_after (λ (x : Router). x.id) (λ (x : Router). is_before c.args.before x.id) c.loop-router.last c.args.records.now.routers)
    c.loop-router.made (c.args.made.now ++ rows_of_each c.args.records.now (routers_between c.args.records.now c.args.after c.args.before)) c.loop-router.invariant
    c.in-Some.router.now (these_after (λ (x : Router). x.id) (λ (x : Router). is_before c.args.before x.id) (Some c.in-Some.router.now.id) c.args.records.now.routers) _
    (one_left (λ (x : Router). x.id) (λ (x : Router). is_before c.args.before x.id) c.loop-router.last c.args.records.now.routers c.in-Some.router.now (routers_rise c.args.records.now c.requires) c.in-Some.ensures)
    (same_appended _ _ _ _ c.in_ok-append.ensures.ok c.in_ok-rows_of_router.ensures)

pub returns : goal.returns
returns c =
    same_none (λ (x : Router). rows_on c.args.records.now x.id) (these_after (λ (x : Router). x.id) (λ (x : Router). is_before c.args.before x.id) c.loop-router.last c.args.records.now.routers)
    c.loop-router.made (c.args.made.now ++ rows_of_each c.args.records.now (routers_between c.args.records.now c.args.after c.args.before)) c.loop-router.invariant
    (none_left (λ (x : Router). x.id) (λ (x : Router). is_before c.args.before x.id) c.loop-router.last c.args.records.now.routers c.in_default.ensures)
