use Rattle.std.proofs.Common.{◌++◌, length}
use Rattle.nv_table.proofs.Through.{these_after}
use Rattle.nd_router.specs.Members.{HaveSameRows}
use Rattle.nd_full.specs.inner.Between.{is_before, routers_between, rows_of_each}
use Rattle.nd_full.proofs.routers.add_rows_of_routers.Given as goal

-- the rows so far and those of the routers that are left are all
abbrev pub invariant-loop-router : goal.invariant-loop-router
invariant-loop-router l =
    HaveSameRows (l.made ++ rows_of_each l.records (these_after (λ x. x.id) (λ x. is_before l.before x.id) l.last l.records.routers)) (l.fn.made ++ rows_of_each l.records (routers_between l.records l.fn.after l.before))

abbrev pub decreases-loop-router : goal.decreases-loop-router
decreases-loop-router l = length (these_after (λ x. x.id) (λ x. is_before l.before x.id) l.last l.records.routers)
