use Rattle.std.proofs.Common.{◌++◌, length}
use Rattle.std.specs.List.{flat_map}
use Rattle.nv_table.proofs.Through.{left_after}
use Rattle.nd_router.specs.Members.{HaveSameRows}
use Rattle.nd_full.specs.inner.Between.{rows_of_each}
use Rattle.nd_full.specs.inner.Made.{datapath_rows}
use Rattle.nd_full.proofs.build.add_rows_of_datapaths.Given as goal

-- the rows so far and those of the switches and routers that are left are all
abbrev pub invariant-loop-switch : goal.invariant-loop-switch
invariant-loop-switch l =
    HaveSameRows (l.made ++ (flat_map (datapath_rows l.records) (left_after (λ x. x.id) l.last l.records.switches) ++ rows_of_each l.records (left_after (λ x. x.id) l.last l.records.routers)))
    (l.fn.made ++ (flat_map (datapath_rows l.records) l.records.switches ++ rows_of_each l.records l.records.routers))

abbrev pub decreases-loop-switch : goal.decreases-loop-switch
decreases-loop-switch l = length (left_after (λ x. x.id) l.last l.records.switches)
