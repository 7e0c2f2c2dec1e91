use Rattle.std.proofs.Common.{◌≡◌, ◌++◌, take}
use Rattle.std.specs.List.{flat_map}
use Rattle.nd_router.specs.inner.Made.{balancer_rows}
use Rattle.nd_inputs.specs.inner.Numbered.{of_number}
use Rattle.nd_router.proofs.balancers.put_balancers.Given as goal

-- the rows of the load balancers so far are after what was there
abbrev pub invariant-loop-lb : goal.invariant-loop-lb
invariant-loop-lb l = l.rows ≡ l.initial.rows ++ flat_map (of_number l.records (balancer_rows l.router.id)) (take l.lb-index l.lb-items)
