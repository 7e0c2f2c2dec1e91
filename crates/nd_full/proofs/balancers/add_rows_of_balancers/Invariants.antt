use Rattle.std.proofs.Common.{◌≡◌, ◌++◌, take}
use Rattle.std.specs.List.{flat_map}
use Rattle.nd_inputs.specs.inner.Numbered.{of_number}
use Rattle.nd_full.specs.inner.Made.{balancer_units}
use Rattle.nd_full.proofs.balancers.add_rows_of_balancers.Given as goal

-- the rows of the load balancers so far come after the others
abbrev pub invariant-loop-lb : goal.invariant-loop-lb
invariant-loop-lb l = l.made ≡ l.initial.made ++ flat_map (of_number l.records (balancer_units l.switch.id)) (take l.lb-index l.lb-items)
