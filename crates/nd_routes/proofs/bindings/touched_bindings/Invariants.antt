use Rattle.std.proofs.Common.{◌≡◌, ◌++◌, take}
use Rattle.std.specs.List.{flat_map}
use Rattle.nd_routes.specs.inner.Bindings.{numbers_at}
use Rattle.nd_routes.proofs.bindings.touched_bindings.Given as goal

-- the bindings, and those of the ports so far
abbrev pub invariant-loop-port : goal.invariant-loop-port
invariant-loop-port l = l.keys.items ≡ l.touched.bindings ++ flat_map (numbers_at l.records) (take l.port-index l.touched.router_ports)
