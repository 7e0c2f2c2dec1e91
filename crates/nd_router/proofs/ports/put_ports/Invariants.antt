use Rattle.std.proofs.Common.{◌≡◌, ◌++◌, length}
use Rattle.std.specs.List.{flat_map}
use Rattle.nb_model.specs.Network.{same}
use Rattle.nb_router.specs.Vocabulary.{ports_of}
use Rattle.nd_router.specs.inner.Made.{port_rows}
use Rattle.nv_table.proofs.Through.{these_after}
use Rattle.nd_router.proofs.ports.put_ports.Given as goal

-- the rows so far, and then those of the ports that are left, are all
abbrev pub invariant-loop-port : goal.invariant-loop-port
invariant-loop-port l = l.rows ++ flat_map (port_rows l.records) (these_after (λ x. x.id) (λ x. same l.router x.router) l.last l.records.router_ports) ≡ l.fn.rows ++ flat_map (port_rows l.records) (ports_of l.records l.router)

abbrev pub decreases-loop-port : goal.decreases-loop-port
decreases-loop-port l = length (these_after (λ x. x.id) (λ x. same l.router x.router) l.last l.records.router_ports)
