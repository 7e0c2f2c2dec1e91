use Rattle.std.proofs.Common.{◌≡◌, ◌++◌, length}
use Rattle.std.specs.Prelude.{filter}
use Rattle.std.specs.List.{flat_map}
use Rattle.nb_model.specs.Network.{same}
use Rattle.nv_table.proofs.Through.{these_after}
use Rattle.nb_check.specs.inner.Going.{below}
use Rattle.nb_check.proofs.gone.note_router_ports_on.Given as goal

-- the numbers so far, and then those of the ports that are left, are all
abbrev pub invariant-loop-port : goal.invariant-loop-port
invariant-loop-port l =
    l.numbers ++ flat_map (λ port. below l.first port.id) (these_after (λ x. x.id) (λ x. same l.router x.router) l.last l.records.router_ports)
    ≡ l.fn.numbers ++ flat_map (λ port. below l.first port.id) (filter (λ port. same l.router port.router) l.records.router_ports)

abbrev pub decreases-loop-port : goal.decreases-loop-port
decreases-loop-port l = length (these_after (λ x. x.id) (λ x. same l.router x.router) l.last l.records.router_ports)
