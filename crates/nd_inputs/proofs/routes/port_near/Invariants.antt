use Rattle.std.proofs.Common.{◌≡◌, ◌&&◌, length}
use Rattle.std.specs.List.{find, list_any}
use Rattle.lr_units.specs.Words.{holds}
use Rattle.nb_model.specs.Network.{same}
use Rattle.nv_table.proofs.Through.{these_after}
use Rattle.nd_inputs.proofs.routes.port_near.Given as goal

-- the first such port is the first among those that are left
abbrev pub invariant-loop-port : goal.invariant-loop-port
invariant-loop-port l =
    find (λ port. list_any (holds l.nexthop) port.nets) (these_after (λ x. x.id) (λ x. same l.router x.router) l.last l.records.router_ports) ≡ find (λ port. same l.router port.router && list_any (holds l.nexthop) port.nets) l.records.router_ports

abbrev pub decreases-loop-port : goal.decreases-loop-port
decreases-loop-port l = length (these_after (λ x. x.id) (λ x. same l.router x.router) l.last l.records.router_ports)
