use Rattle.std.proofs.Common.{◌≡◌, length}
use Rattle.std.specs.List.{find}
use Rattle.nb_model.specs.Network.{same}
use Rattle.net_router.specs.Routing.{reaches}
use Rattle.net_choice.specs.inner.Routes.{reaching_exit}
use Rattle.net_choice.proofs.Through.{left}
use Rattle.net_choice.proofs.exits.reaching_exit.Given as goal

-- the first of the ports that are left is the first of all
abbrev pub invariant-loop-port : goal.invariant-loop-port
invariant-loop-port l = find (reaches l.ip) (left (λ x. x.id) (λ x. same l.router x.router) l.last l.records.router_ports) ≡ reaching_exit l.records l.router l.ip

abbrev pub decreases-loop-port : goal.decreases-loop-port
decreases-loop-port l = length (left (λ x. x.id) (λ x. same l.router x.router) l.last l.records.router_ports)
