use Rattle.std.proofs.Common.{◌≡◌, length}
use Rattle.std.specs.Prelude.{fold}
use Rattle.nb_model.specs.Network.{same}
use Rattle.net_choice.specs.inner.Routes.{longest_by, longest_direct}
use Rattle.net_choice.proofs.Through.{left}
use Rattle.net_choice.proofs.routes.longest_direct.Given as goal

-- the longest so far, and of the ways by the ports that are left
abbrev pub invariant-loop-port : goal.invariant-loop-port
invariant-loop-port l = fold (longest_by l.dst) l.best (left (λ x. x.id) (λ x. same l.router x.router) l.last l.records.router_ports) ≡ longest_direct l.records l.router l.dst

abbrev pub decreases-loop-port : goal.decreases-loop-port
decreases-loop-port l = length (left (λ x. x.id) (λ x. same l.router x.router) l.last l.records.router_ports)
