use Rattle.std.proofs.Common.{◌≡◌, map, take}
use Rattle.nd_inputs.proofs.hosts.hosts_of_peer.Given as goal

-- the hosts are those of the networks so far
abbrev pub invariant-loop-net : goal.invariant-loop-net
invariant-loop-net l = l.hosts ≡ map (λ addr. record { mac = l.peer.mac; addr = addr }) (map (λ net. net.base) (take l.net-index l.nets))
