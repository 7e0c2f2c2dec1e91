use Rattle.std.proofs.Common.{◌≡◌, ◌++◌, map, take}
use Rattle.nd_inputs.proofs.hosts.put_hosts_with.Given as goal

-- the hosts of the addresses so far are after what was there
abbrev pub invariant-loop-ip : goal.invariant-loop-ip
invariant-loop-ip l = l.hosts ≡ l.initial.hosts ++ map (λ ip. record { mac = l.mac; addr = ip }) (take l.ip-index l.ips)
