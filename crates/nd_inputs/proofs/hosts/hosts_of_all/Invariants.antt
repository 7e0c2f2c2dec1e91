use Rattle.std.proofs.Common.{◌≡◌, take}
use Rattle.std.specs.List.{flat_map}
use Rattle.lr_units.specs.Words.{hosts_of}
use Rattle.nd_inputs.proofs.hosts.hosts_of_all.Given as goal

-- the hosts are those of the addresses so far
abbrev pub invariant-loop-address : goal.invariant-loop-address
invariant-loop-address l = l.hosts ≡ flat_map hosts_of (take l.address-index l.addresses)
