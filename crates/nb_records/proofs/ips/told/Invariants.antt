use Rattle.std.proofs.Common.{◌≡◌, ◌≤◌, length, take}
use Rattle.std.specs.List.{flat_map}
use Rattle.nb_records.specs.Tags.{ips_of}
use Rattle.nb_records.proofs.ips.told.Given as goal

abbrev pub invariant-loop-addr : goal.invariant-loop-addr
invariant-loop-addr l = (l.count ≡ length (flat_map ips_of (take l.addr-index l.addresses))) × (l.count ≤ 256)
