use Rattle.std.proofs.Common.{◌≡◌, drop, slice_get}
use Rattle.std.specs.List.{flat_map}
use Rattle.nb_records.specs.Tags.{ips_of}
use Rattle.nb_records.proofs.ips.ip_at.Given as goal

-- what is asked for is at its place in what is left
abbrev pub invariant-loop-addr : goal.invariant-loop-addr
invariant-loop-addr l = slice_get (flat_map ips_of (drop l.addr-index l.addresses)) l.place ≡ slice_get (flat_map ips_of l.addresses) l.fn.place
