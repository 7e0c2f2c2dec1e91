use Rattle.std.proofs.Common.{◌≡◌, ◌++◌, ◌&&◌, nat_lt, map, take}
use Rattle.std.specs.Prelude.{filter}
use Rattle.nb_model.specs.Addresses.{has_host_part}
use Rattle.net_rows.specs.PortSecurity.{broadcast_of}
use Rattle.ls_sec.proofs.addresses.put_broadcasts.Given as goal

-- the broadcasts of the networks so far are after what was there
abbrev pub invariant-loop-net : goal.invariant-loop-net
invariant-loop-net l =
    l.items ≡ l.initial.items ++ map broadcast_of (filter (λ net. nat_lt net.len 32 && has_host_part net) (take l.net-index l.nets))
