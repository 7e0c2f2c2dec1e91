use Rattle.std.proofs.Common.{◌≡◌, map, take}
use Rattle.lr_rows.specs.Make.{as_address}
use Rattle.lr_in.proofs.free.items_of.Given as goal

-- the items are those of the addresses so far
abbrev pub invariant-loop-addr : goal.invariant-loop-addr
invariant-loop-addr l = l.items ≡ map as_address (take l.addr-index l.addrs)
