use Rattle.std.proofs.Common.{◌≡◌, map, take}
use Rattle.net_rows.specs.PortSecurity.{item_of}
use Rattle.ls_sec.proofs.addresses.own_items.Given as goal

-- the items are those of the networks so far
abbrev pub invariant-loop-net : goal.invariant-loop-net
invariant-loop-net l = l.items ≡ map item_of (take l.net-index l.nets)
