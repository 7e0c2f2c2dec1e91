use Rattle.std.proofs.Common.{◌≡◌, take}
use Rattle.lr_rows.specs.Make.{addresses_of}
use Rattle.lr_rows.proofs.make.addresses_of.Given as goal

-- the items are those of the networks so far
abbrev pub invariant-loop-net : goal.invariant-loop-net
invariant-loop-net l = l.items ≡ addresses_of (take l.net-index l.nets)
