use Rattle.std.proofs.Common.{◌≡◌, ◌≤◌, length, take}
use Rattle.ct_table.proofs.conns.Conns.cut_back.Given as goal

-- the entries that are to stay are there
abbrev pub invariant-loop-self : goal.invariant-loop-self
invariant-loop-self l = record { within : l.len ≤ length l.self; first : take l.len l.self ≡ take l.len l.fn.self }

abbrev pub decreases-loop-self : goal.decreases-loop-self
decreases-loop-self l = length l.self
