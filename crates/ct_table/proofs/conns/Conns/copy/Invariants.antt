use Rattle.std.proofs.Common.{◌≡◌, take}
use Rattle.ct_table.proofs.conns.Conns.copy.Given as goal

-- the entries before this one are copied
abbrev pub invariant-loop-entry : goal.invariant-loop-entry
invariant-loop-entry l = l.copied ≡ take l.entry-index l.entry-items
