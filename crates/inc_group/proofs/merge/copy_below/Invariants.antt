use Rattle.std.proofs.Common.{◌≡◌, ◌++◌, length}
use Rattle.inc_table.specs.Delta.{IsAbove}
use Rattle.inc_group.proofs.merge.copy_below.Given as goal

-- what is copied, with what is left, is all, and the key is above what is copied
abbrev pub invariant-loop-first : goal.invariant-loop-first
invariant-loop-first g l = record {
  all : l.members ++ l.rest ≡ l.fn.members ++ l.fn.rest;
  above : IsAbove g.K.Ord.cmp l.key l.members;
}

abbrev pub decreases-loop-first : goal.decreases-loop-first
decreases-loop-first g l = length l.rest
