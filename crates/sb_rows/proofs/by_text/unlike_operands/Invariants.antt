use Rattle.std.proofs.Common.{◌≡◌, take}
use Rattle.sb_rows.proofs.by_text.unlike_operands.Given as goal

-- the operands so far are alike
abbrev pub invariant-loop-at : goal.invariant-loop-at
invariant-loop-at l = take l.at l.ones ≡ take l.at l.others
