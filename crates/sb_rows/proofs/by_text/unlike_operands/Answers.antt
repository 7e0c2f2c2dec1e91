use Rattle.std.proofs.Common.{refl, arith}
use Rattle.sb_rows.proofs.Apart.{unlike_at}
use Rattle.sb_rows.proofs.by_text.unlike_operands.Goals as goal

pub returns-then-are_atoms : goal.returns-then-are_atoms
returns-then-are_atoms c =
    unlike_at c.args.ones.now c.args.others.now c.loop-at.at _ _ (omega arith) (omega arith) c.loop-at.invariant c.index-ones-at.is c.index-others-at.is (c.if-are_atoms.ensures refl)
