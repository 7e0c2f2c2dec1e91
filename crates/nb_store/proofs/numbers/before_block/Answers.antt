use Rattle.std.proofs.Common.{length, ◌+◌, ◌∙◌, sym, arith}
use Rattle.nb_store.proofs.Blocks.{in_block, before_and_block}
use Rattle.nb_store.proofs.numbers.before_block.Goals as goal

pub returns-then-is_in_block-clause-there : goal.returns-then-is_in_block-clause-there
returns-then-is_in_block-clause-there c = λ _. in_block c.args.number c.args.numbers.now c.loop-start.start _ (sym c.is_in_block.ensures ∙ c.if-is_in_block.true)

pub loop-start-preserved : goal.loop-start-preserved
loop-start-preserved c = record {
  before = before_and_block c.args.number c.args.numbers.now c.loop-start.start (c.loop-start.start + 64) (omega arith) c.loop-start.invariant.before (sym c.is_in_block.ensures ∙ c.if-is_in_block.false);
  within = omega (arith, c.loop-start-test.true);
}

pub returns-then-is_in_block-2-clause-there : goal.returns-then-is_in_block-2-clause-there
returns-then-is_in_block-2-clause-there c = λ _. in_block c.args.number c.args.numbers.now c.loop-start.start _ (sym c.is_in_block-2.ensures ∙ c.if-is_in_block-2.true)

pub returns-else-is_in_block-2-clause-before : goal.returns-else-is_in_block-2-clause-before
returns-else-is_in_block-2-clause-before c =
    before_and_block c.args.number c.args.numbers.now c.loop-start.start (length c.args.numbers.now) c.loop-start.invariant.within c.loop-start.invariant.before (sym c.is_in_block-2.ensures ∙ c.if-is_in_block-2.false)
