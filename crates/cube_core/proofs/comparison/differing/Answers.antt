use Rattle.std.proofs.Common.{◌≡◌, ◌++◌, ap, ◌∙◌, sym, arith, append_assoc}
use Rattle.std.proofs.lemmas.List.{append-nil}
use Rattle.cube_core.proofs.Related.{rest_next}
use Rattle.cube_core.proofs.comparison.differing.Goals as goal

pub loop-left-preserved : goal.loop-left-preserved
loop-left-preserved c = record {
  whole =
      rw (c.in_ok-add_bit.ensures, append_assoc)
      (ap (λ l. c.loop-left.cubes ++ l) (rest_next c.args.field c.args.mask c.args.number c.args.bits c.loop-left.left c.loop-left-test.true)
      ∙ c.loop-left.invariant.whole);
  within = omega arith;
}

pub returns : goal.returns
returns c =
    let none : c.loop-left.left ≡ 0 = omega arith in
    let whole = c.loop-left.invariant.whole in
    sym (append-nil c.loop-left.cubes) ∙ (rw none at whole)
