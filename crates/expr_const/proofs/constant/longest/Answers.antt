use Rattle.std.proofs.Common.{◌∙◌, arith}
use Rattle.expr_const.proofs.ConstantFronts.{begins, goes_on, ends}
use Rattle.expr_const.proofs.constant.longest.Goals as goal

pub loop-len-init : goal.loop-len-init
loop-len-init c =
    let front = begins c.args.text.now c.min.result c.constant_run-len.result c.min.ensures c.constant_run-len.ensures in
    record { within = front.0; same = front.1 }

pub loop-len-preserved : goal.loop-len-preserved
loop-len-preserved c = record {
  within = omega (arith, c.loop-len.invariant.within);
  same = goes_on c.args.text.now c.loop-len.len c.loop-len-test.true c.in_default.ensures ∙ c.loop-len.invariant.same;
}

pub returns-in-Some-clause-found : goal.returns-in-Some-clause-found
returns-in-Some-clause-found c = ends c.args.text.now c.loop-len.len c.in-Some.constant c.loop-len-test.true c.in-Some.ensures ∙ c.loop-len.invariant.same
