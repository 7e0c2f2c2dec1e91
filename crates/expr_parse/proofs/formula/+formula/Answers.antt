use Rattle.std.proofs.Common.{arith, refl, subst}
use Rattle.std.proofs.lemmas.Result.{err_from_is_err_and}
use Rattle.expr_parse.specs.inner.Gives.{Reads}
use Rattle.expr_parse.proofs.Words.{Formula, Atom, Reading, levels, unit}
use Rattle.expr_parse.proofs.Chains.{begins, goes_on, fails, ended, fails_after}
use Rattle.expr_parse.proofs.formula.+formula.Goals as goal

pub chain-loop-rest-init : goal.chain-loop-rest-init
chain-loop-rest-init t c =
    begins (unit c.args.end (levels c.args.end c.args.levels)) c.args.operator c.args.first c.in_ok-second.second c.args.tokens.now c.in_ok-second.left.now _ _ _ c.new-units.ensures.items c.in_ok-push.ensures.items c.in_ok-push-2.ensures.items c.in_ok-second.ensures.left c.in_ok-second.ensures.reads

pub chain-loop-rest-preserved : goal.chain-loop-rest-preserved
chain-loop-rest-preserved t c =
    goes_on (unit c.args.end (levels c.args.end c.args.levels)) c.args.operator c.args.first _ _ c.in_ok-next.next c.args.tokens.now _ _ c.in_ok-next.rest.now c.loop-rest.invariant c.in-Some.ensures.rest c.in-Some.ensures.left c.in_ok-next.ensures.reads c.in_ok-next.ensures.left c.in_ok-push-3.ensures.items

pub chain-loop-rest-smaller : goal.chain-loop-rest-smaller
chain-loop-rest-smaller t c = omega (arith, c.in-Some.ensures.left, c.in_ok-next.ensures.left)

pub chain-returns-in_err-next-clause-reads : goal.chain-returns-in_err-next-clause-reads
chain-returns-in_err-next-clause-reads t c =
    let p = err_from_is_err_and c.from_residual-in_err-next.result c.from_residual-in_err-next.ensures.1 in
    rw (p.1, p.2) (λ other. fails (unit c.args.end (levels c.args.end c.args.levels)) c.args.operator c.args.first _ c.in_err-next.field-0.0 c.args.tokens.now _ _ c.loop-rest.invariant c.in-Some.ensures.rest c.in-Some.ensures.left (c.in_err-next.ensures.reads other))

pub chain-returns-clause-reads : goal.chain-returns-clause-reads
chain-returns-clause-reads t c =
    let e = ended (unit c.args.end (levels c.args.end c.args.levels)) c.args.operator c.args.first c.loop-rest.units.items c.args.tokens.now c.loop-rest.left.now c.loop-rest.invariant c.in_default.ensures.rest in
    subst (λ (r : Reading (Formula Atom)). Reads c.joined.result r) e c.joined.ensures.reads

pub operand-returns-in-Some-Not-default-default-clause-reads : goal.operand-returns-in-Some-Not-default-default-clause-reads
operand-returns-in-Some-Not-default-default-clause-reads t c = rw (c.in-Some-Not-default-default.ensures, c.in-Some-Not-default-default.field-0-0-is) c.negated.ensures.reads

pub operand-returns-in-Some-Open-default-default-clause-reads : goal.operand-returns-in-Some-Open-default-default-clause-reads
operand-returns-in-Some-Open-default-default-clause-reads t c = rw (c.in-Some-Open-default-default.ensures, c.in-Some-Open-default-default.field-0-0-is) c.enclosed.ensures.reads

pub operand-returns-in-Some-Number-default-default-clause-reads : goal.operand-returns-in-Some-Number-default-default-clause-reads
operand-returns-in-Some-Number-default-default-clause-reads t c = rw (c.in-Some-Number-default-default.ensures, c.in-Some-Number-default-default.field-0-0-is) c.truth.ensures.reads

pub operand-returns-in_err-part-in-Some-Name-default-default-clause-reads : goal.operand-returns-in_err-part-in-Some-Name-default-default-clause-reads
operand-returns-in_err-part-in-Some-Name-default-default-clause-reads t c =
    rw (c.in-Some-Name-default-default.ensures, c.in-Some-Name-default-default.field-0-0-is) (fails_after c.from_residual.result _ _ _ c.from_residual.ensures.1 c.in_err-part-in-Some-Name-default-default.ensures.reads)

pub operand-returns-in_ok-part-in-Some-Name-default-default-clause-reads : goal.operand-returns-in_ok-part-in-Some-Name-default-default-clause-reads
operand-returns-in_ok-part-in-Some-Name-default-default-clause-reads t c = rw (c.in-Some-Name-default-default.ensures, c.in-Some-Name-default-default.field-0-0-is, c.in_ok-part-in-Some-Name-default-default.ensures.reads, c.atom.ensures) refl

pub unit-returns-in_err-part-in-Some-Name-default-default-clause-reads : goal.unit-returns-in_err-part-in-Some-Name-default-default-clause-reads
unit-returns-in_err-part-in-Some-Name-default-default-clause-reads t c =
    rw (c.in-Some-Name-default-default.ensures, c.in-Some-Name-default-default.field-0-0-is) (fails_after c.from_residual.result _ _ _ c.from_residual.ensures.1 c.in_err-part-in-Some-Name-default-default.ensures.reads)

pub unit-returns-in_ok-part-in-Some-Name-default-default-clause-reads : goal.unit-returns-in_ok-part-in-Some-Name-default-default-clause-reads
unit-returns-in_ok-part-in-Some-Name-default-default-clause-reads t c = rw (c.in-Some-Name-default-default.ensures, c.in-Some-Name-default-default.field-0-0-is, c.in_ok-part-in-Some-Name-default-default.ensures.reads) c.compared.ensures.reads

pub whole-returns-in_err-first-clause-reads : goal.whole-returns-in_err-first-clause-reads
whole-returns-in_err-first-clause-reads t c = fails_after c.from_residual.result _ _ _ c.from_residual.ensures.1 c.in_err-first.ensures.reads

pub whole-returns-in-Some-And-default-default-clause-reads : goal.whole-returns-in-Some-And-default-default-clause-reads
whole-returns-in-Some-And-default-default-clause-reads t c = rw (c.in_ok-first.ensures.reads, c.in-Some-And-default-default.ensures, c.in-Some-And-default-default.field-0-0-is) c.chain.ensures.reads

pub whole-returns-in-Some-Or-default-default-clause-reads : goal.whole-returns-in-Some-Or-default-default-clause-reads
whole-returns-in-Some-Or-default-default-clause-reads t c = rw (c.in_ok-first.ensures.reads, c.in-Some-Or-default-default.ensures, c.in-Some-Or-default-default.field-0-0-is) c.chain-in-Some-Or-default-default.ensures.reads
