use Rattle.std.proofs.Common.{sym, ◌∙◌, arith}
use Rattle.std.proofs.lemmas.Result.{err_from_is_err_and}
use Rattle.act_parse.proofs.Loops.{steps_begin, steps_more, steps_end, steps_fail, stuck_after}
use Rattle.act_parse.proofs.action.all_steps.Goals as goal

pub loop-alloc-init : goal.loop-alloc-init
loop-alloc-init c = steps_begin c.args.text.now c.in_ok-first.left.now c.in_ok-first.first _ _ c.new-steps.ensures c.in_ok-push.ensures.ok (omega (arith, c.in_ok-first.ensures.left)) c.in_ok-first.ensures.reads

pub loop-alloc-preserved : goal.loop-alloc-preserved
loop-alloc-preserved c = steps_more c.args.text.now c.loop-alloc.left.now c.in_ok-next.rest.now _ _ c.in_ok-next.next c.loop-alloc.invariant (sym c.is_at.ensures ∙ c.loop-alloc-test.true) c.in_ok-next.ensures.reads c.in_ok-next.ensures.left c.in_ok-push-2.ensures.ok

pub returns-in_err-next-clause-reads : goal.returns-in_err-next-clause-reads
returns-in_err-next-clause-reads c =
    let p = err_from_is_err_and c.from_residual-in_err-next.result c.from_residual-in_err-next.ensures.1 in
    rw (p.1) (steps_fail c.args.text.now c.loop-alloc.left.now _ c.in_err-next.field-0.0 p.0 c.loop-alloc.invariant (sym c.is_at.ensures ∙ c.loop-alloc-test.true) c.in_err-next.ensures.reads p.2)

pub returns-clause-reads : goal.returns-clause-reads
returns-clause-reads c = steps_end c.args.text.now c.loop-alloc.left.now _ c.loop-alloc.invariant (sym c.is_at.ensures ∙ c.loop-alloc-test.false)

pub returns-in_err-first-clause-reads : goal.returns-in_err-first-clause-reads
returns-in_err-first-clause-reads c = stuck_after c.from_residual.result _ _ _ c.from_residual.ensures.1 c.in_err-first.ensures.reads
