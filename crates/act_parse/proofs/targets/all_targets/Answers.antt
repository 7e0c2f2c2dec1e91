use Rattle.std.proofs.lemmas.Result.{err_from_is_err_and}
use Rattle.act_parse.proofs.Loops.{targets_begin, targets_more, targets_end, targets_fail}
use Rattle.act_parse.proofs.targets.all_targets.Goals as goal

pub loop-rest-init : goal.loop-rest-init
loop-rest-init c = targets_begin c.args.text.now c.in_ok-first.left.now c.in_ok-first.first _ _ _ c.new-targets.ensures c.in_ok-push.ensures.ok c.is_some-has_port.ensures c.in_ok-first.ensures.left c.in_ok-first.ensures.reads

pub loop-rest-preserved : goal.loop-rest-preserved
loop-rest-preserved c = (targets_more c.args.text.now c.loop-rest.left.now c.in-Some.rest.now c.in_ok-next.rest.now _ _ _ c.in_ok-next.next c.loop-rest.invariant c.in-Some.ensures.at c.in-Some.ensures.rest c.in_ok-next.ensures.reads c.in_ok-next.ensures.left c.in_ok-push-2.ensures.ok).0

pub returns-in_err-next-clause-reads : goal.returns-in_err-next-clause-reads
returns-in_err-next-clause-reads c =
    let p = err_from_is_err_and c.from_residual-in_err-next.result c.from_residual-in_err-next.ensures.1 in
    rw (p.1) (targets_fail c.args.text.now c.loop-rest.left.now c.in-Some.rest.now _ _ c.in_err-next.field-0.0 p.0 c.loop-rest.invariant c.in-Some.ensures.at c.in-Some.ensures.rest c.in_err-next.ensures.reads p.2)

pub returns-clause-reads : goal.returns-clause-reads
returns-clause-reads c = targets_end c.args.text.now c.loop-rest.left.now _ _ c.loop-rest.invariant c.in_default.ensures.rest
