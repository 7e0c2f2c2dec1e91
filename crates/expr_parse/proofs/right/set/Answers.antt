use Rattle.expr_parse.proofs.Chains.{begins_set, set_goes_on, fails_after}
use Rattle.expr_parse.proofs.right.set.Goals as goal

pub loop-rest-init : goal.loop-rest-init
loop-rest-init c = begins_set c.args.end c.args.tokens.now c.in_ok-first.left.now c.in_ok-first.first _ _ c.new-items.ensures c.in_ok-push.ensures.ok c.in_ok-first.ensures.left c.in_ok-first.ensures.reads

pub returns-in_err-first-clause-reads : goal.returns-in_err-first-clause-reads
returns-in_err-first-clause-reads c = fails_after c.from_residual.result _ _ _ c.from_residual.ensures.1 c.in_err-first.ensures.reads

pub loop-rest-preserved : goal.loop-rest-preserved
loop-rest-preserved c =
    let comma = rw (c.in-Some-Comma-default-default.field-0-0-is) at c.in-Some-Comma-default-default.ensures in
    set_goes_on c.args.end c.args.tokens.now _ _ c.in_ok-next.rest.now _ c.in_ok-next.next _ _ c.loop-rest.invariant comma c.in_ok-next.ensures.reads c.in_ok-next.ensures.left c.in_ok-push-2.ensures.ok
