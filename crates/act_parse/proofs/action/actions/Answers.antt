use Rattle.std.proofs.Common.{sym, ◌∙◌}
use Rattle.act_parse.proofs.Loops.{actions_begin, actions_more}
use Rattle.act_parse.proofs.action.actions.Goals as goal

pub loop-alloc-init : goal.loop-alloc-init
loop-alloc-init c = actions_begin c.args.text.now c.in_ok-first.left.now c.in_ok-first.first _ _ c.new-actions.ensures c.in_ok-push.ensures.ok (sym c.is_empty.ensures ∙ c.if-is_empty.false) c.in_ok-first.ensures.reads

pub loop-alloc-preserved : goal.loop-alloc-preserved
loop-alloc-preserved c = actions_more c.args.text.now c.loop-alloc.left.now c.in_ok-next.rest.now _ _ c.in_ok-next.next c.loop-alloc.invariant c.in_ok-next.ensures.reads c.in_ok-next.ensures.left c.in_ok-push-2.ensures.ok
