use Rattle.std.proofs.Common.{ap, ◌∙◌, max, length, List}
use Rattle.nb_records.specs.declared.balancer.Backend.{Backend}
use Rattle.nb_limits.proofs.Greatest.{greater, most_begins, most_goes_on, most_ends}
use Rattle.nb_limits.proofs.Rest.{next_dropped, none_dropped}
use Rattle.nb_limits.proofs.balancer_limits.most_backends.Goals as goal

pub loop-vip-init : goal.loop-vip-init
loop-vip-init c = most_begins _

pub loop-vip-preserved : goal.loop-vip-preserved
loop-vip-preserved c =
    most_goes_on (λ vip. length vip.backends) c.loop-vip.most c.max-most.result _ _ c.vip-item.result _ c.loop-vip.invariant
    (next_dropped c.as_slice-vip-items.result.now c.args.lb.now.vips c.loop-vip.vip-index c.vip-item.result c.as_slice-vip-items.ensures c.loop-vip-test.true c.vip-item.is)
    (c.max-most.ensures ∙ greater _ _ ∙ ap (λ (l : List Backend). max c.loop-vip.most (length l)) c.as_slice.ensures)

pub returns : goal.returns
returns c =
    most_ends (λ vip. length vip.backends) _ _ _ c.loop-vip.invariant (none_dropped c.as_slice-vip-items.result.now c.args.lb.now.vips c.loop-vip.vip-index c.as_slice-vip-items.ensures c.loop-vip-test.false)
