use Rattle.std.proofs.Common.{◌∙◌, ap, max, length}
use Rattle.nb_records.specs.declared.balancer.Lb.{Lb}
use Rattle.nb_model.specs.Amounts.{greatest}
use Rattle.nb_limits.proofs.Greatest.{greater, most_begins, most_goes_on, most_ends}
use Rattle.nb_limits.proofs.Rest.{next_left, none_left, first_left}
use Rattle.nb_limits.proofs.Sums.{fewer}
use Rattle.nb_limits.proofs.balancer_limits.backend_count.Goals as goal

pub loop-after-smaller : goal.loop-after-smaller
loop-after-smaller c = fewer _ _ c.in-Some.lb.now (next_left (λ (lb : Lb). lb.id) c.loop-after.after c.args.records.now.lbs c.in-Some.lb.now c.lbs.result.now c.lbs.ensures c.in-Some.ensures.rise c.in-Some.ensures.record)

pub loop-after-init : goal.loop-after-init
loop-after-init c = most_begins _ ∙ ap (greatest (λ (lb : Lb). greatest (λ vip. length vip.backends) lb.vips)) (first_left (λ (lb : Lb). lb.id) c.args.records.now.lbs)

pub loop-after-preserved : goal.loop-after-preserved
loop-after-preserved c =
    most_goes_on (λ (lb : Lb). greatest (λ vip. length vip.backends) lb.vips) c.loop-after.most c.max-most.result _ _ c.in-Some.lb.now _ c.loop-after.invariant
    (next_left (λ (lb : Lb). lb.id) c.loop-after.after c.args.records.now.lbs c.in-Some.lb.now c.lbs.result.now c.lbs.ensures c.in-Some.ensures.rise c.in-Some.ensures.record)
    (c.max-most.ensures ∙ greater _ _ ∙ ap (max c.loop-after.most) c.most_backends.ensures)

pub returns : goal.returns
returns c = most_ends (λ (lb : Lb). greatest (λ vip. length vip.backends) lb.vips) _ _ _ c.loop-after.invariant (none_left (λ (lb : Lb). lb.id) c.loop-after.after c.args.records.now.lbs c.lbs.result.now c.lbs.ensures c.in_default.ensures.record)
