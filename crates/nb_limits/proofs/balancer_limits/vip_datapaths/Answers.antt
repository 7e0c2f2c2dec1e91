use Rattle.std.proofs.Common.{sym, ap, ◌∙◌, length}
use Rattle.nb_records.specs.declared.balancer.Lb.{Lb}
use Rattle.nb_model.specs.Amounts.{total}
use Rattle.nb_limits.specs.inner.Attached.{attached, attached_vips}
use Rattle.nb_limits.specs.inner.Within.{up_to}
use Rattle.nb_limits.proofs.Attached.{all_attached}
use Rattle.nb_limits.proofs.Rest.{next_left, none_left, first_left}
use Rattle.nb_limits.proofs.Sums.{fewer, told, sum_begins, sum_goes_on, sum_over, part_over, sum_ends}
use Rattle.nb_limits.proofs.balancer_limits.vip_datapaths.Goals as goal

pub loop-after-smaller : goal.loop-after-smaller
loop-after-smaller c = fewer _ _ c.in-Some.lb.now (next_left (λ (lb : Lb). lb.id) c.loop-after.after c.args.records.now.lbs c.in-Some.lb.now c.lbs.result.now c.lbs.ensures c.in-Some.ensures.rise c.in-Some.ensures.record)

pub loop-after-init : goal.loop-after-init
loop-after-init c = sum_begins (attached_vips c.args.records.now) c.args.bound _ _ (ap (total (attached_vips c.args.records.now)) (first_left (λ (lb : Lb). lb.id) c.args.records.now.lbs))

pub loop-after-preserved : goal.loop-after-preserved
loop-after-preserved c =
    sum_goes_on _ _ _ _ _ c.loop-after.invariant c.in-Some.lb.now _ (next_left (λ (lb : Lb). lb.id) c.loop-after.after c.args.records.now.lbs c.in-Some.lb.now c.lbs.result.now c.lbs.ensures c.in-Some.ensures.rise c.in-Some.ensures.record)
    c.in_ok-more.more c.in_ok-sum.sum ((told _ _ _ c.in_ok-more.ensures).0 ∙ ap (attached c.args.records.now c.in-Some.lb.now.id) (ap length c.as_slice.ensures)) c.in_ok-sum.ensures

pub returns-in_err-more : goal.returns-in_err-more
returns-in_err-more c =
    c.from_residual.ensures
    ∙ sym (part_over _ _ _ _ _ c.loop-after.invariant c.in-Some.lb.now _ (next_left (λ (lb : Lb). lb.id) c.loop-after.after c.args.records.now.lbs c.in-Some.lb.now c.lbs.result.now c.lbs.ensures c.in-Some.ensures.rise c.in-Some.ensures.record) (c.in_err-more.ensures ∙ ap (λ n. up_to c.args.bound (attached c.args.records.now c.in-Some.lb.now.id n)) (ap length c.as_slice.ensures)))
    ∙ ap (up_to c.args.bound) (all_attached c.args.records.now)

pub returns-in_err-sum : goal.returns-in_err-sum
returns-in_err-sum c =
    c.from_residual-in_err-sum.ensures
    ∙ sym (sum_over _ _ _ _ _ c.loop-after.invariant c.in-Some.lb.now _ (next_left (λ (lb : Lb). lb.id) c.loop-after.after c.args.records.now.lbs c.in-Some.lb.now c.lbs.result.now c.lbs.ensures c.in-Some.ensures.rise c.in-Some.ensures.record) c.in_ok-more.more ((told _ _ _ c.in_ok-more.ensures).0 ∙ ap (attached c.args.records.now c.in-Some.lb.now.id) (ap length c.as_slice.ensures)) c.in_err-sum.ensures)
    ∙ ap (up_to c.args.bound) (all_attached c.args.records.now)

pub returns : goal.returns
returns c =
    sym (sum_ends _ _ _ _ _ c.loop-after.invariant (none_left (λ (lb : Lb). lb.id) c.loop-after.after c.args.records.now.lbs c.lbs.result.now c.lbs.ensures c.in_default.ensures.record))
    ∙ ap (up_to c.args.bound) (all_attached c.args.records.now)
