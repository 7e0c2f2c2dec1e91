use Rattle.std.proofs.Common.{sym, ◌∙◌, refl}
use Rattle.nb_records.specs.declared.switch.Switch.{Switch}
use Rattle.nb_model.specs.Belongs.{is_among}
use Rattle.nb_store.proofs.PlacedRecords.{rises}
use Rattle.nb_limits.proofs.Rest.{next_rest, no_rest}
use Rattle.nb_limits.proofs.Sums.{fewer, sum_goes_on, sum_over, sum_ends}
use Rattle.nb_limits.proofs.balancer_limits.switches_with.Goals as goal

pub loop-switch-smaller : goal.loop-switch-smaller
loop-switch-smaller c =
    fewer _ _ c.in-Some.switch.now
    (next_rest (λ (switch : Switch). switch.id) (λ switch. is_among c.args.lb switch.lbs) c.loop-switch.after c.in-Some.switch.now c.args.records.now.switches (rises (λ (switch : Switch). switch.id) c.args.records.now.switches c.requires.limitless.numbered.order.switches) (sym c.in-Some.ensures))

pub loop-switch-preserved : goal.loop-switch-preserved
loop-switch-preserved c =
    sum_goes_on _ _ _ _ _ c.loop-switch.invariant c.in-Some.switch.now _
    (next_rest (λ (switch : Switch). switch.id) (λ switch. is_among c.args.lb switch.lbs) c.loop-switch.after c.in-Some.switch.now c.args.records.now.switches (rises (λ (switch : Switch). switch.id) c.args.records.now.switches c.requires.limitless.numbered.order.switches) (sym c.in-Some.ensures))
    c.args.each c.in_ok-sum.sum refl c.in_ok-sum.ensures

pub returns-in_err-sum : goal.returns-in_err-sum
returns-in_err-sum c =
    c.from_residual.ensures
    ∙ sym (sum_over _ _ _ _ _ c.loop-switch.invariant c.in-Some.switch.now _
    (next_rest (λ (switch : Switch). switch.id) (λ switch. is_among c.args.lb switch.lbs) c.loop-switch.after c.in-Some.switch.now c.args.records.now.switches (rises (λ (switch : Switch). switch.id) c.args.records.now.switches c.requires.limitless.numbered.order.switches) (sym c.in-Some.ensures))
    c.args.each refl c.in_err-sum.ensures)

pub returns : goal.returns
returns c = sym (sum_ends _ _ _ _ _ c.loop-switch.invariant (no_rest (λ (switch : Switch). switch.id) (λ switch. is_among c.args.lb switch.lbs) c.loop-switch.after c.args.records.now.switches (sym c.in_default.ensures)))
