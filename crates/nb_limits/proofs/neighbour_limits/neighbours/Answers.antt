use Rattle.std.proofs.Common.{sym, ap, ◌∙◌}
use Rattle.nb_records.specs.declared.switch.Switch.{Switch}
use Rattle.nb_model.specs.Amounts.{total}
use Rattle.nb_limits.specs.inner.Across.{neighbours_on}
use Rattle.nb_limits.specs.inner.Within.{up_to}
use Rattle.nb_limits.proofs.Neighbours.{all_known}
use Rattle.nb_limits.proofs.Rest.{next_left, none_left, first_left}
use Rattle.nb_limits.proofs.Sums.{fewer, told, sum_begins, sum_goes_on, sum_over, part_over, sum_ends}
use Rattle.nb_limits.proofs.neighbour_limits.neighbours.Goals as goal

pub loop-after-smaller : goal.loop-after-smaller
loop-after-smaller c =
    fewer _ _ c.in-Some.switch.now
    (next_left (λ (switch : Switch). switch.id) c.loop-after.after c.args.records.now.switches c.in-Some.switch.now c.switches.result.now c.switches.ensures c.in-Some.ensures.rise c.in-Some.ensures.record)

pub loop-after-init : goal.loop-after-init
loop-after-init c =
    sum_begins (λ switch. neighbours_on c.args.records.now switch.id) c.args.bound _ _
    (ap (total (λ switch. neighbours_on c.args.records.now switch.id)) (first_left (λ (switch : Switch). switch.id) c.args.records.now.switches))

pub loop-after-preserved : goal.loop-after-preserved
loop-after-preserved c =
    sum_goes_on _ _ _ _ _ c.loop-after.invariant c.in-Some.switch.now _
    (next_left (λ (switch : Switch). switch.id) c.loop-after.after c.args.records.now.switches c.in-Some.switch.now c.switches.result.now c.switches.ensures c.in-Some.ensures.rise c.in-Some.ensures.record)
    c.in_ok-more.more c.in_ok-sum.sum (told _ _ _ c.in_ok-more.ensures).0 c.in_ok-sum.ensures

pub returns-in_err-more : goal.returns-in_err-more
returns-in_err-more c =
    c.from_residual.ensures
    ∙ sym (part_over _ _ _ _ _ c.loop-after.invariant c.in-Some.switch.now _
    (next_left (λ (switch : Switch). switch.id) c.loop-after.after c.args.records.now.switches c.in-Some.switch.now c.switches.result.now c.switches.ensures c.in-Some.ensures.rise c.in-Some.ensures.record)
    c.in_err-more.ensures)
    ∙ ap (up_to c.args.bound) (all_known c.args.records.now c.requires.limitless)

pub returns-in_err-sum : goal.returns-in_err-sum
returns-in_err-sum c =
    c.from_residual-in_err-sum.ensures
    ∙ sym (sum_over _ _ _ _ _ c.loop-after.invariant c.in-Some.switch.now _
    (next_left (λ (switch : Switch). switch.id) c.loop-after.after c.args.records.now.switches c.in-Some.switch.now c.switches.result.now c.switches.ensures c.in-Some.ensures.rise c.in-Some.ensures.record)
    c.in_ok-more.more (told _ _ _ c.in_ok-more.ensures).0 c.in_err-sum.ensures)
    ∙ ap (up_to c.args.bound) (all_known c.args.records.now c.requires.limitless)

pub returns : goal.returns
returns c =
    sym (sum_ends _ _ _ _ _ c.loop-after.invariant
    (none_left (λ (switch : Switch). switch.id) c.loop-after.after c.args.records.now.switches c.switches.result.now c.switches.ensures c.in_default.ensures.record))
    ∙ ap (up_to c.args.bound) (all_known c.args.records.now c.requires.limitless)
