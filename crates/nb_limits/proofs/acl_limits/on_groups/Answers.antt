use Rattle.std.proofs.Common.{sym, ap, ◌∙◌}
use Rattle.nb_records.specs.declared.sets.Group.{Group}
use Rattle.nb_model.specs.Amounts.{total}
use Rattle.nb_limits.specs.inner.Weights.{on_group}
use Rattle.nb_limits.proofs.Rest.{next_left, none_left, first_left}
use Rattle.nb_limits.proofs.Sums.{fewer, told, sum_begins, sum_goes_on, sum_over, part_over, sum_ends}
use Rattle.nb_limits.proofs.acl_limits.on_groups.Goals as goal

pub loop-after-smaller : goal.loop-after-smaller
loop-after-smaller c =
    fewer _ _ c.in-Some.group.now
    (next_left (λ (group : Group). group.id) c.loop-after.after c.args.records.now.groups c.in-Some.group.now c.groups.result.now c.groups.ensures c.in-Some.ensures.rise c.in-Some.ensures.record)

pub loop-after-init : goal.loop-after-init
loop-after-init c = sum_begins (on_group c.args.measure c.args.records.now) c.args.bound _ _ (ap (total (on_group c.args.measure c.args.records.now)) (first_left (λ (group : Group). group.id) c.args.records.now.groups))

pub loop-after-preserved : goal.loop-after-preserved
loop-after-preserved c =
    sum_goes_on _ _ _ _ _ c.loop-after.invariant c.in-Some.group.now _
    (next_left (λ (group : Group). group.id) c.loop-after.after c.args.records.now.groups c.in-Some.group.now c.groups.result.now c.groups.ensures c.in-Some.ensures.rise c.in-Some.ensures.record)
    c.in-Some-part.more c.in-Some-add.total (told _ _ _ (sym c.in-Some-part.is ∙ c.in_ok-part.ensures)).0 c.in-Some-add.ensures

pub returns-in_default-part : goal.returns-in_default-part
returns-in_default-part c =
    sym (part_over _ _ _ _ _ c.loop-after.invariant c.in-Some.group.now _
    (next_left (λ (group : Group). group.id) c.loop-after.after c.args.records.now.groups c.in-Some.group.now c.groups.result.now c.groups.ensures c.in-Some.ensures.rise c.in-Some.ensures.record)
    (sym c.in_default-part.is ∙ c.in_ok-part.ensures))

pub returns-in_default-add : goal.returns-in_default-add
returns-in_default-add c =
    sym (sum_over _ _ _ _ _ c.loop-after.invariant c.in-Some.group.now _
    (next_left (λ (group : Group). group.id) c.loop-after.after c.args.records.now.groups c.in-Some.group.now c.groups.result.now c.groups.ensures c.in-Some.ensures.rise c.in-Some.ensures.record)
    c.in-Some-part.more (told _ _ _ (sym c.in-Some-part.is ∙ c.in_ok-part.ensures)).0 c.in_default-add.ensures)

pub returns : goal.returns
returns c =
    sym (sum_ends _ _ _ _ _ c.loop-after.invariant (none_left (λ (group : Group). group.id) c.loop-after.after c.args.records.now.groups c.groups.result.now c.groups.ensures c.in_default.ensures.record))
