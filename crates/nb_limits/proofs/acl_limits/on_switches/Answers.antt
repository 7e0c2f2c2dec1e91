use Rattle.std.proofs.Common.{sym, ap}
use Rattle.nb_records.specs.declared.acl.Acl.{Acl}
use Rattle.nb_model.specs.Amounts.{total}
use Rattle.nb_limits.specs.inner.Weights.{on_switch}
use Rattle.nb_limits.proofs.Rest.{next_left, none_left, first_left}
use Rattle.nb_limits.proofs.Sums.{fewer, sum_begins, sum_goes_on, sum_over, sum_ends}
use Rattle.nb_limits.proofs.acl_limits.on_switches.Goals as goal

pub loop-after-smaller : goal.loop-after-smaller
loop-after-smaller c =
    fewer _ _ c.in-Some.acl.now
    (next_left (λ (acl : Acl). acl.id) c.loop-after.after c.args.records.now.acls c.in-Some.acl.now c.acls.result.now c.acls.ensures c.in-Some.ensures.rise c.in-Some.ensures.record)

pub loop-after-init : goal.loop-after-init
loop-after-init c = sum_begins (on_switch c.args.measure c.args.records.now) c.args.bound _ _ (ap (total (on_switch c.args.measure c.args.records.now)) (first_left (λ (acl : Acl). acl.id) c.args.records.now.acls))

pub loop-after-preserved : goal.loop-after-preserved
loop-after-preserved c =
    sum_goes_on _ _ _ _ _ c.loop-after.invariant c.in-Some.acl.now _
    (next_left (λ (acl : Acl). acl.id) c.loop-after.after c.args.records.now.acls c.in-Some.acl.now c.acls.result.now c.acls.ensures c.in-Some.ensures.rise c.in-Some.ensures.record)
    c.in_ok-more.more c.in-Some-add.total c.in_ok-more.ensures c.in-Some-add.ensures

pub returns-in_default-add : goal.returns-in_default-add
returns-in_default-add c =
    sym (sum_over _ _ _ _ _ c.loop-after.invariant c.in-Some.acl.now _
    (next_left (λ (acl : Acl). acl.id) c.loop-after.after c.args.records.now.acls c.in-Some.acl.now c.acls.result.now c.acls.ensures c.in-Some.ensures.rise c.in-Some.ensures.record)
    c.in_ok-more.more c.in_ok-more.ensures c.in_default-add.ensures)

pub returns : goal.returns
returns c =
    sym (sum_ends _ _ _ _ _ c.loop-after.invariant (none_left (λ (acl : Acl). acl.id) c.loop-after.after c.args.records.now.acls c.acls.result.now c.acls.ensures c.in_default.ensures.record))
