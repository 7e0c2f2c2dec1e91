use Rattle.std.proofs.Common.{◌*◌, sym, ap}
use Rattle.nb_records.specs.declared.acl.Acl.{Acl}
use Rattle.nb_model.specs.Network.{same}
use Rattle.nb_store.proofs.PlacedRecords.{rises}
use Rattle.nb_limits.proofs.Rest.{next_rest, no_rest}
use Rattle.nb_limits.proofs.Sums.{fewer, sum_goes_on, sum_over, sum_ends}
use Rattle.nb_limits.proofs.acl_limits.of_owner.Goals as goal

pub loop-acl-smaller : goal.loop-acl-smaller
loop-acl-smaller c =
    fewer _ _ c.in-Some.acl.now
    (next_rest (λ (acl : Acl). acl.id) (λ acl. same c.args.owner acl.owner) c.loop-acl.after c.in-Some.acl.now c.args.records.now.acls (rises (λ (acl : Acl). acl.id) c.args.records.now.acls c.requires.limitless.numbered.order.acls) (sym c.in-Some.ensures))

pub loop-acl-preserved : goal.loop-acl-preserved
loop-acl-preserved c =
    sum_goes_on _ _ _ _ _ c.loop-acl.invariant c.in-Some.acl.now _
    (next_rest (λ (acl : Acl). acl.id) (λ acl. same c.args.owner acl.owner) c.loop-acl.after c.in-Some.acl.now c.args.records.now.acls (rises (λ (acl : Acl). acl.id) c.args.records.now.acls c.requires.limitless.numbered.order.acls) (sym c.in-Some.ensures))
    (c.in_ok-weight.weight * c.args.times) c.in-Some-add_times.total (ap (λ n. n * c.args.times) c.in_ok-weight.ensures) c.in-Some-add_times.ensures

pub returns-in_default-add_times : goal.returns-in_default-add_times
returns-in_default-add_times c =
    sym (sum_over _ _ _ _ _ c.loop-acl.invariant c.in-Some.acl.now _
    (next_rest (λ (acl : Acl). acl.id) (λ acl. same c.args.owner acl.owner) c.loop-acl.after c.in-Some.acl.now c.args.records.now.acls (rises (λ (acl : Acl). acl.id) c.args.records.now.acls c.requires.limitless.numbered.order.acls) (sym c.in-Some.ensures))
    (c.in_ok-weight.weight * c.args.times) (ap (λ n. n * c.args.times) c.in_ok-weight.ensures) c.in_default-add_times.ensures)

pub returns : goal.returns
returns c =
    sym (sum_ends _ _ _ _ _ c.loop-acl.invariant (no_rest (λ (acl : Acl). acl.id) (λ acl. same c.args.owner acl.owner) c.loop-acl.after c.args.records.now.acls (sym c.in_default.ensures)))
