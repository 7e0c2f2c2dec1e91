use Rattle.std.proofs.Common.{ap, sym, ◌∙◌}
use Rattle.nb_records.specs.declared.router.Nat.{Nat}
use Rattle.net_units.specs.Keys.{by_number}
use Rattle.nd_inputs.proofs.Sound.{nats_rise}
use Rattle.nd_touched.proofs.Fed.{fed_units}
use Rattle.nd_owners.specs.inner.Found.{owner_where}
use Rattle.nd_owners.proofs.Kept.{owner_at}
use Rattle.nd_nats.specs.Dnats.{dnat_rules, is_dnat}
use Rattle.nd_nats.proofs.dnats.dnat_delta.Goals as goal

pub returns-clause-tells : goal.returns-clause-tells
returns-clause-tells c = λ old sound same has.
    let at_new = owner_at (λ (x : Nat). x.id) (λ (x : Nat). x.router) is_dnat c.args.records.now.nats (nats_rise c.args.records.now c.requires.sound) in
    c.in_ok-delta_of.ensures.tells (dnat_rules c.args.records.now)
    (fed_units by_number c.args.touched.now.nats (dnat_rules old) (dnat_rules c.args.records.now) c.args.there.now _ has (λ key. sym (at_new key))
    (λ n not.
    owner_at (λ (x : Nat). x.id) (λ (x : Nat). x.router) is_dnat old.nats (nats_rise old sound) n
    ∙ ap (owner_where (λ (x : Nat). x.router) is_dnat) (same.nats n not)
    ∙ sym (at_new n)))
