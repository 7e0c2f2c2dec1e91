use Rattle.std.proofs.Common.{refl}
use Rattle.net_units.specs.Keys.{by_number}
use Rattle.lr_units.specs.Units.{nat_rule_input, nat_rule_units}
use Rattle.nb_records.specs.declared.router.Nat.{Nat}
use Rattle.nd_touched.proofs.Fed.{fed_units}
use Rattle.nd_touched.proofs.Stay.{given_stays}
use Rattle.nd_own.proofs.nat_rule.nat_rule_delta.Goals as goal

pub returns-clause-tells : goal.returns-clause-tells
returns-clause-tells c = λ old same has.
    c.in_ok-delta_of.ensures.tells (nat_rule_units c.args.records.now)
    (fed_units by_number c.args.touched.now.nats (nat_rule_units old) (nat_rule_units c.args.records.now) c.args.there.now _ has (λ key. refl)
    (λ n not. given_stays (λ (p : Nat). p.id) nat_rule_input old.nats c.args.records.now.nats n (same.nats n not)))
