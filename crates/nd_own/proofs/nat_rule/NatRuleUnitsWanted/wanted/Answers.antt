use Rattle.std.proofs.Common.{None, Some, ap, ◌∙◌}
use Rattle.nb_records.specs.declared.router.Nat.{Nat}
use Rattle.lr_units.specs.Units.{nat_rule_input}
use Rattle.nd_touched.proofs.Stay.{found_gives}
use Rattle.nd_own.proofs.nat_rule.NatRuleUnitsWanted.wanted.Goals as goal

pub returns-in-Some : goal.returns-in-Some
returns-in-Some c =
    ap Some c.nat_rule_input.ensures ∙ found_gives (λ (p : Nat). p.id) nat_rule_input c.args.key.now c.args.self.now.records.now.nats _ (Some c.in-Some.nat.now) c.in-Some.ensures.record c.nats.ensures

pub returns-in-None : goal.returns-in-None
returns-in-None c = found_gives (λ (p : Nat). p.id) nat_rule_input c.args.key.now c.args.self.now.records.now.nats _ None c.in-None.ensures.record c.nats.ensures
