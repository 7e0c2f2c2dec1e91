use Rattle.std.proofs.Common.{[], ◌∷◌}
use Rattle.lr_rows.specs.Make.{arp_rule_for}
use Rattle.lr_rows.specs.Nat.{translating_rules, nat_rules}
use Rattle.lr_rows.proofs.Said.{and_then}
use Rattle.lr_nat.proofs.nat_rule.put_nat_rules.Goals as goal

pub returns : goal.returns
unfolding nat_rules
returns c =
    let input = c.args.input.now in
    and_then c.args.unit (arp_rule_for input.external ∷ []) c.args.rows.now _ c.in_ok-put_arp_rule.ensures (translating_rules input.kind input) _ c.in_ok-put_translating_rules.ensures
