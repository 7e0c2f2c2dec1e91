use Rattle.lr_rows.specs.Nat.{source_rules, destination_rules}
use Rattle.lr_rows.proofs.Said.{and_then}
use Rattle.lr_nat.proofs.nat_rule.put_both.Goals as goal

pub returns : goal.returns
returns c =
    let input = c.args.input.now in
    and_then c.args.unit (source_rules input) c.args.rows.now _ c.in_ok-put_source_rules.ensures (destination_rules input) _ c.in_ok-put_destination_rules.ensures
