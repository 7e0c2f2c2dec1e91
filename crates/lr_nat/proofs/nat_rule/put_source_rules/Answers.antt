use Rattle.lr_nat.proofs.Said.{two_rows}
use Rattle.lr_nat.proofs.nat_rule.put_source_rules.Goals as goal

pub returns : goal.returns
returns c = two_rows c.args.unit c.args.rows.now _ _ _ _ _ _ c.in_ok-undoing_rule.ensures c.in_ok-source_rule.ensures c.in_ok-put.ensures.ok c.in_ok-put-2.ensures.ok
