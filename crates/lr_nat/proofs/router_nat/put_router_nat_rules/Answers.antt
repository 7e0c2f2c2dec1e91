use Rattle.lr_rows.specs.Nat.{passing_rules, connection_rules, router_nat_rules}
use Rattle.lr_rows.proofs.Said.{and_then}
use Rattle.lr_nat.proofs.router_nat.put_router_nat_rules.Goals as goal

pub returns : goal.returns
unfolding router_nat_rules
returns c =
    and_then c.args.unit passing_rules c.args.rows.now _ c.in_ok-put_passing_rules.ensures (connection_rules c.args.input.dnats) _ c.in_ok-put_connection_rules.ensures
