use Rattle.lr_rows.specs.Input.{admission_rules, input_rules}
use Rattle.lr_rows.proofs.Said.{and_then}
use Rattle.lr_in.proofs.router_in.put_router_in_rules.Goals as goal

pub returns : goal.returns
returns c = and_then c.args.unit admission_rules c.args.rows.now _ c.in_ok-put_admission_rules.ensures input_rules _ c.in_ok-put_input_rules.ensures
