use Rattle.net_rows.specs.Acls.{tracking_rules, switch_acl_rules}
use Rattle.ls_acl.specs.inner.Parts.{default_rules}
use Rattle.ls_acl.proofs.Said.{and_where, and_not_where}
use Rattle.ls_acl.proofs.switch_acl.put_switch_acl_rules.Goals as goal

pub returns-in_ok-put_tracking_rules : goal.returns-in_ok-put_tracking_rules
unfolding switch_acl_rules
returns-in_ok-put_tracking_rules c =
    let input = c.args.input in
    and_where c.args.unit (default_rules input.tracks) c.args.rows.now _ c.in_ok-put_default_rules.ensures (tracking_rules input.balances) input.tracks _ c.if-input.true c.in_ok-put_tracking_rules.ensures

pub returns-else-input : goal.returns-else-input
unfolding switch_acl_rules
returns-else-input c =
    let input = c.args.input in
    and_not_where c.args.unit (default_rules input.tracks) c.args.rows.now _ c.in_ok-put_default_rules.ensures (tracking_rules input.balances) input.tracks c.if-input.false
