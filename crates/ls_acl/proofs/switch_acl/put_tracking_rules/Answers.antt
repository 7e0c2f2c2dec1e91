use Rattle.ls_acl.specs.inner.Parts.{rules_to_track, rules_of_connections}
use Rattle.ls_acl.proofs.Said.{and_then}
use Rattle.ls_acl.proofs.switch_acl.put_tracking_rules.Goals as goal

pub returns : goal.returns
returns c =
    and_then c.args.unit (rules_to_track c.args.balances) c.args.rows.now _ c.in_ok-put_rules_to_track.ensures rules_of_connections _ c.in_ok-put_rules_of_connections.ensures
