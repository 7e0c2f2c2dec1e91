use Rattle.ls_l2.proofs.Said.{two_rows}
use Rattle.ls_l2.proofs.arp.put_arp_rules.Goals as goal

pub returns : goal.returns
returns c = two_rows c.args.unit c.args.rows.now _ _ _ _ _ _ c.in_ok-own_request_rule.ensures c.in_ok-answer_rule.ensures c.in_ok-put.ensures.ok c.in_ok-put-2.ensures.ok
