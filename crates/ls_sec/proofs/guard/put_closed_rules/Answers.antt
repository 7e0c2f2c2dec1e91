use Rattle.ls_sec.proofs.Said.{six_rows}
use Rattle.ls_sec.proofs.guard.put_closed_rules.Goals as goal

pub returns : goal.returns
returns c =
    six_rows c.args.unit c.args.rows.now _ _ _ _ _ _ _ _ _ _ _ _ _ _ _ _ _ _
    c.in_ok-lets_own_ip4_in.ensures c.in_ok-lets_discovers_in.ensures c.in_ok-lets_own_arp_in.ensures
    c.in_ok-lets_others_in.ensures c.in_ok-lets_own_ip4_out.ensures c.in_ok-lets_others_out.ensures
    c.in_ok-put.ensures.ok c.in_ok-put-2.ensures.ok c.in_ok-put-3.ensures.ok
    c.in_ok-put-4.ensures.ok c.in_ok-put-5.ensures.ok c.in_ok-put-6.ensures.ok
