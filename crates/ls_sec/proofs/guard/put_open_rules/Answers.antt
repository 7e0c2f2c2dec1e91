use Rattle.std.proofs.Common.{append_assoc}
use Rattle.ls_sec.proofs.guard.put_open_rules.Goals as goal

pub returns : goal.returns
returns c =
    rw (c.in_ok-put-2.ensures.ok, c.in_ok-put.ensures.ok, c.in_ok-lets_any_out.ensures, c.in_ok-lets_any_in.ensures) (simp append_assoc)
