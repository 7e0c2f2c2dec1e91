use Rattle.nv_base.proofs.Growth.{appended_twice}
use Rattle.act_core.proofs.text.put_spaced_step.Goals as goal

pub returns-clause-ok : goal.returns-clause-ok
returns-clause-ok c = appended_twice _ _ _ _ _ c.in_ok-put_step.ensures.ok c.in_ok-extend_from_slice.ensures.items
