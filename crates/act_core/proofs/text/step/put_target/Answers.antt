use Rattle.nv_base.proofs.Growth.{grown_more, on_err, appended_twice}
use Rattle.act_core.proofs.text.step.put_target.Goals as goal

pub returns-in_err-put_port-clause-err : goal.returns-in_err-put_port-clause-err
returns-in_err-put_port-clause-err c = on_err _ _ (grown_more _ _ _ _ c.in_ok-put_ip4.ensures.ok c.in_err-put_port.ensures.err)

pub returns-clause-ok : goal.returns-clause-ok
returns-clause-ok c = appended_twice _ _ _ _ _ c.in_ok-put_ip4.ensures.ok c.in_ok-put_port.ensures.ok
