use Rattle.nb_dump.proofs.Scripts.{scripts}
use Rattle.nv_base.proofs.Growth.{grown_more, on_err}
use Rattle.nb_dump.proofs.parts.put_object.Goals as goal

pub returns-clause-ok : goal.returns-clause-ok
returns-clause-ok c = scripts _ _ _ _ _ (scripts _ _ _ _ _ c.in_ok-put_datapath.ensures.ok c.in_ok-put_rule.ensures.ok) c.in_ok-put_listed.ensures.ok

pub returns-in_err-put_rule-clause-err : goal.returns-in_err-put_rule-clause-err
returns-in_err-put_rule-clause-err c = on_err _ _ (grown_more _ _ _ _ c.in_ok-put_datapath.ensures.ok c.in_err-put_rule.ensures.err)

pub returns-in_err-put_listed-clause-err : goal.returns-in_err-put_listed-clause-err
returns-in_err-put_listed-clause-err c = on_err _ _ (grown_more _ _ _ _ c.in_ok-put_datapath.ensures.ok (grown_more _ _ _ _ c.in_ok-put_rule.ensures.ok c.in_err-put_listed.ensures.err))
