use Rattle.nb_dump.proofs.Scripts.{scripts}
use Rattle.nv_base.proofs.Growth.{grown_more, on_err}
use Rattle.nb_dump.proofs.dump.put_commands.Goals as goal

pub returns-clause-ok : goal.returns-clause-ok
returns-clause-ok c =
    scripts _ _ _ _ _ (scripts _ _ _ _ _ (scripts _ _ _ _ _ c.in_ok-put_part.ensures.ok c.in_ok-put_part-2.ensures.ok) c.in_ok-put_part-3.ensures.ok) c.in_ok-put_part-4.ensures.ok

pub returns-in_err-put_part-2-clause-err : goal.returns-in_err-put_part-2-clause-err
returns-in_err-put_part-2-clause-err c = on_err _ _ (grown_more _ _ _ _ c.in_ok-put_part.ensures.ok c.in_err-put_part-2.ensures.err)

pub returns-in_err-put_part-3-clause-err : goal.returns-in_err-put_part-3-clause-err
returns-in_err-put_part-3-clause-err c = on_err _ _ (grown_more _ _ _ _ c.in_ok-put_part.ensures.ok (grown_more _ _ _ _ c.in_ok-put_part-2.ensures.ok c.in_err-put_part-3.ensures.err))

pub returns-in_err-put_part-4-clause-err : goal.returns-in_err-put_part-4-clause-err
returns-in_err-put_part-4-clause-err c = on_err _ _ (grown_more _ _ _ _ c.in_ok-put_part.ensures.ok (grown_more _ _ _ _ c.in_ok-put_part-2.ensures.ok (grown_more _ _ _ _ c.in_ok-put_part-3.ensures.ok c.in_err-put_part-4.ensures.err)))
