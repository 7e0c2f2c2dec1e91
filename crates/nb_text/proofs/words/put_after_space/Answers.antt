use Rattle.nv_base.proofs.Growth.{appended_twice, grown_more, on_err}
use Rattle.nb_text.proofs.words.put_after_space.Goals as goal

pub returns-in_err-put-clause-err : goal.returns-in_err-put-clause-err
returns-in_err-put-clause-err g c = on_err _ _ (grown_more _ _ _ _ c.in_ok-push.ensures.items c.in_err-put.ensures.err)

pub returns-clause-ok : goal.returns-clause-ok
returns-clause-ok g c = appended_twice _ _ _ _ _ c.in_ok-push.ensures.items c.in_ok-put.ensures.ok
