use Rattle.nv_base.proofs.Growth.{grown_more, on_err}
use Rattle.nb_text.proofs.Appends.{grown_by_none}
use Rattle.nb_text.proofs.rules.put_priority.Goals as goal

pub returns-in_err-put_dec-clause-err : goal.returns-in_err-put_dec-clause-err
returns-in_err-put_dec-clause-err c = on_err _ _ (grown_more _ _ _ _ c.in_ok-push.ensures.items (grown_by_none _ _ c.in_err-put_dec.ensures.err))
