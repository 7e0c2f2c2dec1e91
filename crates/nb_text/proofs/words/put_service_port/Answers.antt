use Rattle.nv_base.proofs.Growth.{on_err}
use Rattle.nb_text.proofs.Appends.{grown_once}
use Rattle.nb_text.proofs.words.put_service_port.Goals as goal

pub returns-in_err-put_dec-clause-err : goal.returns-in_err-put_dec-clause-err
returns-in_err-put_dec-clause-err c = on_err _ _ (grown_once _ _ _ _ c.in_ok-push.ensures.items c.in_err-put_dec.ensures.err)
