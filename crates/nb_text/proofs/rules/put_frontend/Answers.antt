use Rattle.nv_base.proofs.Growth.{grown_more, on_err}
use Rattle.nb_text.proofs.rules.put_frontend.Goals as goal

pub returns-in_err-put_service-clause-err : goal.returns-in_err-put_service-clause-err
returns-in_err-put_service-clause-err c = on_err _ _ (grown_more _ _ _ _ c.in_ok-push.ensures.items c.in_err-put_service.ensures.err)
