use Rattle.nv_base.proofs.Growth.{on_err}
use Rattle.nb_text.proofs.Appends.{grown_once}
use Rattle.nb_text.proofs.words.put_mac_word.Goals as goal

pub returns-in_err-put_mac-clause-err : goal.returns-in_err-put_mac-clause-err
returns-in_err-put_mac-clause-err c = on_err _ _ (grown_once _ _ _ _ c.in_ok-push.ensures.items c.in_err-put_mac.ensures.err)
