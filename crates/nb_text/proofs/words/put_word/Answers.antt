use Rattle.nv_base.proofs.Growth.{on_err}
use Rattle.nb_text.proofs.Appends.{grown_once}
use Rattle.nb_text.proofs.words.put_word.Goals as goal

pub returns-in_err-extend_from_slice-clause-err : goal.returns-in_err-extend_from_slice-clause-err
returns-in_err-extend_from_slice-clause-err c = on_err _ _ (grown_once _ _ _ _ c.in_ok-push.ensures.items c.in_err-extend_from_slice.ensures.items)
