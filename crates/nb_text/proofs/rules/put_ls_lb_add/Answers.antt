use Rattle.nv_base.proofs.Growth.{grown_more, on_err}
use Rattle.nb_text.proofs.Appends.{grown_by_none}
use Rattle.nb_text.proofs.Lines.{line_of_three}
use Rattle.nb_text.proofs.rules.put_ls_lb_add.Goals as goal

pub returns-clause-ok : goal.returns-clause-ok
returns-clause-ok c = line_of_three _ _ _ _ _ _ _ _ _ c.in_ok-extend_from_slice.ensures.items c.in_ok-put_word.ensures.ok c.in_ok-put_word-2.ensures.ok c.in_ok-push.ensures.items

pub returns-in_err-put_word-clause-err : goal.returns-in_err-put_word-clause-err
returns-in_err-put_word-clause-err c = on_err _ _ (grown_more _ _ _ _ c.in_ok-extend_from_slice.ensures.items c.in_err-put_word.ensures.err)

pub returns-in_err-put_word-2-clause-err : goal.returns-in_err-put_word-2-clause-err
returns-in_err-put_word-2-clause-err c = on_err _ _ (grown_more _ _ _ _ c.in_ok-extend_from_slice.ensures.items (grown_more _ _ _ _ c.in_ok-put_word.ensures.ok c.in_err-put_word-2.ensures.err))

pub returns-in_err-push-clause-err : goal.returns-in_err-push-clause-err
returns-in_err-push-clause-err c = on_err _ _ (grown_more _ _ _ _ c.in_ok-extend_from_slice.ensures.items (grown_more _ _ _ _ c.in_ok-put_word.ensures.ok (grown_more _ _ _ _ c.in_ok-put_word-2.ensures.ok (grown_by_none _ _ c.in_err-push.ensures.items))))
