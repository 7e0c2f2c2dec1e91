use Rattle.nv_base.proofs.Growth.{grown_more, on_err}
use Rattle.nb_text.proofs.Appends.{grown_by_none}
use Rattle.nb_text.proofs.rules.put_rule.Goals as goal

pub returns-in_err-put_priority-clause-err : goal.returns-in_err-put_priority-clause-err
returns-in_err-put_priority-clause-err c = on_err _ _ (grown_more _ _ _ _ c.in_ok-put_word.ensures.ok c.in_err-put_priority.ensures.err)

pub returns-in_err-put_match-clause-err : goal.returns-in_err-put_match-clause-err
returns-in_err-put_match-clause-err c = on_err _ _ (grown_more _ _ _ _ c.in_ok-put_word.ensures.ok (grown_more _ _ _ _ c.in_ok-put_priority.ensures.ok c.in_err-put_match.ensures.err))

pub returns-in_err-put_word-2-clause-err : goal.returns-in_err-put_word-2-clause-err
returns-in_err-put_word-2-clause-err c = on_err _ _ (grown_more _ _ _ _ c.in_ok-put_word.ensures.ok (grown_more _ _ _ _ c.in_ok-put_priority.ensures.ok (grown_more _ _ _ _ c.in_ok-put_match.ensures.ok c.in_err-put_word-2.ensures.err)))

pub returns-in_err-push-clause-err : goal.returns-in_err-push-clause-err
returns-in_err-push-clause-err c = on_err _ _ (grown_more _ _ _ _ c.in_ok-put_word.ensures.ok (grown_more _ _ _ _ c.in_ok-put_priority.ensures.ok (grown_more _ _ _ _ c.in_ok-put_match.ensures.ok (grown_more _ _ _ _ c.in_ok-put_word-2.ensures.ok (grown_by_none _ _ c.in_err-push.ensures.items)))))
