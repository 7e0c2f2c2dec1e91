use Rattle.nv_base.proofs.Growth.{grown_more, on_err}
use Rattle.nb_text.proofs.rules.put_switch_acl.Goals as goal

pub returns-in_err-put_word-clause-err : goal.returns-in_err-put_word-clause-err
returns-in_err-put_word-clause-err c = on_err _ _ (grown_more _ _ _ _ c.in_ok-extend_from_slice.ensures.items c.in_err-put_word.ensures.err)

pub returns-in_err-put_rule-clause-err : goal.returns-in_err-put_rule-clause-err
returns-in_err-put_rule-clause-err c = on_err _ _ (grown_more _ _ _ _ c.in_ok-extend_from_slice.ensures.items (grown_more _ _ _ _ c.in_ok-put_word.ensures.ok c.in_err-put_rule.ensures.err))
