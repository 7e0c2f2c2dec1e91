use Rattle.nv_base.proofs.Growth.{grown_more, on_err}
use Rattle.nb_text.proofs.Appends.{grown_by_none}
use Rattle.nb_text.proofs.rules.put_match.Goals as goal

pub returns-in_err-put_tree-clause-err : goal.returns-in_err-put_tree-clause-err
returns-in_err-put_tree-clause-err c = on_err _ _ (grown_more _ _ _ _ c.in_ok-extend_from_slice.ensures.items c.in_err-put_tree.ensures.err)

pub returns-in_err-push-clause-err : goal.returns-in_err-push-clause-err
returns-in_err-push-clause-err c = on_err _ _ (grown_more _ _ _ _ c.in_ok-extend_from_slice.ensures.items (grown_more _ _ _ _ c.in_ok-put_tree.ensures.ok (grown_by_none _ _ c.in_err-push.ensures.items)))
