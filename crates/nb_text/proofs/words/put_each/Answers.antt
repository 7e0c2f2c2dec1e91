use Rattle.std.proofs.lemmas.Result.{err_from_is_err_and}
use Rattle.nv_base.proofs.Growth.{grown_more}
use Rattle.nb_text.proofs.Appends.{each_more}
use Rattle.nb_text.proofs.words.put_each.Goals as goal

pub returns-in_err-put_after_space-clause-err : goal.returns-in_err-put_after_space-clause-err
returns-in_err-put_after_space-clause-err g c =
    let p = err_from_is_err_and c.from_residual.result c.from_residual.ensures.1 in
    rw (p.1) (grown_more _ _ _ _ c.loop-word.invariant c.in_err-put_after_space.ensures.err)

pub loop-word-preserved : goal.loop-word-preserved
loop-word-preserved g c = each_more g.W.Word.text _ _ _ c.args.words.now c.loop-word.word-index c.word-item.result c.loop-word-test.true c.word-item.is c.loop-word.invariant c.in_ok-put_after_space.ensures.ok
