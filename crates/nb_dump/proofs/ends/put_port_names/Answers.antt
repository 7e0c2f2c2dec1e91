use Rattle.std.proofs.lemmas.Result.{err_from_is_err_and}
use Rattle.nv_base.proofs.Growth.{grown_more}
use Rattle.nb_dump.proofs.ends.put_port_names.Goals as goal

pub returns-in_err-put_word-clause-err : goal.returns-in_err-put_word-clause-err
returns-in_err-put_word-clause-err c =
    let p = err_from_is_err_and c.from_residual.result c.from_residual.ensures.1 in
    rw (p.1) (grown_more _ _ _ _ c.loop-at.invariant c.in_err-put_word.ensures.err)
