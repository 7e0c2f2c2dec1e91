use Rattle.std.proofs.lemmas.Result.{err_from_is_err_and}
use Rattle.nv_base.proofs.Growth.{grown_more}
use Rattle.nb_dump.proofs.ends.put_switch_lbs.Goals as goal

pub returns-in_err-put_ls_lb_add-clause-err : goal.returns-in_err-put_ls_lb_add-clause-err
returns-in_err-put_ls_lb_add-clause-err c =
    let p = err_from_is_err_and c.from_residual.result c.from_residual.ensures.1 in
    rw (p.1) (grown_more _ _ _ _ c.loop-lb.invariant c.in_err-put_ls_lb_add.ensures.err)
