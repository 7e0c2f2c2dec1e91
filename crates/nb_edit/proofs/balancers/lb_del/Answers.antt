use Rattle.std.proofs.Common.{refl}
use Rattle.std.proofs.lemmas.Result.{err_from_is_err_and}
use Rattle.nb_edit.proofs.Steps.{goes_on, stops, stops_later}
use Rattle.nb_edit.proofs.balancers.lb_del.Goals as goal

pub returns-clause-read : goal.returns-clause-read
returns-clause-read c = rw c.if_exists.ensures (goes_on _ _ _ _ c.in_ok-lb.ensures.read (goes_on _ _ _ _ c.in_ok-at.ensures.read refl))

pub returns-in_err-lb-clause-refused : goal.returns-in_err-lb-clause-refused
returns-in_err-lb-clause-refused c =
    let p = err_from_is_err_and c.from_residual.result c.from_residual.ensures.1 in
    rw (p.1, p.2) (stops _ _ _ c.in_err-lb.ensures.refused)

pub returns-in_err-at-clause-refused : goal.returns-in_err-at-clause-refused
returns-in_err-at-clause-refused c =
    let p = err_from_is_err_and c.from_residual-in_err-at.result c.from_residual-in_err-at.ensures.1 in
    rw (p.1, p.2) (stops_later _ _ _ _ c.in_ok-lb.ensures.read (stops _ _ _ c.in_err-at.ensures.refused))
