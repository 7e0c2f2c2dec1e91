use Rattle.std.proofs.Common.{refl}
use Rattle.std.proofs.lemmas.Result.{err_from_is_err_and}
use Rattle.nb_edit.proofs.Steps.{goes_on, stops, stops_later}
use Rattle.nb_edit.proofs.routers.lr_route_del.Goals as goal

pub returns-clause-read : goal.returns-clause-read
returns-clause-read c = rw (c.if_exists.ensures, c.policy.ensures) (goes_on _ _ _ _ c.in_ok-router.ensures.read (goes_on _ _ _ _ c.in_ok-prefix.ensures.read refl))

pub returns-in_err-router-clause-refused : goal.returns-in_err-router-clause-refused
returns-in_err-router-clause-refused c =
    let p = err_from_is_err_and c.from_residual.result c.from_residual.ensures.1 in
    rw (p.1, p.2) (stops _ _ _ c.in_err-router.ensures.refused)

pub returns-in_err-prefix-clause-refused : goal.returns-in_err-prefix-clause-refused
returns-in_err-prefix-clause-refused c =
    let p = err_from_is_err_and c.from_residual-in_err-prefix.result c.from_residual-in_err-prefix.ensures.1 in
    rw (p.1, p.2) (stops_later _ _ _ _ c.in_ok-router.ensures.read (stops _ _ _ c.in_err-prefix.ensures.refused))
