use Rattle.std.proofs.Common.{refl}
use Rattle.std.proofs.lemmas.Result.{err_from_is_err_and}
use Rattle.nb_edit.proofs.Steps.{goes_on, stops, stops_later}
use Rattle.nb_edit.proofs.routers.lr_nat_del.Goals as goal

pub returns-clause-read : goal.returns-clause-read
returns-clause-read c = rw c.if_exists.ensures (goes_on _ _ _ _ c.in_ok-router.ensures.read (goes_on _ _ _ _ c.in_ok-kind.ensures.read (goes_on _ _ _ _ c.in_ok-addr.ensures.read refl)))

pub returns-in_err-router-clause-refused : goal.returns-in_err-router-clause-refused
returns-in_err-router-clause-refused c =
    let p = err_from_is_err_and c.from_residual.result c.from_residual.ensures.1 in
    rw (p.1, p.2) (stops _ _ _ c.in_err-router.ensures.refused)

pub returns-in_err-kind-clause-refused : goal.returns-in_err-kind-clause-refused
returns-in_err-kind-clause-refused c =
    let p = err_from_is_err_and c.from_residual-in_err-kind.result c.from_residual-in_err-kind.ensures.1 in
    rw (p.1, p.2) (stops_later _ _ _ _ c.in_ok-router.ensures.read (stops _ _ _ c.in_err-kind.ensures.refused))

pub returns-in_err-addr-clause-refused : goal.returns-in_err-addr-clause-refused
returns-in_err-addr-clause-refused c =
    let p = err_from_is_err_and c.from_residual-in_err-addr.result c.from_residual-in_err-addr.ensures.1 in
    rw (p.1, p.2) (stops_later _ _ _ _ c.in_ok-router.ensures.read (stops_later _ _ _ _ c.in_ok-kind.ensures.read (stops _ _ _ c.in_err-addr.ensures.refused)))
