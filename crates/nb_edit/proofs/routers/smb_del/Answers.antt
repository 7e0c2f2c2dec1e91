use Rattle.std.proofs.Common.{refl}
use Rattle.std.proofs.lemmas.Result.{err_from_is_err_and}
use Rattle.nb_edit.proofs.Steps.{goes_on, stops, stops_later}
use Rattle.nb_edit.proofs.routers.smb_del.Goals as goal

pub returns-clause-read : goal.returns-clause-read
returns-clause-read c = rw c.if_exists.ensures (goes_on _ _ _ _ c.in_ok-port.ensures.read (goes_on _ _ _ _ c.in_ok-addr.ensures.read refl))

pub returns-in_err-port-clause-refused : goal.returns-in_err-port-clause-refused
returns-in_err-port-clause-refused c =
    let p = err_from_is_err_and c.from_residual.result c.from_residual.ensures.1 in
    rw (p.1, p.2) (stops _ _ _ c.in_err-port.ensures.refused)

pub returns-in_err-addr-clause-refused : goal.returns-in_err-addr-clause-refused
returns-in_err-addr-clause-refused c =
    let p = err_from_is_err_and c.from_residual-in_err-addr.result c.from_residual-in_err-addr.ensures.1 in
    rw (p.1, p.2) (stops_later _ _ _ _ c.in_ok-port.ensures.read (stops _ _ _ c.in_err-addr.ensures.refused))
