use Rattle.std.proofs.Common.{[], refl}
use Rattle.std.proofs.lemmas.Result.{err_from_is_err_and}
use Rattle.nb_read.specs.Lists.{networks}
use Rattle.nb_edit.proofs.Steps.{goes_on, read_from, refused_from, stops, stops_later}
use Rattle.nb_edit.proofs.routers.lrp_add.Goals as goal

pub returns-clause-read : goal.returns-clause-read
returns-clause-read c = rw c.may_exist.ensures (goes_on _ _ _ _ c.in_ok-router.ensures.read (goes_on _ _ _ _ c.in_ok-port.ensures.read (goes_on _ _ _ _ c.in_ok-mac.ensures.read (goes_on _ _ _ _ (read_from (networks []) c.args.call.now 3 _ _ _ c.number.ensures c.from.ensures.words c.in_ok-nets.ensures.read) refl))))

pub returns-in_err-router-clause-refused : goal.returns-in_err-router-clause-refused
returns-in_err-router-clause-refused c =
    let p = err_from_is_err_and c.from_residual.result c.from_residual.ensures.1 in
    rw (p.1, p.2) (stops _ _ _ c.in_err-router.ensures.refused)

pub returns-in_err-port-clause-refused : goal.returns-in_err-port-clause-refused
returns-in_err-port-clause-refused c =
    let p = err_from_is_err_and c.from_residual-in_err-port.result c.from_residual-in_err-port.ensures.1 in
    rw (p.1, p.2) (stops_later _ _ _ _ c.in_ok-router.ensures.read (stops _ _ _ c.in_err-port.ensures.refused))

pub returns-in_err-mac-clause-refused : goal.returns-in_err-mac-clause-refused
returns-in_err-mac-clause-refused c =
    let p = err_from_is_err_and c.from_residual-in_err-mac.result c.from_residual-in_err-mac.ensures.1 in
    rw (p.1, p.2) (stops_later _ _ _ _ c.in_ok-router.ensures.read (stops_later _ _ _ _ c.in_ok-port.ensures.read (stops _ _ _ c.in_err-mac.ensures.refused)))

pub returns-in_err-nets-clause-refused : goal.returns-in_err-nets-clause-refused
returns-in_err-nets-clause-refused c =
    let p = err_from_is_err_and c.from_residual-in_err-nets.result c.from_residual-in_err-nets.ensures.1 in
    rw (p.1, p.2) (stops_later _ _ _ _ c.in_ok-router.ensures.read (stops_later _ _ _ _ c.in_ok-port.ensures.read (stops_later _ _ _ _ c.in_ok-mac.ensures.read (stops _ _ _ (refused_from (networks []) c.args.call.now 3 _ _ _ c.number.ensures c.from.ensures.words c.in_err-nets.ensures.refused)))))
