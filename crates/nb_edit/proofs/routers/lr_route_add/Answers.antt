use Rattle.std.proofs.Common.{refl}
use Rattle.std.proofs.lemmas.Result.{err_from_is_err_and}
use Rattle.nb_read.specs.Readings.{network, nexthop}
use Rattle.nb_edit.proofs.Steps.{goes_on, read_at, refused_at, stops, stops_later}
use Rattle.nb_edit.proofs.routers.lr_route_add.Goals as goal

pub returns-clause-read : goal.returns-clause-read
returns-clause-read c = rw c.policy.ensures (goes_on _ _ _ _ c.in_ok-router.ensures.read (goes_on _ _ _ _ (read_at network c.args.call.now 1 _ _ _ c.number.ensures c.text.ensures.bytes c.in_ok-prefix.ensures.read) (goes_on _ _ _ _ (read_at nexthop c.args.call.now 2 _ _ _ c.number-2.ensures c.text-2.ensures.bytes c.in_ok-nexthop.ensures.read) (goes_on _ _ _ _ c.in_ok-port.ensures.read refl))))

pub returns-in_err-router-clause-refused : goal.returns-in_err-router-clause-refused
returns-in_err-router-clause-refused c =
    let p = err_from_is_err_and c.from_residual.result c.from_residual.ensures.1 in
    rw (p.1, p.2) (stops _ _ _ c.in_err-router.ensures.refused)

pub returns-in_err-prefix-clause-refused : goal.returns-in_err-prefix-clause-refused
returns-in_err-prefix-clause-refused c =
    let p = err_from_is_err_and c.from_residual-in_err-prefix.result c.from_residual-in_err-prefix.ensures.1 in
    rw (p.1, p.2) (stops_later _ _ _ _ c.in_ok-router.ensures.read (stops _ _ _ (refused_at network c.args.call.now 1 _ _ _ c.number.ensures c.text.ensures.bytes c.in_err-prefix.ensures.refused)))

pub returns-in_err-nexthop-clause-refused : goal.returns-in_err-nexthop-clause-refused
returns-in_err-nexthop-clause-refused c =
    let p = err_from_is_err_and c.from_residual-in_err-nexthop.result c.from_residual-in_err-nexthop.ensures.1 in
    rw (p.1, p.2) (stops_later _ _ _ _ c.in_ok-router.ensures.read (stops_later _ _ _ _ (read_at network c.args.call.now 1 _ _ _ c.number.ensures c.text.ensures.bytes c.in_ok-prefix.ensures.read) (stops _ _ _ (refused_at nexthop c.args.call.now 2 _ _ _ c.number-2.ensures c.text-2.ensures.bytes c.in_err-nexthop.ensures.refused))))

pub returns-in_err-port-clause-refused : goal.returns-in_err-port-clause-refused
returns-in_err-port-clause-refused c =
    let p = err_from_is_err_and c.from_residual-in_err-port.result c.from_residual-in_err-port.ensures.1 in
    rw (p.1, p.2) (stops_later _ _ _ _ c.in_ok-router.ensures.read (stops_later _ _ _ _ (read_at network c.args.call.now 1 _ _ _ c.number.ensures c.text.ensures.bytes c.in_ok-prefix.ensures.read) (stops_later _ _ _ _ (read_at nexthop c.args.call.now 2 _ _ _ c.number-2.ensures c.text-2.ensures.bytes c.in_ok-nexthop.ensures.read) (stops _ _ _ c.in_err-port.ensures.refused))))
