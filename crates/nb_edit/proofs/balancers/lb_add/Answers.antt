use Rattle.std.proofs.Common.{refl}
use Rattle.std.specs.Prelude.{is_some}
use Rattle.std.proofs.lemmas.Result.{err_from_is_err_and}
use Rattle.nb_read.specs.Readings.{backends, vip}
use Rattle.nb_edit.proofs.Steps.{goes_on, read_at, refused_at, stops, stops_later}
use Rattle.nb_edit.proofs.balancers.lb_add.Goals as goal

pub returns-clause-read : goal.returns-clause-read
returns-clause-read c = goes_on _ _ _ _ c.in_ok-lb.ensures.read (goes_on _ _ _ _ (read_at vip c.args.call.now 1 _ _ _ c.number.ensures c.text.ensures.bytes c.in_ok-at.ensures.read) (goes_on _ _ _ _ (read_at (backends (is_some c.in_ok-at.at.port)) c.args.call.now 2 _ _ _ c.number-2.ensures c.text-2.ensures.bytes (rw c.is_some.ensures at c.in_ok-backends.ensures.read)) (goes_on _ _ _ _ c.in_ok-proto.ensures.read refl)))

pub returns-in_err-lb-clause-refused : goal.returns-in_err-lb-clause-refused
returns-in_err-lb-clause-refused c =
    let p = err_from_is_err_and c.from_residual.result c.from_residual.ensures.1 in
    rw (p.1, p.2) (stops _ _ _ c.in_err-lb.ensures.refused)

pub returns-in_err-at-clause-refused : goal.returns-in_err-at-clause-refused
returns-in_err-at-clause-refused c =
    let p = err_from_is_err_and c.from_residual-in_err-at.result c.from_residual-in_err-at.ensures.1 in
    rw (p.1, p.2) (stops_later _ _ _ _ c.in_ok-lb.ensures.read (stops _ _ _ (refused_at vip c.args.call.now 1 _ _ _ c.number.ensures c.text.ensures.bytes c.in_err-at.ensures.refused)))

pub returns-in_err-backends-clause-refused : goal.returns-in_err-backends-clause-refused
returns-in_err-backends-clause-refused c =
    let p = err_from_is_err_and c.from_residual-in_err-backends.result c.from_residual-in_err-backends.ensures.1 in
    rw (p.1, p.2) (stops_later _ _ _ _ c.in_ok-lb.ensures.read (stops_later _ _ _ _ (read_at vip c.args.call.now 1 _ _ _ c.number.ensures c.text.ensures.bytes c.in_ok-at.ensures.read) (stops _ _ _ (refused_at (backends (is_some c.in_ok-at.at.port)) c.args.call.now 2 _ _ _ c.number-2.ensures c.text-2.ensures.bytes (rw c.is_some.ensures at c.in_err-backends.ensures.refused)))))

pub returns-in_err-proto-clause-refused : goal.returns-in_err-proto-clause-refused
returns-in_err-proto-clause-refused c =
    let p = err_from_is_err_and c.from_residual-in_err-proto.result c.from_residual-in_err-proto.ensures.1 in
    rw (p.1, p.2) (stops_later _ _ _ _ c.in_ok-lb.ensures.read (stops_later _ _ _ _ (read_at vip c.args.call.now 1 _ _ _ c.number.ensures c.text.ensures.bytes c.in_ok-at.ensures.read) (stops_later _ _ _ _ (read_at (backends (is_some c.in_ok-at.at.port)) c.args.call.now 2 _ _ _ c.number-2.ensures c.text-2.ensures.bytes (rw c.is_some.ensures at c.in_ok-backends.ensures.read)) (stops _ _ _ c.in_err-proto.ensures.refused))))
