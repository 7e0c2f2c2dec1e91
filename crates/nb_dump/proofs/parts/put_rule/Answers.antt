use Rattle.std.proofs.Common.{◌≡◌, ap}
use Rattle.nb_model.specs.Network.{Network}
use Rattle.nb_dump.proofs.Scripts.{scripts}
use Rattle.nv_base.proofs.Growth.{grown_more, on_err}
use Rattle.nb_dump.proofs.parts.put_rule.Goals as goal

pub returns-clause-ok : goal.returns-clause-ok
returns-clause-ok c =
    let routes = c.routes.ensures in
    let nats = c.nats.ensures in
    let lbs = c.lbs.ensures in
    let acls = c.acls.ensures in
    let routes' = rw routes at c.in_ok-put_record.ensures.ok in
    let nats' = rw nats at c.in_ok-put_record-2.ensures.ok in
    let lbs' = rw lbs at c.in_ok-put_record-3.ensures.ok in
    let acls' = rw acls at c.in_ok-put_record-4.ensures.ok in
    scripts _ _ _ _ _ (scripts _ _ _ _ _ (scripts _ _ _ _ _ routes' nats') lbs') acls'

pub returns-in_err-put_record-2-clause-err : goal.returns-in_err-put_record-2-clause-err
returns-in_err-put_record-2-clause-err c = on_err _ _ (grown_more _ _ _ _ c.in_ok-put_record.ensures.ok c.in_err-put_record-2.ensures.err)

pub returns-in_err-put_record-3-clause-err : goal.returns-in_err-put_record-3-clause-err
returns-in_err-put_record-3-clause-err c = on_err _ _ (grown_more _ _ _ _ c.in_ok-put_record.ensures.ok (grown_more _ _ _ _ c.in_ok-put_record-2.ensures.ok c.in_err-put_record-3.ensures.err))

pub returns-in_err-put_record-4-clause-err : goal.returns-in_err-put_record-4-clause-err
returns-in_err-put_record-4-clause-err c = on_err _ _ (grown_more _ _ _ _ c.in_ok-put_record.ensures.ok (grown_more _ _ _ _ c.in_ok-put_record-2.ensures.ok (grown_more _ _ _ _ c.in_ok-put_record-3.ensures.ok c.in_err-put_record-4.ensures.err)))
