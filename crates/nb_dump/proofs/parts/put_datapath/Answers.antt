use Rattle.std.proofs.Common.{◌≡◌, ap}
use Rattle.nb_model.specs.Network.{Network}
use Rattle.nb_dump.proofs.Scripts.{scripts}
use Rattle.nv_base.proofs.Growth.{grown_more, on_err}
use Rattle.nb_dump.proofs.parts.put_datapath.Goals as goal

pub returns-clause-ok : goal.returns-clause-ok
returns-clause-ok c =
    let switches = c.switches.ensures in
    let ports = c.ports.ensures in
    let routers = c.routers.ensures in
    let router_ports = c.router_ports.ensures in
    let switches' = rw switches at c.in_ok-put_record.ensures.ok in
    let ports' = rw ports at c.in_ok-put_record-2.ensures.ok in
    let routers' = rw routers at c.in_ok-put_record-3.ensures.ok in
    let router_ports' = rw router_ports at c.in_ok-put_record-4.ensures.ok in
    scripts _ _ _ _ _ (scripts _ _ _ _ _ (scripts _ _ _ _ _ switches' ports') routers') router_ports'

pub returns-in_err-put_record-2-clause-err : goal.returns-in_err-put_record-2-clause-err
returns-in_err-put_record-2-clause-err c = on_err _ _ (grown_more _ _ _ _ c.in_ok-put_record.ensures.ok c.in_err-put_record-2.ensures.err)

pub returns-in_err-put_record-3-clause-err : goal.returns-in_err-put_record-3-clause-err
returns-in_err-put_record-3-clause-err c = on_err _ _ (grown_more _ _ _ _ c.in_ok-put_record.ensures.ok (grown_more _ _ _ _ c.in_ok-put_record-2.ensures.ok c.in_err-put_record-3.ensures.err))

pub returns-in_err-put_record-4-clause-err : goal.returns-in_err-put_record-4-clause-err
returns-in_err-put_record-4-clause-err c = on_err _ _ (grown_more _ _ _ _ c.in_ok-put_record.ensures.ok (grown_more _ _ _ _ c.in_ok-put_record-2.ensures.ok (grown_more _ _ _ _ c.in_ok-put_record-3.ensures.ok c.in_err-put_record-4.ensures.err)))
