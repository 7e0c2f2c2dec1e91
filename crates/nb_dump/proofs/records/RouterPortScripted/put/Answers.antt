use Rattle.nv_base.proofs.Growth.{appended_twice, grown_more, on_err}
use Rattle.nb_dump.proofs.records.RouterPortScripted.put.Goals as goal

pub returns-clause-ok : goal.returns-clause-ok
returns-clause-ok c =
    let added = rw c.router_name.ensures at c.in_ok-put_lrp_add.ensures.ok in
    let state = rw c.as_slice.ensures at c.in_ok-put_router_port_state.ensures.ok in
    appended_twice _ _ _ _ _ added state

pub returns-in_err-put_router_port_state-clause-err : goal.returns-in_err-put_router_port_state-clause-err
returns-in_err-put_router_port_state-clause-err c = on_err _ _ (grown_more _ _ _ _ c.in_ok-put_lrp_add.ensures.ok c.in_err-put_router_port_state.ensures.err)
