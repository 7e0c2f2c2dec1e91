use Rattle.nv_base.proofs.Growth.{appended_twice, grown_more, on_err}
use Rattle.nb_dump.proofs.Scripts.{scripts}
use Rattle.nb_dump.proofs.records.PortScripted.put.Goals as goal

pub returns-clause-ok : goal.returns-clause-ok
returns-clause-ok c =
    let name = c.as_slice-name.ensures in
    let added = rw (c.switch_name.ensures, name) at c.in_ok-put_lsp_add.ensures.ok in
    let kind = rw name at c.in_ok-put_kind.ensures.ok in
    let option = rw name at c.in_ok-put_option.ensures.ok in
    let addresses = rw (name, c.as_slice.ensures) at c.in_ok-put_addresses.ensures.ok in
    let guards = rw (name, c.as_slice-2.ensures) at c.in_ok-put_guards.ensures.ok in
    let state = rw name at c.in_ok-put_port_state.ensures.ok in
    appended_twice _ _ _ _ _ added (scripts _ _ _ _ _ (scripts _ _ _ _ _ (scripts _ _ _ _ _ (scripts _ _ _ _ _ kind option) addresses) guards) state)

pub returns-in_err-put_kind-clause-err : goal.returns-in_err-put_kind-clause-err
returns-in_err-put_kind-clause-err c = on_err _ _ (grown_more _ _ _ _ c.in_ok-put_lsp_add.ensures.ok c.in_err-put_kind.ensures.err)

pub returns-in_err-put_option-clause-err : goal.returns-in_err-put_option-clause-err
returns-in_err-put_option-clause-err c = on_err _ _ (grown_more _ _ _ _ c.in_ok-put_lsp_add.ensures.ok (grown_more _ _ _ _ c.in_ok-put_kind.ensures.ok c.in_err-put_option.ensures.err))

pub returns-in_err-put_addresses-clause-err : goal.returns-in_err-put_addresses-clause-err
returns-in_err-put_addresses-clause-err c = on_err _ _ (grown_more _ _ _ _ c.in_ok-put_lsp_add.ensures.ok (grown_more _ _ _ _ c.in_ok-put_kind.ensures.ok (grown_more _ _ _ _ c.in_ok-put_option.ensures.ok c.in_err-put_addresses.ensures.err)))

pub returns-in_err-put_guards-clause-err : goal.returns-in_err-put_guards-clause-err
returns-in_err-put_guards-clause-err c = on_err _ _ (grown_more _ _ _ _ c.in_ok-put_lsp_add.ensures.ok (grown_more _ _ _ _ c.in_ok-put_kind.ensures.ok (grown_more _ _ _ _ c.in_ok-put_option.ensures.ok (grown_more _ _ _ _ c.in_ok-put_addresses.ensures.ok c.in_err-put_guards.ensures.err))))

pub returns-in_err-put_port_state-clause-err : goal.returns-in_err-put_port_state-clause-err
returns-in_err-put_port_state-clause-err c = on_err _ _ (grown_more _ _ _ _ c.in_ok-put_lsp_add.ensures.ok (grown_more _ _ _ _ c.in_ok-put_kind.ensures.ok (grown_more _ _ _ _ c.in_ok-put_option.ensures.ok (grown_more _ _ _ _ c.in_ok-put_addresses.ensures.ok (grown_more _ _ _ _ c.in_ok-put_guards.ensures.ok c.in_err-put_port_state.ensures.err)))))
