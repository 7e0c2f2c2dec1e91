use Rattle.std.proofs.Common.{refl}
use Rattle.std.proofs.lemmas.Result.{err_from_is_err_and}
use Rattle.nb_edit.proofs.Steps.{goes_on, stops, stops_later}
use Rattle.nb_edit.proofs.switches.lsp_set_enabled.Goals as goal

pub returns-clause-read : goal.returns-clause-read
returns-clause-read c = goes_on _ _ _ _ c.in_ok-port.ensures.read (goes_on _ _ _ _ c.in_ok-enabled.ensures.read refl)

pub returns-in_err-port-clause-refused : goal.returns-in_err-port-clause-refused
returns-in_err-port-clause-refused c =
    let p = err_from_is_err_and c.from_residual.result c.from_residual.ensures.1 in
    rw (p.1, p.2) (stops _ _ _ c.in_err-port.ensures.refused)

pub returns-in_err-enabled-clause-refused : goal.returns-in_err-enabled-clause-refused
returns-in_err-enabled-clause-refused c =
    let p = err_from_is_err_and c.from_residual-in_err-enabled.result c.from_residual-in_err-enabled.ensures.1 in
    rw (p.1, p.2) (stops_later _ _ _ _ c.in_ok-port.ensures.read (stops _ _ _ c.in_err-enabled.ensures.refused))
