use Rattle.std.proofs.Common.{[], refl}
use Rattle.std.proofs.lemmas.Result.{err_from_is_err_and}
use Rattle.nb_read.specs.Lists.{guards}
use Rattle.nb_edit.proofs.Steps.{goes_on, read_from, refused_from, stops, stops_later}
use Rattle.nb_edit.proofs.switches.lsp_set_port_security.Goals as goal

pub returns-clause-read : goal.returns-clause-read
returns-clause-read c = goes_on _ _ _ _ c.in_ok-port.ensures.read (goes_on _ _ _ _ (read_from (guards []) c.args.call.now 1 _ _ _ c.number.ensures c.from.ensures.words c.in_ok-guards.ensures.read) refl)

pub returns-in_err-port-clause-refused : goal.returns-in_err-port-clause-refused
returns-in_err-port-clause-refused c =
    let p = err_from_is_err_and c.from_residual.result c.from_residual.ensures.1 in
    rw (p.1, p.2) (stops _ _ _ c.in_err-port.ensures.refused)

pub returns-in_err-guards-clause-refused : goal.returns-in_err-guards-clause-refused
returns-in_err-guards-clause-refused c =
    let p = err_from_is_err_and c.from_residual-in_err-guards.result c.from_residual-in_err-guards.ensures.1 in
    rw (p.1, p.2) (stops_later _ _ _ _ c.in_ok-port.ensures.read (stops _ _ _ (refused_from (guards []) c.args.call.now 1 _ _ _ c.number.ensures c.from.ensures.words c.in_err-guards.ensures.refused)))
