use Rattle.std.proofs.Common.{[], refl}
use Rattle.std.proofs.lemmas.Result.{err_from_is_err_and}
use Rattle.nb_read.specs.Lists.{names}
use Rattle.nb_edit.proofs.Steps.{goes_on, read_from, refused_from, stops, stops_later}
use Rattle.nb_edit.proofs.sets.pg_add.Goals as goal

pub returns-clause-read : goal.returns-clause-read
returns-clause-read c = goes_on _ _ _ _ c.in_ok-name.ensures.read (goes_on _ _ _ _ (read_from (names []) c.args.call.now 1 _ _ _ c.number.ensures c.from.ensures.words c.in_ok-ports.ensures.read) refl)

pub returns-in_err-name-clause-refused : goal.returns-in_err-name-clause-refused
returns-in_err-name-clause-refused c =
    let p = err_from_is_err_and c.from_residual.result c.from_residual.ensures.1 in
    rw (p.1, p.2) (stops _ _ _ c.in_err-name.ensures.refused)

pub returns-in_err-ports-clause-refused : goal.returns-in_err-ports-clause-refused
returns-in_err-ports-clause-refused c =
    let p = err_from_is_err_and c.from_residual-in_err-ports.result c.from_residual-in_err-ports.ensures.1 in
    rw (p.1, p.2) (stops_later _ _ _ _ c.in_ok-name.ensures.read (stops _ _ _ (refused_from (names []) c.args.call.now 1 _ _ _ c.number.ensures c.from.ensures.words c.in_err-ports.ensures.refused)))
