use Rattle.std.proofs.Common.{[], refl}
use Rattle.std.proofs.lemmas.Result.{err_from_is_err_and}
use Rattle.nv_io.proofs.Writing.{wrote_nothing}
use Rattle.nv_input.proofs.server.Server.answer.Goals as goal

-- nothing of the reply is put before it is made
pub returns-in_err-answer-clause-stop : goal.returns-in_err-answer-clause-stop
returns-in_err-answer-clause-stop g c =
    let p = err_from_is_err_and c.from_residual.result c.from_residual.ensures.1 in
    rw (p.1, p.2) ([], (_, refl), wrote_nothing _ _ c.args.sink.now)
