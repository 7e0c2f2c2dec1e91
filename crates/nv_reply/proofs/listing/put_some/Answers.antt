use Rattle.std.proofs.lemmas.Result.{err_from_is_err_and}
use Rattle.nv_reply.proofs.Stops.{stopped_first}
use Rattle.nv_reply.proofs.listing.put_some.Goals as goal

-- nothing of the listing is put before it is formed
pub returns-in_err-put_listing-clause-stop : goal.returns-in_err-put_listing-clause-stop
returns-in_err-put_listing-clause-stop g c =
    let p = err_from_is_err_and c.from_residual.result c.from_residual.ensures.1 in
    rw (p.1, p.2) (stopped_first _ _ c.args.sink.now _)
