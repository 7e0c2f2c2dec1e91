use Rattle.std.proofs.Common.{sym, subst}
use Rattle.std.proofs.lemmas.Result.{err_from_is_err_and, IfErr-weaker, on_ok_weaker}
use Rattle.nv_reply.proofs.Listings.{ListedOf, listed_first, listed_memory, listed_more, stopped_more, listed_end, stopped_end}
use Rattle.nv_reply.proofs.listing.put_datapaths.Goals as goal

pub loop-number-init : goal.loop-number-init
loop-number-init g c = rw c.new-some.ensures.items (listed_first c.args.rows.now c.args.only g.K.Sink.put_gives g.K.Sink.state c.args.records.now c.args.sink.now)

-- no memory is left
pub returns-in_err-add-clause-stop : goal.returns-in_err-add-clause-stop
returns-in_err-add-clause-stop g c =
    let p = err_from_is_err_and c.from_residual.result c.from_residual.ensures.1 in
    rw (p.1, p.2) (listed_memory c.args.rows.now c.args.only g.K.Sink.put_gives g.K.Sink.state c.args.records.now c.args.sink.now c.loop-number.sink c.loop-number.some.items c.loop-number.last c.loop-number.invariant)

pub returns-in_err-put_full-clause-stop : goal.returns-in_err-put_full-clause-stop
returns-in_err-put_full-clause-stop g c =
    let p = err_from_is_err_and c.from_residual-in_err-put_full.result c.from_residual-in_err-put_full.ensures.1 in
    rw (p.1, p.2)
    (stopped_more c.args.rows.now c.args.only g.K.Sink.put_gives g.K.Sink.state c.args.records.now c.args.sink.now c.loop-number.sink c.loop-number.some.items c.loop-number.last c.loop-number.invariant
    (c.in-Some.number, c.in-Some.name.now) c.in-Some.ensures.next c.put_full.new.sink c.in_err-put_full.field-0.0
    (rw (sym c.in_ok-add.ensures) c.in_err-put_full.ensures.stop))

pub loop-number-preserved : goal.loop-number-preserved
loop-number-preserved g c =
    listed_more c.args.rows.now c.args.only g.K.Sink.put_gives g.K.Sink.state c.args.records.now c.args.sink.now c.loop-number.sink c.loop-number.some.items c.loop-number.last c.loop-number.invariant
    (c.in-Some.number, c.in-Some.name.now) c.in-Some.ensures.next c.put_full.new.sink c.put_full.new.some.items
    (subst (λ these. ListedOf c.args.rows.now c.args.only g.K.Sink.put_gives g.K.Sink.state c.loop-number.sink c.put_full.new.sink these c.put_full.new.some.items) c.in_ok-add.ensures c.in_ok-put_full.ensures.put)

pub returns-clause-put : goal.returns-clause-put
returns-clause-put g c =
    on_ok_weaker c.put_some.result
    (λ put. listed_end c.args.rows.now c.args.only g.K.Sink.put_gives g.K.Sink.state c.args.records.now c.args.sink.now c.loop-number.sink c.loop-number.some.items c.loop-number.last c.loop-number.invariant
    c.in_default.ensures.none c.put_some.new.sink put)
    c.put_some.ensures.put

pub returns-clause-stop : goal.returns-clause-stop
returns-clause-stop g c =
    IfErr-weaker c.put_some.result _ _
    (λ stop stops. stopped_end c.args.rows.now c.args.only g.K.Sink.put_gives g.K.Sink.state c.args.records.now c.args.sink.now c.loop-number.sink c.loop-number.some.items c.loop-number.last c.loop-number.invariant
    c.in_default.ensures.none c.put_some.new.sink stop stops)
    c.put_some.ensures.stop
