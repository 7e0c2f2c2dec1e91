use Rattle.std.proofs.Common.{◌≡◌, Result, Ok, Err, OnOk, length, take, ap, sym, arith}
use Rattle.std.proofs.lemmas.List.{append-nil, length-take-le}
use Rattle.std.proofs.lemmas.Result.{err_from_is_err_and, IfErr-weaker}
use Rattle.nv_io.proofs.Writing.{gave_take}
use Rattle.nv_input.specs.Opening.{opening_of}
use Rattle.nv_input.proofs.Conversing.{conversed_first, opening_failed, read_faulted, conversed_more, stopped_within, parted, too_long, finished, stopped_at_end}
use Rattle.nv_input.proofs.converse.converse.Goals as goal

both_ok : {T E : Type 0} (r : Result T E) (A B C : Type 0) → (A → B → C) → OnOk r A → OnOk r B → OnOk r C
both_ok (Ok x) A B C f a b = f a b
both_ok (Err e) A B C f a b = tt

pub returns-in_err-put_all-clause-stopped : goal.returns-in_err-put_all-clause-stopped
returns-in_err-put_all-clause-stopped g c =
    let p = err_from_is_err_and c.from_residual.result c.from_residual.ensures.1 in
    rw (p.1, p.2)
    (opening_failed g.S.Source.take_gives g.S.Source.state g.K.Sink.put_gives g.K.Sink.state (opening_of c.args.text.now c.args.server.now.session) c.args.source.now c.args.sink.now c.put_all.new.sink c.in_err-put_all.ensures.err)

pub pieces-init : goal.pieces-init
pieces-init g c =
    conversed_first _ _ _ _ (opening_of c.args.text.now c.args.server.now.session) c.args.source.now c.args.sink.now c.put_all.new.sink _ _ c.requires.first (ap length c.requires.line) c.in_ok-put_all.ensures.ok

pub returns-in_err-count-clause-stopped : goal.returns-in_err-count-clause-stopped
returns-in_err-count-clause-stopped g c =
    let p = err_from_is_err_and c.from_residual-in_err-count.result c.from_residual-in_err-count.ensures.1 in
    let failed = c.in_err-count.ensures in
    rw (p.1, p.2)
    (read_faulted _ _ _ _ _ _ _ _ _ _ _ _ c.pieces.room c.pieces.invariant c.take.new.self c.take.new.into (omega arith) failed.step failed.none_lost failed.none_given failed.fault)

pub returns-in_err-feed-clause-stopped : goal.returns-in_err-feed-clause-stopped
returns-in_err-feed-clause-stopped g c =
    let p = err_from_is_err_and c.from_residual-in_err-feed.result c.from_residual-in_err-feed.ensures.1 in
    let took = c.in_ok-count.ensures in
    let n = c.in_ok-count.count in
    let into = c.take.new.into in
    rw (p.1, p.2)
    (stopped_within _ _ _ _ _ _ _ _ _ _ _ _ c.pieces.room c.pieces.invariant _ into n took.step (gave_take _ _ into n took.within took.given took.amount) took.quiet (omega arith) _ _ _ c.in_err-feed.field-0.0
    (parted _ _ _ _ _ _ _ _ _ _ _ _ c.pieces.room c.pieces.invariant _ into n took.step (gave_take _ _ into n took.within took.given took.amount) took.quiet (omega arith) (omega arith))
    (c.in_err-feed.ensures.stop c.args.server.now.session c.pieces.invariant.given c.pieces.invariant.stands))

pub returns-then-count-room-clause-stopped : goal.returns-then-count-room-clause-stopped
returns-then-count-room-clause-stopped g c =
    let took = c.in_ok-count.ensures in
    let n = c.in_ok-count.count in
    let into = c.take.new.into in
    too_long _ _ _ _ _ _ _ _ _ _ _ _ c.pieces.room c.pieces.invariant _ into n took.step (gave_take _ _ into n took.within took.given took.amount) took.quiet (omega arith) _ _ _ _ (omega arith) (length-take-le n into took.within)
    (c.in_ok-feed.ensures.fed c.args.server.now.session c.pieces.invariant.given c.pieces.invariant.stands)

pub returns-in_err-feed-2-clause-stopped : goal.returns-in_err-feed-2-clause-stopped
returns-in_err-feed-2-clause-stopped g c =
    let p = err_from_is_err_and c.from_residual-in_err-feed-2.result c.from_residual-in_err-feed-2.ensures.1 in
    let took = c.in_ok-count.ensures in
    let n = c.in_ok-count.count in
    let into = c.take.new.into in
    rw (p.1, p.2)
    (stopped_within _ _ _ _ _ _ _ _ _ _ _ _ c.pieces.room c.pieces.invariant _ into n took.step (gave_take _ _ into n took.within took.given took.amount) took.quiet (omega arith) _ (take n into) _ c.in_err-feed-2.field-0.0
    (sym (append-nil (take n into)))
    (c.in_err-feed-2.ensures.stop c.args.server.now.session c.pieces.invariant.given c.pieces.invariant.stands))

pub pieces-preserved : goal.pieces-preserved
pieces-preserved g c =
    let took = c.in_ok-count.ensures in
    let n = c.in_ok-count.count in
    let into = c.take.new.into in
    let long = length-take-le n into took.within in
    conversed_more _ _ _ _ _ _ _ _ _ _ _ _ c.pieces.room c.pieces.invariant _ into n took.step (gave_take _ _ into n took.within took.given took.amount) took.quiet (omega arith) _ _ _ _ (omega arith) long (omega (arith, c.in_ok-feed-2.ensures.next, long))
    (c.in_ok-feed-2.ensures.fed c.args.server.now.session c.pieces.invariant.given c.pieces.invariant.stands)

pub returns-clause-finished : goal.returns-clause-finished
returns-clause-finished g c =
    let took = c.in_ok-count.ensures in
    let none : c.in_ok-count.count ≡ 0 = c.if-count-eq0.true in
    both_ok c.answer.result _ _ _
    (λ refused put. rw refused (finished _ _ _ _ _ _ _ _ _ _ _ _ c.pieces.room c.pieces.invariant c.take.new.self c.take.new.into c.in_ok-count.count took.step (gave_take _ _ c.take.new.into c.in_ok-count.count took.within took.given took.amount) took.quiet (omega arith) c.answer.new.sink none (took.end none) put))
    c.answer.ensures.refused c.answer.ensures.put

pub returns-clause-stopped : goal.returns-clause-stopped
returns-clause-stopped g c =
    let took = c.in_ok-count.ensures in
    IfErr-weaker c.answer.result _ _
    (λ stop stops. stopped_at_end _ _ _ _ _ _ _ _ _ _ _ _ c.pieces.room c.pieces.invariant c.take.new.self c.take.new.into c.in_ok-count.count took.step (gave_take _ _ c.take.new.into c.in_ok-count.count took.within took.given took.amount) took.quiet (omega arith) c.answer.new.sink stop c.if-count-eq0.true (took.end c.if-count-eq0.true) stops)
    c.answer.ensures.stop
