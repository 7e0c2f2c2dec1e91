use Rattle.std.proofs.Common.{◌≡◌, ◌||◌, length, eqb, sym, ap, ◌∙◌, subst, arith}
use Rattle.std.proofs.lemmas.Result.{err_from_is_err_and}
use Rattle.nv_io.specs.Writing.{Wrote}
use Rattle.nv_input.proofs.Kept.{none_there, kept_longer, reply_empty}
use Rattle.nv_input.proofs.StateAfter.{or_false}
use Rattle.nv_io.proofs.Writing.{wrote_nothing}
use Rattle.nv_reply.proofs.Stops.{stopped_first}
use Rattle.nv_input.proofs.server.Server.end_line.Goals as goal

-- an empty line changes nothing
pub returns-then-is_empty-2-clause-session : goal.returns-then-is_empty-2-clause-session
returns-then-is_empty-2-clause-session g c =
    let long : c.args.self.now.line.len ≡ length c.args.self.now.line.items = omega arith in
    let none = none_there c.args.self.now.line.items _ (c.is_empty-then-is_empty.ensures ∙ ap (λ n. eqb n 0) long) c.if-is_empty-2.true in
    let empty = none_there c.args.bytes.now _ c.is_empty.ensures c.if-is_empty.true in
    sym (ap (λ r. r.after) (reply_empty c.args.self.now.session _ _ none empty))

pub returns-then-is_empty-2-clause-refused : goal.returns-then-is_empty-2-clause-refused
returns-then-is_empty-2-clause-refused g c =
    let long : c.args.self.now.line.len ≡ length c.args.self.now.line.items = omega arith in
    let none = none_there c.args.self.now.line.items _ (c.is_empty-then-is_empty.ensures ∙ ap (λ n. eqb n 0) long) c.if-is_empty-2.true in
    let empty = none_there c.args.bytes.now _ c.is_empty.ensures c.if-is_empty.true in
    let refused = c.args.self.now.some_refused in
    sym (ap (λ r. refused || r.refused) (reply_empty c.args.self.now.session _ _ none empty) ∙ or_false refused)

-- and nothing is put
pub returns-then-is_empty-2-clause-put : goal.returns-then-is_empty-2-clause-put
returns-then-is_empty-2-clause-put g c =
    let long : c.args.self.now.line.len ≡ length c.args.self.now.line.items = omega arith in
    let none = none_there c.args.self.now.line.items _ (c.is_empty-then-is_empty.ensures ∙ ap (λ n. eqb n 0) long) c.if-is_empty-2.true in
    let empty = none_there c.args.bytes.now _ c.is_empty.ensures c.if-is_empty.true in
    let k = c.args.sink.now in
    subst (λ r. Wrote g.K.Sink.put_gives g.K.Sink.state k k r.text) (sym (reply_empty c.args.self.now.session _ _ none empty)) (wrote_nothing _ _ k)

-- nothing of the reply is put before it is made
pub returns-in_err-keep-clause-stop : goal.returns-in_err-keep-clause-stop
returns-in_err-keep-clause-stop g c =
    let p = err_from_is_err_and c.from_residual.result c.from_residual.ensures.1 in
    rw (p.1, p.2) (stopped_first _ _ c.args.sink.now _)

-- there is room for the numbers of the line
pub answer-requires : goal.answer-requires
answer-requires g c = omega (arith, c.requires, kept_longer c.args.self.now.line.items c.args.bytes.now, ap length c.in_ok-keep.ensures)
