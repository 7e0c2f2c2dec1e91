use Rattle.std.proofs.Common.{arith, length, ◌∷◌, ap}
use Rattle.std.proofs.lemmas.List.{length-append}
use Rattle.std.proofs.lemmas.Result.{err_from_is_err_and}
use Rattle.nv_input.specs.inner.StateAfter.{and_kept}
use Rattle.nv_input.proofs.Kept.{kept_longer}
use Rattle.nv_input.proofs.Pieces.{fed_nothing, fed_line, fed_all, stopped_here, stopped_line}
use Rattle.nv_reply.proofs.Reached.{reply_next}
use Rattle.nv_input.proofs.server.Server.feed.Goals as goal

pub loop-line-init : goal.loop-line-init
loop-line-init g c = record {
  next = omega arith;
  fed = λ first before stands. fed_nothing _ _ first c.args.sink.now before c.args.bytes.now _ _ _ stands;
}

-- there is room for the numbers of a line
pub end_line-requires : goal.end_line-requires
end_line-requires g c = omega (arith, c.requires, c.loop-line.invariant.next, ap length c.in-Some.ensures.cut.whole, length-append c.in-Some.line.now (10 ∷ c.in-Some.after.now))

pub returns-in_err-end_line-clause-stop : goal.returns-in_err-end_line-clause-stop
returns-in_err-end_line-clause-stop g c =
    let p = err_from_is_err_and c.from_residual.result c.from_residual.ensures.1 in
    rw (p.1, p.2) (λ first before stands.
    stopped_line _ _ first _ _ before _ _ _ _ _ (c.loop-line.invariant.fed first before stands) c.in-Some.line.now c.in-Some.after.now c.in-Some.ensures.cut c.end_line.new.sink c.in_err-end_line.field-0.0
    c.in_err-end_line.ensures.stop)

pub loop-line-preserved : goal.loop-line-preserved
loop-line-preserved g c =
    let line = and_kept c.loop-line.self.line.items c.in-Some.line.now in
    let network = c.in_ok-end_line.ensures.session in
    let put = c.in_ok-end_line.ensures.put in
    let lengths = ap length c.in-Some.ensures.cut.whole in
    record {
      next =
          rw (network, c.in_ok-end_line.ensures.line)
          (omega (arith, c.loop-line.invariant.next, reply_next c.loop-line.self.session line, kept_longer c.loop-line.self.line.items c.in-Some.line.now, lengths, length-append c.in-Some.line.now (10 ∷ c.in-Some.after.now)));
      fed = λ first before stands.
          rw (network, c.in_ok-end_line.ensures.line, c.in_ok-end_line.ensures.refused)
          (fed_line _ _ first _ _ before _ _ _ _ _ (c.loop-line.invariant.fed first before stands) c.in-Some.line.now c.in-Some.after.now c.in-Some.ensures.cut c.end_line.new.sink put);
    }

pub returns-in_err-keep-clause-stop : goal.returns-in_err-keep-clause-stop
returns-in_err-keep-clause-stop g c =
    let p = err_from_is_err_and c.from_residual-in_err-keep.result c.from_residual-in_err-keep.ensures.1 in
    rw (p.1, p.2) (λ first before stands. stopped_here _ _ first _ _ before _ _ _ _ _ (c.loop-line.invariant.fed first before stands))

pub returns-clause-next : goal.returns-clause-next
returns-clause-next g c = omega (arith, c.loop-line.invariant.next, kept_longer c.loop-line.self.line.items c.loop-line.rest.now, ap length c.in_ok-keep.ensures)

pub returns-clause-fed : goal.returns-clause-fed
returns-clause-fed g c = λ first before stands.
    rw c.in_ok-keep.ensures (fed_all _ _ first _ _ before _ _ _ _ _ (c.loop-line.invariant.fed first before stands) c.in_default.ensures.none)
