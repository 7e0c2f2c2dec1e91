use Rattle.std.proofs.Common.{◌+◌, ◌++◌, drop, ap, sym, ◌∙◌}
use Rattle.std.proofs.lemmas.List.{append-nil, at_drop_all}
use Rattle.std.proofs.lemmas.Result.{err_from_is_err_and}
use Rattle.nv_base.specs.Growth.{GrowsAtEnd}
use Rattle.nv_base.proofs.Growth.{grows_on, grows_more, on_err}
use Rattle.nb_text.specs.Words.{backends_text}
use Rattle.nb_text.proofs.Backends.{one_on}
use Rattle.nb_text.proofs.words.put_backends.Goals as goal

pub returns-in_err-put_service-clause-err : goal.returns-in_err-put_service-clause-err
returns-in_err-put_service-clause-err c =
    let p = err_from_is_err_and c.from_residual-in_err-put_service.result c.from_residual-in_err-put_service.ensures.1 in
    let there = grows_on _ _ _ _ c.loop-backend.invariant.grown c.in_ok-extend_from_slice.ensures.items in
    rw (p.1) (grows_more _ _ _ there c.in_err-put_service.ensures.err)

pub loop-backend-preserved : goal.loop-backend-preserved
loop-backend-preserved c =
    let l = c.loop-backend in
    let next = ap (λ front. c.put_service.new.out.items ++ backends_text front (drop (l.backend-index + 1) c.args.backends.now)) c.as_slice-front-in-loop-backend.ensures in
    record {
      grown = grows_on _ _ _ _ (grows_on _ _ _ _ l.invariant.grown c.in_ok-extend_from_slice.ensures.items) c.in_ok-put_service.ensures.ok;
      whole = next ∙ one_on c.args.backends.now l.backend-index _ l.front.now _ _ _ c.loop-backend-test.true c.in_ok-extend_from_slice.ensures.items c.in_ok-put_service.ensures.ok ∙ l.invariant.whole;
    }

pub returns-in_err-extend_from_slice-clause-err : goal.returns-in_err-extend_from_slice-clause-err
returns-in_err-extend_from_slice-clause-err c =
    let grown = c.loop-backend.invariant.grown in
    let same : GrowsAtEnd c.args.out.now.items c.extend_from_slice.new.self.items = (grown.0, c.in_err-extend_from_slice.ensures.items ∙ grown.1) in
    on_err _ _ same

pub returns-clause-ok : goal.returns-clause-ok
returns-clause-ok c =
    let l = c.loop-backend in
    sym (append-nil l.out.items) ∙ sym (at_drop_all (λ backends. l.out.items ++ backends_text l.front.now backends) c.args.backends.now _ c.loop-backend-test.false) ∙ l.invariant.whole
