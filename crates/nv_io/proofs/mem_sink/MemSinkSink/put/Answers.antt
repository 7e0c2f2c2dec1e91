use Rattle.std.proofs.Common.{inl, refl, Decides, length, ap, ◌∙◌, subst, arith}
use Rattle.std.proofs.lemmas.Grind.{common_steps}
use Rattle.std.proofs.lemmas.Bool.{false≢true}
use Rattle.nv_io.specs.Store.{Store, NextPutFails}
use Rattle.nv_io.specs.Counts.{next_count}
use Rattle.nv_io.proofs.Calls.{next_fails, put_fails, full_fails}
use Rattle.nv_io.proofs.mem_sink.MemSinkSink.put.Goals as goal
use Rattle.nv_io.proofs.mem_sink.MemSinkSink.put.Goals.{then-free-eq0-via-then-free-eq0, then-free-eq0-via-else-free-eq0+then-contains}

pub returns-clause-fails : goal.returns-clause-fails
returns-clause-fails c =
    let listed = next_fails _ _ _ _ _ c.contains.ensures.cases (c.deref.ensures.value ∙ ap (λ (s : Store). s.fail) c.self.view_is) (c.one_more-self-inside.ensures ∙ ap (λ (s : Store). next_count s.puts) c.self.view_is) in
    let kept = c.len.ensures ∙ c.self.inside.kept.ok.0 in
    let same_room = ap (λ (s : Store). s.room) c.self.view_is in
    let same_kept = kept ∙ ap (λ (s : Store). length s.kept) c.self.view_is in
    subst (λ r. Decides r (NextPutFails c.args.self.now)) c.if-contains.false (put_fails c.args.self.now _ _ _ same_room same_kept c.if-free-eq0.false listed)

pub returns-clause-count : goal.returns-clause-count
returns-clause-count c = grind (arith, common_steps)

pub returns-clause-ok : goal.returns-clause-ok
returns-clause-ok c = grind (arith, common_steps)

pub returns-clause-step : goal.returns-clause-step
returns-clause-step c = (λ h. false≢true ((returns-clause-fails c).1 h), returns-clause-count c, returns-clause-ok c)

pub returns-then-free-eq0-clause-fails : goal.returns-then-free-eq0-clause-fails
returns-then-free-eq0-clause-fails c =
    let same_room = ap (λ (s : Store). s.room) c.self.view_is in
    let same_kept = c.self.inside.kept.ok.0 ∙ ap (λ (s : Store). length s.kept) c.self.view_is in
    let fails : NextPutFails c.args.self.now = elim c.then-free-eq0.branch [
      | then-free-eq0-via-then-free-eq0 w ↦ full_fails c.args.self.now _ _ _ same_room c.len.ensures same_kept c.self.invariant.0 w.if-free-eq0.true
      | then-free-eq0-via-else-free-eq0+then-contains w ↦
          let listed = next_fails _ _ _ _ _ w.contains.ensures.cases (w.deref.ensures.value ∙ ap (λ (s : Store). s.fail) c.self.view_is) (c.one_more-self-inside.ensures ∙ ap (λ (s : Store). next_count s.puts) c.self.view_is) in
          inl (listed.0 w.if-contains.true)
    ] in
    (λ _. fails, λ _. refl)

pub returns-then-free-eq0-clause-err : goal.returns-then-free-eq0-clause-err
returns-then-free-eq0-clause-err c = grind (arith, common_steps)

pub returns-then-free-eq0-clause-step : goal.returns-then-free-eq0-clause-step
returns-then-free-eq0-clause-step c = ((returns-then-free-eq0-clause-fails c).0 refl, returns-then-free-eq0-clause-err c)
