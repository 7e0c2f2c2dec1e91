use Rattle.std.proofs.Common.{refl, Decides, ap, ◌∙◌, subst, rules, arith}
use Rattle.std.proofs.lemmas.Grind.{common_steps}
use Rattle.std.proofs.lemmas.Bool.{false≢true}
use Rattle.nv_io.specs.Feed.{Feed, NextTakeFails}
use Rattle.nv_io.specs.Counts.{next_count}
use Rattle.nv_io.proofs.Calls.{next_fails, front, still}
use Rattle.nv_io.proofs.mem_source.MemSourceSource.take.Goals as goal

pub returns-then-contains-clause-fails : goal.returns-then-contains-clause-fails
returns-then-contains-clause-fails c =
    let fails = next_fails _ _ _ _ _ c.contains.ensures.cases (c.deref.ensures.value ∙ ap (λ (s : Feed). s.fail) c.self.view_is) (c.one_more-self-inside.ensures ∙ ap (λ (s : Feed). next_count s.takes) c.self.view_is) in
    subst (λ r. Decides r (NextTakeFails c.args.self.now)) c.if-contains.true fails

pub returns-clause-fails : goal.returns-clause-fails
returns-clause-fails c =
    let fails = next_fails _ _ _ _ _ c.contains.ensures.cases (c.deref.ensures.value ∙ ap (λ (s : Feed). s.fail) c.self.view_is) (c.one_more-self-inside.ensures ∙ ap (λ (s : Feed). next_count s.takes) c.self.view_is) in
    subst (λ r. Decides r (NextTakeFails c.args.self.now)) c.if-contains.false fails

pub returns-clause-count : goal.returns-clause-count
returns-clause-count c = grind (arith, common_steps)

pub returns-clause-copied : goal.returns-clause-copied
returns-clause-copied c = grind (arith, common_steps)

pub returns-clause-ok : goal.returns-clause-ok
returns-clause-ok c = grind (arith, common_steps)

pub returns-clause-step : goal.returns-clause-step
returns-clause-step c =
    let count = returns-clause-count c in
    let copied = returns-clause-copied c in
    (λ h. false≢true ((returns-clause-fails c).1 h), still _ _ _ _ _ count copied, front _ _ _ _ _ count copied, returns-clause-ok c)

pub returns-then-contains-clause-err : goal.returns-then-contains-clause-err
returns-then-contains-clause-err c = search rules

pub returns-then-contains-clause-step : goal.returns-then-contains-clause-step
returns-then-contains-clause-step c = ((returns-then-contains-clause-fails c).0 refl, returns-then-contains-clause-err c)
