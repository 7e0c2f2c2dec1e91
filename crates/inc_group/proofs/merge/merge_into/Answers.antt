use Rattle.std.proofs.Common.{◌≡◌, ◌∙◌, List, sym, ap, subst}
use Rattle.std.specs.Option.{option_copied}
use Rattle.std.specs.Prelude.{IfOk}
use Rattle.inc_table.specs.Delta.{IsApplied}
use Rattle.inc_group.specs.inner.Moves.{entries_in}
use Rattle.inc_group.proofs.merge.merge_into.Goals as goal

pub returns-in-None-clause-applied : goal.returns-in-None-clause-applied
returns-in-None-clause-applied g c =
    let P : List (g.row.K.Denot × g.row.V.Denot) → Type 0 = λ l. IfOk c.merge.result (λ members. IsApplied g.K.Ord.cmp c.args.changes.now l members) in
    subst P (c.as_slice.ensures.members ∙ c.new-none.ensures ∙ sym (ap (λ o. entries_in (option_copied o)) c.in-None.is)) c.merge.ensures.applied

pub returns-in-Some-clause-applied : goal.returns-in-Some-clause-applied
returns-in-Some-clause-applied g c =
    let P : List (g.row.K.Denot × g.row.V.Denot) → Type 0 = λ l. IfOk c.merge-in-Some.result (λ members. IsApplied g.K.Ord.cmp c.args.changes.now l members) in
    subst P (c.as_slice-in-Some.ensures.members ∙ sym (ap (λ o. entries_in (option_copied o)) c.in-Some.is)) c.merge-in-Some.ensures.applied
