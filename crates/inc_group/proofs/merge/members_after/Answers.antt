use Rattle.std.proofs.Common.{◌∙◌, List, sym, subst}
use Rattle.std.proofs.lemmas.Bool.{false≢true}
use Rattle.std.specs.Option.{option_copied}
use Rattle.inc_table.specs.Delta.{IsApplied}
use Rattle.inc_group.specs.inner.Moves.{entries_in}
use Rattle.inc_group.proofs.Merged.{whole_some}
use Rattle.inc_group.proofs.merge.members_after.Goals as goal

pub returns-then-is_empty-clause-applied : goal.returns-then-is_empty-clause-applied
returns-then-is_empty-clause-applied g c =
    let P : List (g.row.K.Denot × g.row.V.Denot) → Type 0 = λ l. IsApplied g.K.Ord.cmp c.args.changes.now (entries_in (option_copied c.args.old)) l in
    subst P (c.is_empty.ensures.0 c.if-is_empty.true) c.in_ok-members.ensures.applied

pub returns-else-is_empty-clause-whole : goal.returns-else-is_empty-clause-whole
returns-else-is_empty-clause-whole g c = whole_some g.K.Ord.cmp c.in_ok-members.members (λ e. false≢true (sym c.if-is_empty.false ∙ c.is_empty.ensures.1 e)) c.in_ok-members.ensures.rise
