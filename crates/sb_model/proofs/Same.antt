-- Whether two rows are one is decided.
use Rattle.std.proofs.Common.{◌≡◌, ◌≢◌, ◌⊎◌, inl, inr, Bool, true, false, sym, ap, refl, ◌∙◌}
use Rattle.std.proofs.lemmas.Bool.{false≢true}
use Rattle.sb_model.specs.contracts.row.RowEq.TheImpl.Laws.{laws-law}
use Rattle.sb_model.specs.declared.row.Row.{Row}
use Rattle.sb_model.specs.inner.Exact.{same_row, row}

-- a row is equal to itself by `==`
pub same_itself : (a : Row) → same_row a a ≡ true
same_itself a = laws-law.refl a

-- two rows are one, or they are not
pub same_or_other : (a b : Row) → (a ≡ b) ⊎ (a ≢ b)
same_or_other a b = by (same_row a b) refl
  where
    by : (t : Bool) → same_row a b ≡ t → (a ≡ b) ⊎ (a ≢ b)
    by true e = inl (row a b e)
    by false e = inr (λ is. false≢true (sym e ∙ ap (λ (x : Row). same_row a x) (sym is) ∙ same_itself a))
