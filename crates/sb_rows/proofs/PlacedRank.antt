-- Rows of one rank, among those of a table.
use Rattle.std.proofs.Common.{◌≡◌, ℕ, ◌+◌, ◌<◌, ◌≤◌, List, [], ◌∷◌, sym, ap, subst, arith, inl, inr}
use Rattle.std.specs.Prelude.{◌↔◌, ◌⊎◌}
use Rattle.std.specs.BTreeMap.Range.{entries_between}
use Rattle.std.specs.List.{Contains}
use Rattle.std.specs.Ordering.{nat_cmp}
use Rattle.std.specs.declared.ops.Bound.TheVariants.{Included, Excluded}
use Rattle.std.proofs.lemmas.List.Elements.{All-contains}
use Rattle.std.proofs.lemmas.Map.Made.{Contains-from_values_of}
use Rattle.sb_model.specs.declared.row.Row.{Row}
use Rattle.sb_rows.specs.inner.Store.{ArePlaced, IsPlace, first_place, rows_of_places}
use Rattle.sb_rows.specs.inner.Tables.{rank_of}
use Rattle.sb_rows.proofs.PlacedParts.{first_or_later, is_between, later, was_between}

-- an entry is a row at its place
pub placed_at : (rows : List (ℕ × Row)) → ArePlaced rows → (at : ℕ) (row : Row) → Contains rows (at, row) → IsPlace at row
placed_at rows are at row there = All-contains (λ (e : ℕ × Row). IsPlace e.0 e.1) rows (at, row) are.placed there

-- and is between the places of its rank
pub within_rank : (rows : List (ℕ × Row)) (at : ℕ) (row : Row) (first : ℕ) → ArePlaced rows → first ≡ first_place (rank_of row) → Contains rows (at, row) → (first ≤ at) × (at < first + 604462909807314587353088)
within_rank rows at row first are begins there = let place = placed_at rows are at row there in (omega (arith, place.from), omega (arith, place.below))

-- a row is among those of its rank
pub in_rank : (rows part : List (ℕ × Row)) (row : Row) (first : ℕ) → ArePlaced rows → first ≡ first_place (rank_of row)
    → part ≡ entries_between nat_cmp (Included first) (Excluded (first + 604462909807314587353088)) rows → (at : ℕ) → Contains part (at, row) ↔ Contains rows (at, row)
in_rank rows part row first are begins is at = (
  λ there. was_between first (first + 604462909807314587353088) rows part is (at, row) there,
  λ there. let place = placed_at rows are at row there in is_between first (first + 604462909807314587353088) rows part is at row (omega (arith, place.from)) (omega (arith, place.below)) there,
)

-- the first of some rows is another one, so a row is still among the others
pub still_there : (rows rest more : List (ℕ × Row)) (row : Row) (e : ℕ × Row) → rest ≡ e ∷ more → (e.1 ≡ row → ⊥)
    → ((at : ℕ) → Contains rest (at, row) ↔ Contains rows (at, row)) → (at : ℕ) → Contains more (at, row) ↔ Contains rows (at, row)
still_there rows rest more row e is other among at = (
  λ there. (among at).0 (subst (λ l. Contains l (at, row)) (sym is) (later e (at, row) more there)),
  λ there. by (first_or_later e (at, row) more (subst (λ l. Contains l (at, row)) is ((among at).1 there))),
)
  where
    by : (e ≡ (at, row)) ⊎ Contains more (at, row) → Contains more (at, row)
    by (inl same) = absurd (other (ap (λ (x : ℕ × Row). x.1) same))
    by (inr there) = there

-- the first of those that are left
pub found_there : (rows rest more : List (ℕ × Row)) (row x : Row) (at : ℕ) → rest ≡ (at, x) ∷ more → x ≡ row
    → ((at : ℕ) → Contains rest (at, row) ↔ Contains rows (at, row)) → Contains rows (at, row)
found_there rows rest more row x at is same among =
    (among at).0 (subst (λ l. Contains l (at, row)) (sym is) (0, omega arith, ap (λ (y : Row). (at, y)) same))

-- a row is nowhere where none is left
pub nowhere : (rows rest : List (ℕ × Row)) (row : Row) → rest ≡ [] → ((at : ℕ) → Contains rest (at, row) ↔ Contains rows (at, row)) → Contains (rows_of_places rows) row → ⊥
nowhere rows rest row is among there =
    let place = Contains-from_values_of rows row there in
    none (subst (λ l. Contains l (place.0, row)) is ((among place.0).1 place.1))
  where
    none : {at : ℕ} → Contains {X = ℕ × Row} [] (at, row) → ⊥
    none (k, within, _) = absurd (omega arith)
