-- The rows of the logical flow table: their order, and how rows are put among others and taken out.
use Rattle.std.specs.Prelude.{◌≡◌, ◌≢◌, List, [], ◌∷◌, ◌++◌, fold, if◌then◌else◌, ◌==◌, filter, IsSorted, ◌↔◌}
use Rattle.std.specs.List.{All, AllPairs, Contains}
use Rattle.std.specs.declared.cmp.Ordering.{Ordering}
use Rattle.std.specs.declared.cmp.Ordering.TheVariants.{Equal}
use Rattle.std.specs.Ordering.{nat_cmp, is_gt, on, then_cmp, flip_args}
use Rattle.std.specs.Cmp.Lexicographic.{slice_cmp}
use Rattle.nv_base.specs.declared.object.ObjId.{ObjId}
use Rattle.expr_core.specs.declared.role.Role.TheVariants as role
use Rattle.expr_core.specs.Text.{typed_text}
use Rattle.expr_core.specs.WellTyped.{IsTyped}
use Rattle.sb_model.specs.declared.row.Row.{Row}
use Rattle.sb_model.specs.Stage.{stage_place}

-- rows are ordered by datapath, then by stage
abbrev pub place_cmp : Row → Row → Ordering
place_cmp = then_cmp (on (λ r. r.dp.0) nat_cmp) (on (λ r. stage_place r.stage) nat_cmp)

-- within a stage they are ordered by priority, the highest first, then by hint
abbrev pub rank_cmp : Row → Row → Ordering
rank_cmp = then_cmp (flip_args (on (λ r. r.priority) nat_cmp)) (on (λ r. r.hint.0) nat_cmp)

-- by all of these
unfoldable pub key_cmp : Row → Row → Ordering
key_cmp = then_cmp place_cmp rank_cmp

-- the order of rows: place, rank, and the text of the match by its bytes
unfoldable pub row_cmp : Row → Row → Ordering
row_cmp = then_cmp key_cmp (on (λ r. typed_text r.matching) (slice_cmp nat_cmp))

-- no row is before the one ahead of it in this order
abbrev pub IsInRowOrder : List Row → Type 0
IsInRowOrder rows = IsSorted row_cmp rows

-- no two of the rows agree in datapath, stage, priority, hint and match
abbrev pub AreApart : List Row → Type 0
AreApart rows = AllPairs (λ a b. row_cmp a b ≢ Equal) rows

-- rows that agree in datapath, stage, priority, hint and match are one row
abbrev pub AgreeAsOne : List Row → Type 0
AgreeAsOne rows = (a b : Row) → Contains rows a → Contains rows b → row_cmp a b ≡ Equal → a ≡ b

-- the match of the row is well-typed, in the role of a row
abbrev pub HasTypedMatch : Row → Type 0
HasTypedMatch r = IsTyped role.Row r.matching

-- rows of the table: in row order, none is there twice, and their matches are well-typed
pub record AreRows (rows : List Row) : Type 0 where
  pub ordered : IsInRowOrder rows
  pub distinct : AllPairs (λ a b. a ≢ b) rows
  pub typed : All HasTypedMatch rows

-- the rows of a list as a set: in row order, and one that the list has twice is one row
pub record IsSetOf (rows list : List Row) : Type 0 where
  pub ordered : IsInRowOrder rows
  pub apart : AreApart rows
  pub members : (r : Row) → Contains rows r ↔ Contains list r

-- the rows with one more, which goes before the first that is after it in this order
abbrev pub put_row : Row → List Row → List Row
put_row row [] = row ∷ []
put_row row (x ∷ xs) = if is_gt (row_cmp x row) then row ∷ x ∷ xs else x ∷ put_row row xs

-- rows, each put in its place among those that are there
abbrev pub put_rows : List Row → List Row → List Row
put_rows rows more = fold (λ there row. put_row row there) rows more

-- the new rows are the old ones without one: those before it, and those after it
pub record IsWithout (row : Row) (old new : List Row) : Type 0 where
  pub before : List Row
  pub after : List Row
  pub were : old ≡ before ++ row ∷ after
  pub are : new ≡ before ++ after

-- the rows of one datapath
abbrev pub rows_of : ObjId → List Row → List Row
rows_of dp rows = filter (λ r. r.dp.0 == dp.0) rows
