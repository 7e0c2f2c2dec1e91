-- How rows are kept: by table, and in a table by a place, which rises as the order of rows does.
use Rattle.std.specs.Prelude.{◌≡◌, ◌⊎◌, ◌+◌, ◌*◌, ◌<◌, ◌≤◌, ℕ, true, false, List, Option, Some, length, map}
use Rattle.std.specs.List.{All, Contains, flat_map}
use Rattle.std.specs.Map.{keys_of}
use Rattle.std.specs.List.Sorted.{IsStrictlySortedBy}
use Rattle.std.specs.Ordering.{is_gt, nat_cmp}
use Rattle.sb_model.specs.declared.row.Row.{Row}
use Rattle.sb_rows.specs.Row.{AreRows, IsInRowOrder, row_cmp}
use Rattle.sb_rows.specs.declared.index.Index.{Index}
use Rattle.sb_rows.specs.inner.Beside.{FitsItsKey}
use Rattle.sb_rows.specs.inner.Index.{Covers}
use Rattle.sb_rows.specs.inner.Tables.{key_of, rank_of}

-- the first place of a rank
abbrev pub first_place : ℕ → ℕ
first_place rank = rank * 604462909807314587353088

-- the row is of the rank that has the place
pub record IsPlace (place : ℕ) (row : Row) : Type 0 where
  pub from : first_place (rank_of row) ≤ place
  pub below : place < first_place (rank_of row + 1)
  pub fits : FitsItsKey row

-- the numbers of entries rise
abbrev pub NumbersRise : {X : Type 0} → List (ℕ × X) → Type 0
NumbersRise entries = IsStrictlySortedBy nat_cmp (keys_of entries)

-- rows by their places
pub record ArePlaced (rows : List (ℕ × Row)) : Type 0 where
  pub rise : NumbersRise rows
  pub placed : All (λ e. IsPlace e.0 e.1) rows

-- the rows of entries
abbrev pub rows_of_places : List (ℕ × Row) → List Row
rows_of_places rows = map (λ e. e.1) rows

-- rows of a table by their places, and what is kept to find them by
pub record IsTable (rows : List (ℕ × Row)) (kept : Option Index) : Type 0 where
  pub placed : ArePlaced rows
  pub ordered : IsInRowOrder (rows_of_places rows)
  pub covered : (index : Index) → kept ≡ Some index → Covers index rows

-- rows at places below this one are not after a new row, and all others are
abbrev pub IsPartedAt : Row → ℕ → List (ℕ × Row) → Type 0
IsPartedAt row at rows =
    (there : ℕ) (x : Row) → Contains rows (there, x) → ((there < at) × (is_gt (row_cmp x row) ≡ false)) ⊎ ((at ≤ there) × (is_gt (row_cmp x row) ≡ true))

-- a new row may have the place: rows of lower ones are not after it, and those of higher ones are
pub record GoesAt (row : Row) (place : ℕ) (rows : List (ℕ × Row)) : Type 0 where
  pub is : IsPlace place row
  pub apart : (there : ℕ) (x : Row) → Contains rows (there, x)
      → ((there < place) × (is_gt (row_cmp x row) ≡ false)) ⊎ ((place < there) × (is_gt (row_cmp x row) ≡ true))

-- the rows of tables, one table after the other
abbrev pub flat : List (ℕ × List Row) → List Row
flat tables = flat_map (λ e. e.1) tables

-- tables by their rising places among all, each of rows of its place
pub record AreTables (tables : List (ℕ × List Row)) : Type 0 where
  pub rise : NumbersRise tables
  pub keyed : All (λ table. All (λ row. key_of row ≡ table.0) table.1) tables

-- tables of rows, and how many rows these are
pub record IsStore (kept : List (ℕ × List Row)) (count : ℕ) : Type 0 where
  pub tables : AreTables kept
  pub rows : AreRows (flat kept)
  pub counted : count ≡ length (flat kept)
