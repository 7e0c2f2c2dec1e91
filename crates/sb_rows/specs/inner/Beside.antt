-- What is kept beside a row.
use Rattle.std.specs.Prelude.{◌≡◌, ◌<◌, ◌&&◌, Bool}
use Rattle.std.specs.declared.cmp.Ordering.{Ordering}
use Rattle.std.specs.Ordering.{is_eq, nat_cmp, ordering_then}
use Rattle.sb_model.specs.declared.row.Row.{Row}
use Rattle.sb_model.specs.inner.Exact.{same_row}
use Rattle.sb_rows.specs.Row.{key_cmp}
use Rattle.sb_rows.specs.declared.stored.Key.{Key}
use Rattle.sb_rows.specs.inner.Tables.{key_of, rank_of}

-- what orders a row, but for the text of its match
abbrev pub key_of_row : Row → Key
key_of_row row = record { table = key_of row; rank = rank_of row }

-- by table, then by the place in it
abbrev pub order_of_keys : Key → Key → Ordering
order_of_keys one other = ordering_then (nat_cmp one.table other.table) (nat_cmp one.rank other.rank)

-- numbers of 16 and of 32 bits
abbrev pub FitsItsKey : Row → Type 0
FitsItsKey row = (row.priority < 65536) × (row.hint.0 < 4294967296)

-- the row's key
pub record IsBeside (row : Row) (key : Key) : Type 0 where
  pub keyed : key ≡ key_of_row row
  pub fits : FitsItsKey row

-- rows of one key that are equal by `==`
abbrev pub is_same : Row → Row → Bool
is_same one other = is_eq (key_cmp one other) && same_row one other
