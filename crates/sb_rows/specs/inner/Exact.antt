-- Lists of rows that are equal by `==` are one value.
use Rattle.std.specs.Cmp.{IsPartialEquivalence, IsEquivalence, partial_equiv_from_equiv}
use Rattle.std.specs.Cmp.Lexicographic.{pointwise}
use Rattle.nv_base.specs.inner.Exact as tells
use Rattle.nv_base.specs.inner.Exact.{Tells}
use Rattle.sb_model.specs.contracts.row.RowEq.TheImpl.Laws.{laws-law}
use Rattle.sb_model.specs.inner.Exact.{same_row, row}

-- the laws of `==` of rows
pub rows_equiv : IsEquivalence same_row
rows_equiv = laws-law

-- the same, without that a row is equal to itself
pub rows_per : IsPartialEquivalence same_row
rows_per = partial_equiv_from_equiv rows_equiv

-- lists whose rows are equal by `==` are one list
pub row_list : Tells (pointwise same_row)
row_list = tells.list same_row row
