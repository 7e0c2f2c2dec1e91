-- Lists with the same rows.
use Rattle.std.specs.Prelude.{◌↔◌, List}
use Rattle.std.specs.List.{Contains}
use Rattle.sb_model.specs.declared.row.Row.{Row}

-- what is among the rows of one list is among those of the other, in whatever order and however often
pub record HaveSameRows (xs ys : List Row) : Type 0 where
  pub members : (r : Row) → Contains xs r ↔ Contains ys r
