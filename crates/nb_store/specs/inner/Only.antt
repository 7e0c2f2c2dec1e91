-- A number that a list has once.
use Rattle.std.specs.Prelude.{◌≡◌, ℕ, ◌+◌, false, List, take, drop, Some, slice_get}
use Rattle.nv_base.specs.declared.object.ObjId.{ObjId}
use Rattle.nb_model.specs.Belongs.{is_among}

-- the number is at a place, and neither before it nor after it
pub record IsOnly (number : ObjId) (numbers : List ObjId) (at : ℕ) : Type 0 where
  pub here : slice_get numbers at ≡ Some number
  pub first : is_among number (take at numbers) ≡ false
  pub last : is_among number (drop (at + 1) numbers) ≡ false
