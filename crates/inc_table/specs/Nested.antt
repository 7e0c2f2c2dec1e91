-- Entries by two keys.
use Rattle.std.specs.Prelude.{◌≡◌, ◌&&◌, List, Option, if◌then◌else◌, option_and_then}
use Rattle.std.specs.Ordering.{is_eq}
use Rattle.std.specs.declared.cmp.Ordering.{Ordering}
use Rattle.nv_map.specs.Map.{value_at}
use Rattle.inc_table.specs.declared.delta.Change.{Change}
use Rattle.inc_table.specs.Delta.{left_by}

module _ {A B V : Type 0} (outer : A → A → Ordering) (inner : B → B → Ordering) where
  -- the value at two keys
  abbrev pub value_in : A → B → List (A × List (B × V)) → Option V
  value_in a b entries = option_and_then (value_at inner b) (value_at outer a entries)

  -- the entries after a change at two keys
  abbrev pub IsChangedAt : (A × B) × Change V → List (A × List (B × V)) → List (A × List (B × V)) → Type 0
  IsChangedAt change old new = (a : A) (b : B) → value_in a b new ≡ (if is_eq (outer change.0.0 a) && is_eq (inner change.0.1 b) then left_by change.1 else value_in a b old)
