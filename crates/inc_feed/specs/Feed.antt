-- What a delta tells that is made at some keys alone.
use Rattle.std.specs.Prelude.{◌≡◌, Bool, List, Option, None, if◌then◌else◌}
use Rattle.std.specs.List.{list_any}
use Rattle.std.specs.Ordering.{is_eq}
use Rattle.std.specs.declared.cmp.Ordering.{Ordering}
use Rattle.nv_map.specs.Map.{value_at}
use Rattle.inc_table.specs.declared.delta.Change.{Change}
use Rattle.inc_table.specs.Delta.{IsApplied, IsDifference, change_between}

-- whether a key is among these
abbrev pub has_key : {K : Type 0} → (K → K → Ordering) → K → List K → Bool
has_key cmp key keys = list_any (λ other. is_eq (cmp key other)) keys

module _ {K V : Type 0} (cmp : K → K → Ordering) where
  -- at each of these keys what is wanted, and at any other what is there
  abbrev pub fed_at : List K → List (K × V) → (K → Option V) → K → Option V
  fed_at keys there wanted key = if has_key cmp key keys then wanted key else value_at cmp key there

  -- the delta tells at each of these keys what changes there from what is there to what is wanted, and nothing of any other
  abbrev pub IsFeed : (V → V → Bool) → List K → List (K × V) → (K → Option V) → List (K × Change V) → Type 0
  IsFeed eq keys there wanted delta = (key : K) → value_at cmp key delta ≡ (if has_key cmp key keys then change_between eq (value_at cmp key there) (wanted key) else None)

  -- applied to what is there, it leads to what is wanted at these keys
  abbrev pub LeadsTo : List K → List (K × V) → (K → Option V) → List (K × Change V) → Type 0
  LeadsTo keys there wanted delta = (new : List (K × V)) → IsApplied cmp delta there new → (key : K) → value_at cmp key new ≡ fed_at keys there wanted key

  -- it tells what changes from what is there to any entries that have what is wanted at these keys, and at any other what is there
  abbrev pub TellsChange : (V → V → Bool) → List K → List (K × V) → (K → Option V) → List (K × Change V) → Type 0
  TellsChange eq keys there wanted delta = (new : List (K × V)) → ((key : K) → value_at cmp key new ≡ fed_at keys there wanted key) → IsDifference cmp eq there new delta
