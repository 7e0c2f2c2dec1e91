-- Entries that are fed at the keys at which units may differ.
use Rattle.std.proofs.Common.{◌≡◌, Bool, true, false, cond, List, Option, refl, sym, ◌∙◌}
use Rattle.std.specs.declared.cmp.Ordering.{Ordering}
use Rattle.nv_map.specs.Map.{value_at}
use Rattle.inc_feed.specs.Feed.{fed_at, has_key}
use Rattle.nd_touched.specs.Units.{HasUnits}

-- where entries have the units of a network, and those of another differ from these at some keys alone, they have the latter once they are fed at these keys
pub fed_units : {K I : Type 0} (cmp : K → K → Ordering) (keys : List K) (old new there : List (K × I)) (wanted : K → Option I) → HasUnits cmp old there → ((key : K) → wanted key ≡ value_at cmp key new)
    → ((key : K) → has_key cmp key keys ≡ false → value_at cmp key old ≡ value_at cmp key new) → (key : K) → value_at cmp key new ≡ fed_at cmp keys there wanted key
fed_units {K} {I} cmp keys old new there wanted has asked stays key = by (has_key cmp key keys) refl
  where
    by : (b : Bool) → has_key cmp key keys ≡ b → value_at cmp key new ≡ cond b (wanted key) (value_at cmp key there)
    by true is = sym (asked key)
    by false is = sym (has key ∙ stays key is)
