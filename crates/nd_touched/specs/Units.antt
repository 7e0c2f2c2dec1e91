-- Entries that are units of a network.
use Rattle.std.specs.Prelude.{◌≡◌, List}
use Rattle.std.specs.declared.cmp.Ordering.{Ordering}
use Rattle.nv_map.specs.Map.{value_at}

-- the entries have at each key what these units have
abbrev pub HasUnits : {K I : Type 0} → (K → K → Ordering) → List (K × I) → List (K × I) → Type 0
HasUnits {K} cmp units entries = (key : K) → value_at cmp key entries ≡ value_at cmp key units
