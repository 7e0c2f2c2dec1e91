-- The index of connections: of each key the first place that has it, and zones, those that have an entry among them.
use Rattle.std.specs.Prelude.{◌≡◌, ℕ, ◌==◌, Bool, true, false, List, Option, Some, None}
use Rattle.std.specs.List.{list_any, position}
use Rattle.indexmap.specs.IndexMap.{IndexMap, get}
use Rattle.indexmap.specs.IndexSet.{IndexSet, contains}
use Rattle.ct_core.specs.declared.entry.Entry.{Entry}
use Rattle.ct_core.specs.declared.look.Side.{Side}
use Rattle.ct_core.specs.declared.look.Side.TheVariants.{Orig, Reply}
use Rattle.ct_core.specs.declared.zone.Zone.{Zone}
use Rattle.ct_core.specs.Changes.{AreConnections}
use Rattle.ct_core.specs.Entry.{has, is_in}
use Rattle.ct_core.specs.inner.Exact.{zones_equal}
use Rattle.ct_table.specs.declared.key.Key.{Key}
use Rattle.ct_table.specs.inner.Key.{keys_equal}

-- whether what was found is this place
abbrev pub is_place : ℕ → Option ℕ → Bool
is_place place (Some found) = found == place
is_place place None = false

module _ {S : Type 0} where
  -- the places of the keys of a direction
  abbrev pub Places : Side → List Entry → IndexMap Key ℕ S → Type 0
  Places side conns map = (k : Key) → get keys_equal map k ≡ position (has side k.zone k.tuple) conns

  -- each zone that has an entry is there; one that had some may be
  abbrev pub Zones : List Entry → IndexSet Zone S → Type 0
  Zones conns zones = (zone : Zone) → list_any (is_in zone) conns ≡ true → contains zones_equal zones zone ≡ true

  -- the whole index
  pub record IsIndexed (conns : List Entry) (origs replies : IndexMap Key ℕ S) (zones : IndexSet Zone S) : Type 0 where
    pub are : AreConnections conns
    pub by_orig : Places Orig conns origs
    pub by_reply : Places Reply conns replies
    pub by_zone : Zones conns zones
