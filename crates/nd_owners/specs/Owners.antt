-- Records that belong to an owner, and the first of each owner.
use Rattle.std.specs.Prelude.{Bool, List, [], ◌∷◌, map, filter}
use Rattle.nv_base.specs.declared.object.ObjId.{ObjId}
use Rattle.nv_map.specs.Map.{KeysRise}
use Rattle.inc_first.specs.First.{HasFirsts}
use Rattle.net_units.specs.Keys.{by_number}
use Rattle.nd_touched.specs.Units.{HasUnits}

-- the numbers of the records that pass a test, each with that of its owner
abbrev pub with_owners : {R : Type 0} → (R → ObjId) → (R → ObjId) → (R → Bool) → List R → List (ObjId × ObjId)
with_owners number owner passes records = map (λ r. (number r, owner r)) (filter passes records)

-- each is grouped by its owner
abbrev pub of_owner : ObjId → ObjId → List ObjId
of_owner number owner = owner ∷ []

-- entries are such numbers, and a table has the first of each owner
pub record HasFirstOfEach (numbers entries table : List (ObjId × ObjId)) : Type 0 where
  pub rise : KeysRise by_number entries
  pub units : HasUnits by_number numbers entries
  pub firsts : HasFirsts by_number of_owner entries table
