-- A set that tells which numbers a list has.
use Rattle.std.specs.Prelude.{◌≡◌, ◌==◌, ℕ, List}
use Rattle.std.specs.BTreeSet.{BTreeSet, contains}
use Rattle.std.specs.List.{list_any}
use Rattle.std.specs.Ordering.{nat_cmp}
use Rattle.nv_base.specs.declared.object.ObjId.{ObjId}

-- the set has the numbers of the list, and no others
pub record IsTold (ids : List ObjId) (seen : BTreeSet ℕ) : Type 0 where
  pub has : (q : ℕ) → contains nat_cmp seen q ≡ list_any (λ (n : ObjId). q == n.0) ids
