-- Entries whose keys rise, collected into a map.
use Rattle.std.proofs.Common.{◌≡◌, List, refl, ◌∙◌}
use Rattle.std.proofs.lemmas.Cmp.{eq_by_cmp_equiv}
use Rattle.std.proofs.lemmas.Map.Keys.{IsDistinct-from_sorted}
use Rattle.std.proofs.lemmas.Map.Lookups.{CmpEqualImpliesEq}
use Rattle.std.proofs.lemmas.Map.Made.{update_all_none}
use Rattle.std.specs.BTreeMap.{BTreeMap, IsFromIterResult}
use Rattle.std.specs.Cmp.{IsTotalOrder}
use Rattle.std.specs.Map.{keys_of}
use Rattle.std.specs.Ordering.{eq_by_cmp}
use Rattle.std.specs.declared.cmp.Ordering.{Ordering}
use Rattle.nv_map.specs.Map.{KeysRise}
use Rattle.inc_table.proofs.Applied.{same_lists}

-- the map has just these entries: at each key the last that was put there is the only one
pub collected : {K V : Type 0} {cmp : K → K → Ordering} → IsTotalOrder cmp → CmpEqualImpliesEq cmp → (entries : List (K × V)) (map : BTreeMap K V) → KeysRise cmp entries → IsFromIterResult cmp entries map → map.entries ≡ entries
collected {K} {V} {cmp} o exact entries map rise from =
    same_lists o exact map.entries entries from.1 rise (λ k. from.0 k ∙ update_all_none (eq_by_cmp_equiv o) (eq_by_cmp cmp) (λ x y. refl) entries k (IsDistinct-from_sorted cmp (keys_of entries) rise))
