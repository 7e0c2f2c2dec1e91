-- Entries whose keys stand once, in any order, by what is among them.
use Rattle.std.proofs.Common.{◌≡◌, false, cond, List, [], ◌∷◌, Option, None, Some, refl, sym, ap, ◌∙◌, ◌⊎◌, inl, inr}
use Rattle.std.proofs.lemmas.Bool.{false≢true}
use Rattle.std.proofs.lemmas.Cmp.{tied_back, tied_itself}
use Rattle.std.proofs.lemmas.Map.Lookups.{CmpEqualImpliesEq}
use Rattle.std.specs.Cmp.{IsTotalOrder}
use Rattle.std.specs.List.{Contains, IsDistinct}
use Rattle.std.specs.Ordering.{eq_by_cmp, is_eq}
use Rattle.std.specs.declared.cmp.Ordering.{Ordering}
use Rattle.std.specs.declared.cmp.Ordering.TheVariants.{Less, Equal, Greater}
use Rattle.nv_map.specs.Map.{value_at}
use Rattle.nv_map.proofs.Members.{all_in, value_member}
use Rattle.net_rows.proofs.Elements.{one_of, one_of_none}
use Rattle.net_units.specs.Keys.{KeysStandOnce}

module _ {K V : Type 0} {cmp : K → K → Ordering} (o : IsTotalOrder cmp) (exact : CmpEqualImpliesEq cmp) where
  -- an entry that is there is found by its key
  pub found_once : (l : List (K × V)) (e : K × V) → KeysStandOnce cmp l → Contains l e → value_at cmp e.0 l ≡ Some e.1
  unfolding IsDistinct
  found_once [] e once there = absurd (one_of_none e there)
  found_once (x ∷ l) e once there = by (one_of x l e there) (found_once l e once.1)
    where
      by : (x ≡ e) ⊎ Contains l e → (Contains l e → value_at cmp e.0 l ≡ Some e.1) → value_at cmp e.0 (x ∷ l) ≡ Some e.1
      by (inl is) rest = ap (λ (y : K × V). cond (is_eq (cmp e.0 y.0)) (Some y.1) (value_at cmp e.0 l)) is ∙ ap (λ c. cond (is_eq c) (Some e.1) (value_at cmp e.0 l)) (tied_itself o e.0)
      by (inr later) rest = other (cmp e.0 x.0) refl (rest later)
        where
          apart : eq_by_cmp cmp x.0 e.0 ≡ false
          apart = all_in (λ y. eq_by_cmp cmp x.0 y ≡ false) l e once.0 later

          other : (c : Ordering) → cmp e.0 x.0 ≡ c → value_at cmp e.0 l ≡ Some e.1 → cond (is_eq (cmp e.0 x.0)) (Some x.1) (value_at cmp e.0 l) ≡ Some e.1
          other Less is found = ap (λ c. cond (is_eq c) (Some x.1) (value_at cmp e.0 l)) is ∙ found
          other Greater is found = ap (λ c. cond (is_eq c) (Some x.1) (value_at cmp e.0 l)) is ∙ found
          other Equal is found = absurd (false≢true (sym apart ∙ ap is_eq (tied_back o e.0 x.0 is)))

  -- none is found where none is there
  pub none_once : (l : List (K × V)) (k : K) → ((v : V) → Contains l (k, v) → ⊥) → value_at cmp k l ≡ None
  none_once l k none = by (value_at cmp k l) refl
    where
      by : (found : Option V) → value_at cmp k l ≡ found → found ≡ None
      by None is = refl
      by (Some v) is = absurd (none v (value_member o exact l k v is))
