-- What the delta that puts all entries leads to.
use Rattle.std.proofs.Common.{◌≡◌, Bool, true, false, cond, List, [], ◌∷◌, refl, ap, ◌∙◌, None, Some}
use Rattle.std.proofs.lemmas.Map.Lookups.{CmpEqualImpliesEq}
use Rattle.std.specs.Cmp.{IsTotalOrder}
use Rattle.std.specs.Ordering.{is_eq}
use Rattle.std.specs.declared.cmp.Ordering.{Ordering}
use Rattle.nv_map.specs.Map.{KeysRise, value_at}
use Rattle.inc_table.specs.declared.delta.Change.{Change}
use Rattle.inc_table.specs.declared.delta.Change.TheVariants.{Put}
use Rattle.inc_table.specs.Delta.{after_change, puts_of, IsApplied}
use Rattle.inc_table.proofs.Applied.{same_lists}

module _ {K V : Type 0} (cmp : K → K → Ordering) where
  value_put : (k : K) (l : List (K × V)) → after_change (value_at cmp k (puts_of l)) None ≡ value_at cmp k l
  value_put k [] = refl
  value_put k (x ∷ l) = by (is_eq (cmp k x.0)) (value_put k l)
    where
      by : (b : Bool) → after_change (value_at cmp k (puts_of l)) None ≡ value_at cmp k l → after_change (cond b (Some (Put x.1)) (value_at cmp k (puts_of l))) None ≡ cond b (Some x.1) (value_at cmp k l)
      by true rest = refl
      by false rest = rest

  -- applied to none, it leads to these
  pub all_put : IsTotalOrder cmp → CmpEqualImpliesEq cmp → (l none new : List (K × V)) (delta : List (K × Change V)) → KeysRise cmp l → KeysRise cmp new → none ≡ [] → delta ≡ puts_of l → IsApplied cmp delta none new → new ≡ l
  all_put o exact l none new delta r s empty is applied =
      same_lists o exact new l s r (λ k. applied k ∙ ap (λ e. after_change (value_at cmp k delta) (value_at cmp k e)) empty ∙ ap (λ d. after_change (value_at cmp k d) None) is ∙ value_put k l)
