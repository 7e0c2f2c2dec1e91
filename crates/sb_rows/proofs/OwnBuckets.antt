-- Buckets that nothing else shares, as more are given.
use Rattle.std.proofs.Common.{◌≡◌, ℕ, Bool, true, false, cond, sym, ◌∙◌, subst, refl}
use Rattle.std.specs.Prelude.{Option, Some, None}
use Rattle.std.specs.BTreeMap.{BTreeMap, get, is_at}
use Rattle.std.specs.Ordering.{nat_cmp, ordering_then}
use Rattle.std.specs.declared.cmp.Ordering.{Ordering}
use Rattle.std.proofs.lemmas.Map.Lookups.{CmpEqualImpliesEq, exact_pairs, exact_unsigned}
use Rattle.std.proofs.lemmas.Map.Views.{tells_apart}
use Rattle.sb_rows.specs.inner.Filled.{pair_cmp}
use Rattle.sb_rows.specs.inner.Own.{own_key_cmp}
use Rattle.sb_rows.proofs.Covered.{pairs_exact}

pub keys_exact : CmpEqualImpliesEq own_key_cmp
keys_exact = exact_pairs pair_cmp rest_cmp pairs_exact (exact_pairs nat_cmp pair_cmp exact_unsigned pairs_exact)
  where
    rest_cmp : ℕ × (ℕ × ℕ) → ℕ × (ℕ × ℕ) → Ordering
    rest_cmp x y = ordering_then (nat_cmp x.0 y.0) (pair_cmp x.1 y.1)

-- what is told of a key stays when a new one is put
pub entry_stays : {K : Type 0} (cmp : K → K → Ordering) → CmpEqualImpliesEq cmp → (old new : BTreeMap K ℕ) (key other : K) (put : Option ℕ) (told : ℕ) → get cmp old key ≡ None
    → get cmp new other ≡ cond (is_at (cmp key) other) put (get cmp old other) → get cmp old other ≡ Some told → get cmp new other ≡ Some told
entry_stays cmp exact old new key other put told absent updates was = updates ∙ by (is_at (cmp key) other) refl
  where
    by : (b : Bool) → is_at (cmp key) other ≡ b → cond b put (get cmp old other) ≡ Some told
    by true same =
        let none : get cmp old other ≡ None = subst (λ k. get cmp old k ≡ None) (tells_apart exact key other same) absent in
        let wrong : None ≡ Some told = sym none ∙ was in absurd (cc)
    by false apart = was
