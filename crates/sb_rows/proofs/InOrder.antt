-- Places after their buckets, in order.
use Rattle.std.proofs.Common.{◌≡◌, ℕ, ◌+◌, ◌-◌, ◌<◌, ◌≤◌, Bool, true, false, eqb, get_or, ltb, List, length, drop, take, Contains, ap, sym, subst, refl, ◌∙◌, arith}
use Rattle.std.specs.Borrow.{Bor}
use Rattle.std.specs.Prelude.{◌&&◌, All, Option, None, Some}
use Rattle.std.specs.List.{AllWithin}
use Rattle.std.specs.List.Sorted.{IsSorted, IsNonDecreasingBy, IsPartitionPoint, IsPartitionedBy}
use Rattle.std.specs.Ordering.{is_lt, nat_cmp, ordering_then}
use Rattle.std.specs.declared.cmp.Ordering.{Ordering}
use Rattle.std.proofs.lemmas.Bool.{and_parts, eqb-true, ltb-true, ltb-false}
use Rattle.std.proofs.lemmas.Bool.Decides.{nat_tests}
use Rattle.std.proofs.lemmas.Cmp.{by_ranked, nat_cmp_total, on_total, ranked, then_total}
use Rattle.std.proofs.lemmas.List.{get_or-drop, get_or_default, length-drop, take_all}
use Rattle.std.proofs.lemmas.List.Sorted.{ranks_by, sorted_far}
use Rattle.std.specs.Cmp.{IsTotalOrder}
use Rattle.sb_model.specs.declared.row.Row.{Row}
use Rattle.sb_rows.specs.inner.Filled.{pair_cmp}
use Rattle.sb_rows.specs.inner.Index.{IsNoBetter}

pub pairs_total : IsTotalOrder pair_cmp
pairs_total = then_total (on_total (λ (x : ℕ × ℕ). x.0) nat_cmp_total) (on_total (λ (x : ℕ × ℕ). x.1) nat_cmp_total)

-- a pair that is not before another one is of no lower bucket
no_lower_bucket : (x y : ℕ × ℕ) → is_lt (pair_cmp y x) ≡ false → x.0 ≤ y.0
no_lower_bucket x y not =
    by_ranked (y.0 < x.0) (y.0 ≡ x.0) (x.0 < y.0) (nat_cmp y.0 x.0) (ranked y.0 x.0 (nat_cmp y.0 x.0) refl)
    (λ e below. let wrong : true ≡ false = subst (λ (o : Ordering). is_lt (ordering_then o (nat_cmp y.1 x.1)) ≡ false) e not in absurd (cc))
    (λ e same. omega (arith, same))
    (λ e above. omega (arith, above))

-- a place of a bucket that is not before a pair of no lower bucket: the pair is of that bucket, and its place is not after it
no_lower_place : (bucket p : ℕ) (x : ℕ × ℕ) → bucket ≤ x.0 → is_lt (pair_cmp (bucket, p) x) ≡ false → (x.0 ≡ bucket) × (x.1 ≤ p)
no_lower_place bucket p x from not =
    by_ranked (bucket < x.0) (bucket ≡ x.0) (x.0 < bucket) (nat_cmp bucket x.0) (ranked bucket x.0 (nat_cmp bucket x.0) refl)
    (λ e below. let wrong : true ≡ false = subst (λ (o : Ordering). is_lt (ordering_then o (nat_cmp p x.1)) ≡ false) e not in absurd (cc))
    (λ e same. (sym same, at_most (subst (λ (o : Ordering). is_lt (ordering_then o (nat_cmp p x.1)) ≡ false) e not)))
    (λ e above. absurd (omega (arith, above, from)))
  where
    at_most : is_lt (nat_cmp p x.1) ≡ false → x.1 ≤ p
    at_most not_below =
        by_ranked (p < x.1) (p ≡ x.1) (x.1 < p) (nat_cmp p x.1) (ranked p x.1 (nat_cmp p x.1) refl)
        (λ e below. let wrong : true ≡ false = subst (λ (o : Ordering). is_lt o ≡ false) e not_below in absurd (cc))
        (λ e same. omega (arith, same))
        (λ e above. omega (arith, above))

-- of pairs in order none is before an earlier one
far : (xs : List (ℕ × ℕ)) → IsSorted pair_cmp xs → (i j : ℕ) (d : ℕ × ℕ) → i ≤ j → j < length xs → is_lt (pair_cmp (get_or xs j d) (get_or xs i d)) ≡ false
far xs up = sorted_far (λ x y. is_lt (pair_cmp x y)) (ranks_by pairs_total (λ a. a)) xs up

-- their buckets do not fall
pub buckets_rise : (xs : List (ℕ × ℕ)) → IsSorted pair_cmp xs → IsNonDecreasingBy (λ (x : ℕ × ℕ). x.0) xs
buckets_rise xs up i j d le lt = no_lower_bucket (get_or xs i d) (get_or xs j d) (far xs up i j d le lt)

-- ---- those from a place on

-- the rest from a place on, as a slice has it
pub rest_is : (xs : List (ℕ × ℕ)) (at : ℕ) → take (length xs - at) (drop at xs) ≡ drop at xs
rest_is xs at = take_all (length xs - at) (drop at xs) (omega (arith, length-drop at xs))

-- is in order
pub rest_rises : (xs : List (ℕ × ℕ)) (at : ℕ) → IsSorted pair_cmp xs → IsSorted pair_cmp (drop at xs)
rest_rises xs at up k d low lt =
    rw (get_or-drop at xs (k + 1) d, get_or-drop at xs k d) (far xs up (at + k) (at + (k + 1)) d (omega arith) (omega (arith, lt, length-drop at xs)))

module _ (xs : List (ℕ × ℕ)) (bucket at : ℕ) (point : IsPartitionPoint (λ (y : ℕ × ℕ). ltb y.0 bucket ≡ true) (λ (y : ℕ × ℕ). ltb y.0 bucket ≡ false) xs at) where
  -- from where lower buckets end, none is lower
  pub rest_from : All (λ (x : ℕ × ℕ). bucket ≤ x.0) (drop at xs)
  rest_from k d lt = rw (get_or-drop at xs k d) (ltb-false _ bucket (point.1 (at + k) d (omega arith) (omega (arith, lt, length-drop at xs))))

  -- each place of the bucket is there
  pub rest_has : (p : ℕ) → Contains xs (bucket, p) → Contains (drop at xs) (bucket, p)
  rest_has p (k, lt, is) = by (ltb k at) refl
    where
      by : (b : Bool) → ltb k at ≡ b → Contains (drop at xs) (bucket, p)
      by true earlier =
          let lower = ltb-true _ bucket (point.0 k (bucket, p) (omega arith) (ltb-true k at earlier)) in
          absurd (omega (arith, lower, ap (λ (x : ℕ × ℕ). x.0) is))
      by false later =
          let from = ltb-false k at later in
          let there : at + (k - at) ≡ k = omega (arith, from) in
          (k - at, omega (arith, lt, from, length-drop at xs), get_or-drop at xs (k - at) (bucket, p) ∙ ap (λ n. get_or xs n (bucket, p)) there ∙ is)

-- ---- where lower buckets end

test_lower : (a b : ℕ) → a < b → ltb a b ≡ true
test_lower a b h = grind (arith, nat_tests)

test_not_lower : (a b : ℕ) → b ≤ a → ltb a b ≡ false
test_not_lower a b h = grind (arith, nat_tests)

module _ (xs : List (ℕ × ℕ)) (bucket at : ℕ) (d : ℕ × ℕ) (up : IsSorted pair_cmp xs) (within : at < length xs) where
  -- where a bucket is lower, all up to it are
  pub lower_up_to : (get_or xs at d).0 < bucket → AllWithin (λ (x : ℕ × ℕ). ltb x.0 bucket ≡ true) xs 0 (at + 1)
  lower_up_to less k e _ lt =
      let same : (get_or xs at d).0 ≡ (get_or xs at e).0 = ap (λ (x : ℕ × ℕ). x.0) (get_or_default xs at d e within) in
      test_lower (get_or xs k e).0 bucket (omega (arith, less, same, buckets_rise xs up k at e (omega (arith, lt)) within))

  -- where it is not, none from it on is
  pub not_lower_from : bucket ≤ (get_or xs at d).0 → AllWithin (λ (x : ℕ × ℕ). ltb x.0 bucket ≡ false) xs at (length xs)
  not_lower_from not k e le lt =
      let same : (get_or xs at d).0 ≡ (get_or xs at e).0 = ap (λ (x : ℕ × ℕ). x.0) (get_or_default xs at d e within) in
      test_not_lower (get_or xs k e).0 bucket (omega (arith, not, same, buckets_rise xs up at k e le lt))

-- ---- those of a bucket from a place on

both_true : (a b c d : ℕ) → a ≡ b → c < d → (eqb a b && ltb c d) ≡ true
both_true a b c d is lt = grind (arith, nat_tests)

module _ (xs : List (ℕ × ℕ)) (bucket place : ℕ) where
  abbrev pub is_earlier : ℕ × ℕ → Bool
  is_earlier x = eqb x.0 bucket && ltb x.1 place

  -- where none is of a lower bucket, those of earlier places come first
  pub earlier_first : IsSorted pair_cmp xs → All (λ (x : ℕ × ℕ). bucket ≤ x.0) xs → IsPartitionedBy is_earlier xs
  earlier_first up from i j d le lt e =
      let parts = and_parts _ _ e in
      let same = eqb-true _ bucket parts.0 in
      let below = ltb-true _ place parts.1 in
      let it = no_lower_place bucket (get_or xs j d).1 (get_or xs i d) (from i d (omega (arith, le, lt))) (subst (λ (b : ℕ). is_lt (pair_cmp (b, (get_or xs j d).1) (get_or xs i d)) ≡ false) same (far xs up i j d le lt)) in
      both_true (get_or xs i d).0 bucket (get_or xs i d).1 place it.0 (omega (arith, it.1, below))

  module _ (at : ℕ) (point : IsPartitionPoint (λ (y : ℕ × ℕ). is_earlier y ≡ true) (λ (y : ℕ × ℕ). is_earlier y ≡ false) xs at) where
    pub still_from : All (λ (x : ℕ × ℕ). bucket ≤ x.0) xs → All (λ (x : ℕ × ℕ). bucket ≤ x.0) (drop at xs)
    still_from from k d lt = rw (get_or-drop at xs k d) (from (at + k) d (omega (arith, lt, length-drop at xs)))

    -- each of a place that is not earlier is among the others
    pub others_have : (p : ℕ) → place ≤ p → Contains xs (bucket, p) → Contains (drop at xs) (bucket, p)
    others_have p from (k, lt, is) = by (ltb k at) refl
      where
        by : (b : Bool) → ltb k at ≡ b → Contains (drop at xs) (bucket, p)
        by true earlier =
            let test : is_earlier (bucket, p) ≡ true = subst (λ (y : ℕ × ℕ). is_earlier y ≡ true) is (point.0 k (bucket, p) (omega arith) (ltb-true k at earlier)) in
            let below : p < place = ltb-true p place (and_parts (eqb bucket bucket) (ltb p place) test).1 in
            absurd (omega (arith, below, from))
        by false later =
            let not_before = ltb-false k at later in
            let there : at + (k - at) ≡ k = omega (arith, not_before) in
            (k - at, omega (arith, lt, not_before, length-drop at xs), get_or-drop at xs (k - at) (bucket, p) ∙ ap (λ n. get_or xs n (bucket, p)) there ∙ is)

-- ---- a search through them

-- where one is of another bucket or no better, each place of the bucket from there on is no better
pub rest_no_better : (xs : List (ℕ × ℕ)) (bucket p at k : ℕ) (d : ℕ × ℕ) (best : Option (ℕ × Bor Row)) → IsSorted pair_cmp xs → bucket ≤ (get_or xs at d).0
    → ((get_or xs at d).0 ≡ bucket → IsNoBetter best (get_or xs at d).1) → at ≤ k → k < length xs → get_or xs k (bucket, p) ≡ (bucket, p) → IsNoBetter best p
rest_no_better xs bucket p at k d best up from ends le lt is =
    let not_before : is_lt (pair_cmp (bucket, p) (get_or xs at d)) ≡ false =
    subst (λ (y : ℕ × ℕ). is_lt (pair_cmp y (get_or xs at d)) ≡ false) (get_or_default xs k d (bucket, p) lt ∙ is) (far xs up at k d le lt) in
    let it = no_lower_place bucket p (get_or xs at d) from not_before in
    up_to best (get_or xs at d).1 p it.1 (ends it.0)
  where
    up_to : (best : Option (ℕ × Bor Row)) (low high : ℕ) → low ≤ high → IsNoBetter best low → IsNoBetter best high
    up_to None low high le none = none
    up_to (Some b) low high le after = omega arith
