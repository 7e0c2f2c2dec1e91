-- The other places of a bucket, in their order.
use Rattle.std.proofs.Common.{◌≡◌, ℕ, zero, ◌<◌, ◌≤◌, Bool, true, false, List, [], ◌∷◌, ◌++◌, Contains, ap, sym, subst, refl, ◌∙◌, ◌⊎◌, inl, inr, arith}
use Rattle.std.specs.Borrow.{Bor}
use Rattle.std.specs.Prelude.{Option, None, Some}
use Rattle.std.specs.BTreeMap.Range.{range_contains}
use Rattle.std.specs.List.{filter}
use Rattle.std.specs.List.Sorted.{IsStrictlySortedBy}
use Rattle.std.specs.Ordering.{is_gt, nat_cmp, ordering_then}
use Rattle.std.specs.declared.cmp.Ordering.{Ordering}
use Rattle.std.specs.declared.cmp.Ordering.TheVariants.{Less, Equal}
use Rattle.std.specs.declared.ops.Bound.TheVariants.{Included, Unbounded}
use Rattle.std.proofs.lemmas.Cmp.{by_ranked, nat_cmp_total, ranked, tied_itself}
use Rattle.std.proofs.lemmas.List.Elements.{All-contains, Contains-append_cases, Contains-append_right, Contains-push_cases, filter_passes}
use Rattle.std.proofs.lemmas.List.Kept.{IsStrictlySortedBy-filter}
use Rattle.std.proofs.lemmas.Map.Keys.{sorted_tail}
use Rattle.std.proofs.lemmas.Map.Views.{All-after_first, IsInRange-from_range_contains, range_contains-from_IsInRange}
use Rattle.sb_model.specs.declared.row.Row.{Row}
use Rattle.sb_rows.specs.inner.Index.{IsNoBetter}
use Rattle.sb_rows.specs.inner.Filled.{pair_cmp}
use Rattle.sb_rows.proofs.InOrder.{pairs_total}
use Rattle.sb_rows.proofs.IndexFirst.{first_or_later, later}

-- what passes a test is among what a filter keeps
pub among_kept : {X : Type 0} (test : X → Bool) (xs : List X) (x : X) → test x ≡ true → Contains xs x → Contains (filter test xs) x
among_kept test [] x passes there = there
among_kept {X} test (e ∷ es) x passes there = by (test e) refl (among_kept test es x passes)
  where
    is_there : test e ≡ true → (Contains es x → Contains (filter test es) x) → (e ≡ x) ⊎ Contains es x → Contains (e ∷ filter test es) x
    is_there here rest (inl is) = (zero, omega arith, is)
    is_there here rest (inr more) = later e x (filter test es) (rest more)

    is_later : test e ≡ false → (Contains es x → Contains (filter test es) x) → (e ≡ x) ⊎ Contains es x → Contains (filter test es) x
    is_later not rest (inl is) = let wrong : true ≡ false = sym passes ∙ ap test (sym is) ∙ not in absurd (cc)
    is_later not rest (inr more) = rest more

    by : (b : Bool) → test e ≡ b → (Contains es x → Contains (filter test es) x) → Contains (filter test (e ∷ es)) x
    by true here rest = rw here (is_there here rest (first_or_later e x es there))
    by false not rest = rw not (is_later not rest (first_or_later e x es there))

-- the places of a bucket from one on are among the keys from that on
pub among_from_place : (keys : List (ℕ × ℕ)) (bucket first place : ℕ) → first ≤ place → Contains keys (bucket, place) → Contains (filter (range_contains pair_cmp (Included (bucket, first)) Unbounded) keys) (bucket, place)
among_from_place keys bucket first place le there = among_kept (range_contains pair_cmp (Included (bucket, first)) Unbounded) keys (bucket, place) from there
  where
    not_above : is_gt (nat_cmp first place) ≡ false
    not_above =
        by_ranked (first < place) (first ≡ place) (place < first) (nat_cmp first place) (ranked first place (nat_cmp first place) refl)
        (λ e below. ap is_gt e)
        (λ e same. ap is_gt e)
        (λ e above. absurd (omega (arith, above, le)))

    from : range_contains pair_cmp (Included (bucket, first)) Unbounded (bucket, place) ≡ true
    from =
        range_contains-from_IsInRange pairs_total (Included (bucket, first)) Unbounded (bucket, place)
        (subst (λ (o : Ordering). is_gt (ordering_then o (nat_cmp first place)) ≡ false) (sym (tied_itself nat_cmp_total bucket)) not_above, tt)

-- the places of a bucket are among the keys from its first on
pub among_from : (keys : List (ℕ × ℕ)) (bucket place : ℕ) → Contains keys (bucket, place) → Contains (filter (range_contains pair_cmp (Included (bucket, 0)) Unbounded) keys) (bucket, place)
among_from keys bucket place there = among_from_place keys bucket 0 place (omega arith) there

-- a key that is not before one of a bucket is of that one or of a later one
from_bucket : (bucket first : ℕ) (x : ℕ × ℕ) → is_gt (pair_cmp (bucket, first) x) ≡ false → bucket ≤ x.0
from_bucket bucket first x from =
    by_ranked (bucket < x.0) (bucket ≡ x.0) (x.0 < bucket) (nat_cmp bucket x.0) (ranked bucket x.0 (nat_cmp bucket x.0) refl)
    (λ e below. omega (arith, below))
    (λ e same. omega (arith, same))
    (λ e above. let wrong : true ≡ false = subst (λ (o : Ordering). is_gt (ordering_then o (nat_cmp first x.1)) ≡ false) e from in absurd (cc))

-- a key of no earlier bucket that is not after a place of the bucket is a place of it that is not after that
upto_place : (bucket place : ℕ) (x : ℕ × ℕ) → bucket ≤ x.0 → is_gt (pair_cmp x (bucket, place)) ≡ false → (x.0 ≡ bucket) × (x.1 ≤ place)
upto_place bucket place x from upto =
    by_ranked (x.0 < bucket) (x.0 ≡ bucket) (bucket < x.0) (nat_cmp x.0 bucket) (ranked x.0 bucket (nat_cmp x.0 bucket) refl)
    (λ e below. absurd (omega (arith, below, from)))
    (λ e same. (same, at_most (subst (λ (o : Ordering). is_gt (ordering_then o (nat_cmp x.1 place)) ≡ false) e upto)))
    (λ e above. let wrong : true ≡ false = subst (λ (o : Ordering). is_gt (ordering_then o (nat_cmp x.1 place)) ≡ false) e upto in absurd (cc))
  where
    at_most : is_gt (nat_cmp x.1 place) ≡ false → x.1 ≤ place
    at_most not =
        by_ranked (x.1 < place) (x.1 ≡ place) (place < x.1) (nat_cmp x.1 place) (ranked x.1 place (nat_cmp x.1 place) refl)
        (λ e below. omega (arith, below))
        (λ e same. omega (arith, same))
        (λ e above. let wrong : true ≡ false = subst (λ (o : Ordering). is_gt o ≡ false) e not in absurd (cc))

-- of keys in order each is among those so far, or not before the one at hand
so_far_or_not_before : (keys seen rest : List (ℕ × ℕ)) (x y : ℕ × ℕ) → IsStrictlySortedBy pair_cmp keys → keys ≡ seen ++ (x ∷ rest) → Contains keys y → Contains seen y ⊎ (is_gt (pair_cmp x y) ≡ false)
so_far_or_not_before keys seen rest x y rise split there =
    by (Contains-append_cases seen (x ∷ rest) y (subst (λ (l : List (ℕ × ℕ)). Contains l y) split there))
  where
    rising : (front : List (ℕ × ℕ)) → IsStrictlySortedBy pair_cmp (front ++ (x ∷ rest)) → IsStrictlySortedBy pair_cmp (x ∷ rest)
    rising [] up = up
    rising (f ∷ fs) up = rising fs (sorted_tail pair_cmp f (fs ++ (x ∷ rest)) up)

    not_before : (x ≡ y) ⊎ Contains rest y → is_gt (pair_cmp x y) ≡ false
    not_before (inl same) = ap is_gt (subst (λ (z : ℕ × ℕ). pair_cmp x z ≡ Equal) same (tied_itself pairs_total x))
    not_before (inr more) =
        let less : pair_cmp x y ≡ Less = All-contains (λ q. pair_cmp x q ≡ Less) rest y (All-after_first pair_cmp x rest (rising seen (subst (λ (l : List (ℕ × ℕ)). IsStrictlySortedBy pair_cmp l) split rise))) more in
        ap is_gt less

    by : Contains seen y ⊎ Contains (x ∷ rest) y → Contains seen y ⊎ (is_gt (pair_cmp x y) ≡ false)
    by (inl before) = inl before
    by (inr after) = inr (not_before (first_or_later x y rest after))

-- what is not before a place that is no better is none either
no_better_up : (best : Option (ℕ × Bor Row)) (p q : ℕ) → p ≤ q → IsNoBetter best p → IsNoBetter best q
no_better_up None p q le none = none
no_better_up (Some b) p q le after = omega arith

-- the keys that are gone through for a bucket from a place on
abbrev pub keys_from_place : ℕ → ℕ → List (ℕ × ℕ) → List (ℕ × ℕ)
keys_from_place bucket first keys = filter (range_contains pair_cmp (Included (bucket, first)) Unbounded) keys

-- and those for all of it
abbrev pub keys_from : ℕ → List (ℕ × ℕ) → List (ℕ × ℕ)
keys_from bucket keys = keys_from_place bucket 0 keys

-- a place of the bucket is among those so far, or no better where the key at hand is of another bucket or no better
pub seen_from_place : (keys all seen rest : List (ℕ × ℕ)) (x : ℕ × ℕ) (bucket first p : ℕ) (best : Option (ℕ × Bor Row)) → IsStrictlySortedBy pair_cmp keys → all ≡ keys_from_place bucket first keys → all ≡ seen ++ (x ∷ rest)
    → (x.0 ≡ bucket → IsNoBetter best x.1) → first ≤ p → Contains keys (bucket, p) → Contains seen (bucket, p) ⊎ IsNoBetter best p
seen_from_place keys all seen rest x bucket first p best rise from split ends le there =
    by (so_far_or_not_before (keys_from_place bucket first keys) seen rest x (bucket, p) (IsStrictlySortedBy-filter pair_cmp (range_contains pair_cmp (Included (bucket, first)) Unbounded) keys rise) parts (among_from_place keys bucket first p le there))
  where
    parts : keys_from_place bucket first keys ≡ seen ++ (x ∷ rest)
    parts = sym from ∙ split

    passes : range_contains pair_cmp (Included (bucket, first)) Unbounded x ≡ true
    passes =
        All-contains (λ y. range_contains pair_cmp (Included (bucket, first)) Unbounded y ≡ true) (keys_from_place bucket first keys) x (filter_passes (range_contains pair_cmp (Included (bucket, first)) Unbounded) keys)
        (subst (λ (l : List (ℕ × ℕ)). Contains l x) (sym parts) (Contains-append_right seen (x ∷ rest) x (zero, omega arith, refl)))

    by : Contains seen (bucket, p) ⊎ (is_gt (pair_cmp x (bucket, p)) ≡ false) → Contains seen (bucket, p) ⊎ IsNoBetter best p
    by (inl before) = inl before
    by (inr upto) =
        let it = upto_place bucket p x (from_bucket bucket first x (IsInRange-from_range_contains pairs_total (Included (bucket, first)) Unbounded x passes).0) upto in
        inr (no_better_up best x.1 p it.1 (ends it.0))

pub seen_or_no_better : (keys all seen rest : List (ℕ × ℕ)) (x : ℕ × ℕ) (bucket p : ℕ) (best : Option (ℕ × Bor Row)) → IsStrictlySortedBy pair_cmp keys → all ≡ keys_from bucket keys → all ≡ seen ++ (x ∷ rest)
    → (x.0 ≡ bucket → IsNoBetter best x.1) → Contains keys (bucket, p) → Contains seen (bucket, p) ⊎ IsNoBetter best p
seen_or_no_better keys all seen rest x bucket p best rise from split ends there = seen_from_place keys all seen rest x bucket 0 p best rise from split ends (omega arith) there

-- a place of the keys so far and of one more is of those so far or of that
pub seen_or_here : (seen : List (ℕ × ℕ)) (x : ℕ × ℕ) (bucket p : ℕ) → Contains (seen ++ (x ∷ [])) (bucket, p) → Contains seen (bucket, p) ⊎ (x.1 ≡ p)
seen_or_here seen x bucket p there = by (Contains-push_cases seen x (bucket, p) there)
  where
    by : Contains seen (bucket, p) ⊎ (x ≡ (bucket, p)) → Contains seen (bucket, p) ⊎ (x.1 ≡ p)
    by (inl before) = inl before
    by (inr is) = inr (ap (λ (y : ℕ × ℕ). y.1) is)
