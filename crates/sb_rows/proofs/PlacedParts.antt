-- Rows that a table has between two places.
use Rattle.std.proofs.Common.{◌≡◌, ℕ, zero, suc, ◌<◌, ◌≤◌, Bool, true, false, cond, List, [], ◌∷◌, ◌++◌, sym, ap, refl, ◌∙◌, subst, arith, Bor, inl, inr}
use Rattle.std.specs.Prelude.{◌⊎◌, Option, Some, None, IfSome, filter}
use Rattle.std.specs.Option.{IsSome}
use Rattle.std.specs.BTreeMap.{BTreeMap, IsOrdered, get}
use Rattle.std.specs.BTreeMap.Range.{IsEntryInRange, IsInRange, IsRangeOf, entries_between}
use Rattle.std.specs.List.{Contains, slice_get}
use Rattle.std.specs.Map.Iter.{TakesLast, deref_pair}
use Rattle.std.specs.Ordering.{is_gt, nat_cmp}
use Rattle.std.specs.declared.cmp.Ordering.TheVariants.{Less}
use Rattle.std.specs.declared.ops.Bound.TheVariants.{Included, Excluded}
use Rattle.std.proofs.lemmas.Bool.Decides.{nat_tests}
use Rattle.std.proofs.lemmas.Cmp.{nat_cmp_total}
use Rattle.std.proofs.lemmas.List.Elements.{All-contains, All-contains_itself, All-filter}
use Rattle.std.proofs.lemmas.Map.Keys.{le_from_not_gt, ge_from_not_lt}
use Rattle.std.proofs.lemmas.Map.Lookups.{exact_unsigned}
use Rattle.std.proofs.lemmas.Map.Views.{btree_map_get_iff, range_contains-from_IsInRange}

-- a number is not above one that is at least as great
not_gt_from_le : (a b : ℕ) → a ≤ b → is_gt (nat_cmp a b) ≡ false
not_gt_from_le a b h = grind (arith, nat_tests)

-- how two numbers compare
pub less_from_lt : (a b : ℕ) → a < b → nat_cmp a b ≡ Less
less_from_lt a b h = grind (arith, nat_tests)

lt_from_less : (a b : ℕ) → nat_cmp a b ≡ Less → a < b
lt_from_less a b h = grind (arith, nat_tests)

-- an entry between two places
pub record IsInside {X : Type 0} (low high : ℕ) (entries : List (ℕ × X)) (e : ℕ × X) : Type 0 where
  pub there : Contains entries e
  pub from : low ≤ e.0
  pub below : e.0 < high

-- numbers from one on below another are in their range
pub in_range : (low high q : ℕ) → low ≤ q → q < high → IsInRange nat_cmp (Included low) (Excluded high) q
in_range low high q from below = (not_gt_from_le low q from, less_from_lt q high below)

module _ {X : Type 0} where
  -- a member of a list is its first or one of the others
  pub first_or_later : (y x : X) (ys : List X) → Contains (y ∷ ys) x → (y ≡ x) ⊎ Contains ys x
  first_or_later y x ys (zero, within, is) = inl is
  first_or_later y x ys (suc k, within, is) = inr (k, omega arith, is)

  pub later : (y x : X) (ys : List X) → Contains ys x → Contains (y ∷ ys) x
  later y x ys (k, within, is) = (suc k, omega arith, is)

  -- a filter keeps what passes
  pub filter_in : (p : X → Bool) (xs : List X) (x : X) → Contains xs x → p x ≡ true → Contains (filter p xs) x
  filter_in p [] x (k, within, is) passes = absurd (omega arith)
  filter_in p (y ∷ ys) x (zero, within, is) passes =
      subst (λ b. Contains (cond b (y ∷ filter p ys) (filter p ys)) x) (sym (ap p is ∙ passes)) (0, omega arith, is)
  filter_in p (y ∷ ys) x (suc k, within, is) passes = by (p y) (filter_in p ys x (k, omega arith, is) passes)
    where
      by : (b : Bool) → Contains (filter p ys) x → Contains (cond b (y ∷ filter p ys) (filter p ys)) x
      by true at = later y x (filter p ys) at
      by false at = at

  -- and nothing else
  pub filter_out : (p : X → Bool) (xs : List X) (x : X) → Contains (filter p xs) x → Contains xs x
  filter_out p xs x at = All-contains (Contains xs) (filter p xs) x (All-filter p (Contains xs) xs (All-contains_itself xs)) at

module _ {X : Type 0} where
  -- what is between two places is among the entries between them
  pub is_between : (low high : ℕ) (entries part : List (ℕ × X)) → part ≡ entries_between nat_cmp (Included low) (Excluded high) entries
      → (q : ℕ) (x : X) → low ≤ q → q < high → Contains entries (q, x) → Contains part (q, x)
  is_between low high entries part is q x from below at =
      subst (λ l. Contains l (q, x)) (sym is) (filter_in _ entries (q, x) at (range_contains-from_IsInRange nat_cmp_total (Included low) (Excluded high) q (in_range low high q from below)))

  pub was_between : (low high : ℕ) (entries part : List (ℕ × X)) → part ≡ entries_between nat_cmp (Included low) (Excluded high) entries
      → (e : ℕ × X) → Contains part e → Contains entries e
  was_between low high entries part is e at = filter_out _ entries e (subst (λ l. Contains l e) is at)

  module _ (m : BTreeMap ℕ X) (low high : ℕ) (part : List (ℕ × X)) (ordered : IsOrdered nat_cmp m) (range : IsRangeOf nat_cmp (Included low) (Excluded high) m part) where
    found : (q : ℕ) (x : X) → Contains m.entries (q, x) → get nat_cmp m q ≡ Some x
    found q x at = (btree_map_get_iff nat_cmp_total exact_unsigned m ordered q x).1 at

    is_there : (q : ℕ) (x : X) → Contains m.entries (q, x) → IsSome (get nat_cmp m q)
    is_there q x at = subst IsSome (sym (found q x at)) refl

    in_part : (e : ℕ × X) → IsEntryInRange nat_cmp (Included low) (Excluded high) m e → IsInside low high m.entries e
    in_part e is = record {
      there = (btree_map_get_iff nat_cmp_total exact_unsigned m ordered e.0 e.1).0 is.1;
      from = le_from_not_gt low e.0 is.0.0;
      below = lt_from_less e.0 high is.0.1;
    }

    -- the first one and the last one are entries between them
    pub first_inside : (e : ℕ × X) (rest : List (ℕ × X)) → part ≡ e ∷ rest → IsInside low high m.entries e
    first_inside e rest is = in_part e (subst (λ (l : List (ℕ × X)). IfSome (slice_get l 0) (IsEntryInRange nat_cmp (Included low) (Excluded high) m)) is range.1)

    pub last_inside : (e : ℕ × X) (front : List (ℕ × X)) → part ≡ front ++ e ∷ [] → IsInside low high m.entries e
    last_inside e front is = in_part e (range.3 e front is)

    -- no entry between them is before the first one
    pub first_between : (e : ℕ × X) (rest : List (ℕ × X)) → part ≡ e ∷ rest → (q : ℕ) (x : X) → Contains m.entries (q, x) → low ≤ q → q < high → e.0 ≤ q
    first_between e rest is q x at from below =
        let first : IfSome (Some e) (λ (f : ℕ × X). is_gt (nat_cmp f.0 q) ≡ false) = subst (λ (l : List (ℕ × X)). IfSome (slice_get l 0) (λ (f : ℕ × X). is_gt (nat_cmp f.0 q) ≡ false)) is (range.2 q (in_range low high q from below) (is_there q x at)) in
        le_from_not_gt e.0 q first

    -- nor after the last one
    pub last_between : (e : ℕ × X) (front : List (ℕ × X)) → part ≡ front ++ e ∷ [] → (q : ℕ) (x : X) → Contains m.entries (q, x) → low ≤ q → q < high → q ≤ e.0
    last_between e front is q x at from below = ge_from_not_lt e.0 q (range.4 e front is q (in_range low high q from below) (is_there q x at))

    -- and where there is none there is no row
    pub none_between : part ≡ [] → (q : ℕ) (x : X) → Contains m.entries (q, x) → low ≤ q → q < high → ⊥
    none_between is q x at from below =
        let none = range.5 is q (in_range low high q from below) in let some = found q x at in cc

module _ {K X : Type 0} where
  -- one call of `next_back`
  pub back_more : (s t : List (K × X)) (r : Option (Bor K × Bor X)) (x : Bor K × Bor X) → r ≡ Some x → TakesLast deref_pair s r t → s ≡ t ++ deref_pair x ∷ []
  back_more s t r x is step = subst (λ o. TakesLast deref_pair s o t) is step

  pub back_all : (s t : List (K × X)) (r : Option (Bor K × Bor X)) → r ≡ None → TakesLast deref_pair s r t → s ≡ []
  back_all s t r is step = let none : TakesLast deref_pair s None t = subst (λ o. TakesLast deref_pair s o t) is step in none.0
