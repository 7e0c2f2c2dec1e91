-- The first of several elements that passes a test, or at which something is found, stands in a relation to the later ones.
use Rattle.std.proofs.Common.{◌≡◌, Bool, true, false, cond, List, [], ◌∷◌, sym, ap, refl, ◌∙◌, subst, ◌⊎◌, inl, inr}
use Rattle.std.specs.Prelude.{Option, Some, None, slice_get}
use Rattle.std.specs.List.{Contains, cons_option, filter_map, find}
use Rattle.std.proofs.lemmas.Bool.{false≢true}
use Rattle.std.proofs.lemmas.Option.{same_Some, none-some}
use Rattle.net_rows.proofs.Elements.{one_first, one_later, one_of, one_of_none}
use Rattle.net_rows.proofs.Pairs.{OfPairs, every_member}

-- each other element that passes the test is later than the first
pub find-first : {X : Type 0} (R : X → X → Type 0) (p : X → Bool) (first x : X) (xs : List X) → OfPairs R xs → find p xs ≡ Some first → Contains xs x → p x ≡ true → (x ≡ first) ⊎ R first x
find-first R p first x [] pairs found there passes = absurd (one_of_none x there)
find-first {X} R p first x (y ∷ ys) pairs found there passes = by (p y) refl found (one_of y ys x there) (λ is later. find-first R p first x ys pairs.1 is later passes)
  where
    by : (b : Bool) → p y ≡ b → cond b (Some y) (find p ys) ≡ Some first → (y ≡ x) ⊎ Contains ys x → (find p ys ≡ Some first → Contains ys x → (x ≡ first) ⊎ R first x) → (x ≡ first) ⊎ R first x
    by true is at (inl same) rest = inl (sym same ∙ same_Some y first at)
    by true is at (inr later) rest = inr (subst (λ (z : X). R z x) (same_Some y first at) (every_member (R y) ys x pairs.0 later))
    by false is at (inl same) rest = absurd (false≢true (sym is ∙ ap p same ∙ passes))
    by false is at (inr later) rest = rest at later

-- the first element at which something is found, and what is found there
pub record IsFirst {X A : Type 0} (R : X → X → Type 0) (finds : X → Option A) (xs : List X) (found : A) : Type 0 where
  pub first : X
  pub among : Contains xs first
  pub finds_it : finds first ≡ Some found
  pub others : (x : X) → Contains xs x → (a : A) → finds x ≡ Some a → (x ≡ first) ⊎ R first x

module _ {X A : Type 0} (R : X → X → Type 0) (finds : X → Option A) where
  pub first_found-gives : (xs : List X) (found : A) → OfPairs R xs → slice_get (filter_map finds xs) 0 ≡ Some found → IsFirst R finds xs found
  first_found-gives [] found pairs is = absurd (none-some found is)
  first_found-gives (y ∷ ys) found pairs is = by (finds y) refl is (first_found-gives ys found pairs.1)
    where
      by : (o : Option A) → finds y ≡ o → slice_get (cons_option o (filter_map finds ys)) 0 ≡ Some found → (slice_get (filter_map finds ys) 0 ≡ Some found → IsFirst R finds ys found) → IsFirst R finds (y ∷ ys) found
      by (Some a) finds_a at rest =
          record { first = y; among = one_first y ys y refl; finds_it = finds_a ∙ at; others = λ x there b is. each x (one_of y ys x there) }
        where
          each : (x : X) → (y ≡ x) ⊎ Contains ys x → (x ≡ y) ⊎ R y x
          each x (inl same) = inl (sym same)
          each x (inr later) = inr (every_member (R y) ys x pairs.0 later)
      by None finds_none at rest = of (rest at)
        where
          of : IsFirst R finds ys found → IsFirst R finds (y ∷ ys) found
          of later =
              record { first = later.first; among = one_later y ys later.first later.among; finds_it = later.finds_it; others = λ x there b is. each x b is (one_of y ys x there) }
            where
              each : (x : X) (b : A) → finds x ≡ Some b → (y ≡ x) ⊎ Contains ys x → (x ≡ later.first) ⊎ R later.first x
              each x b is (inl same) = absurd (none-some b (sym finds_none ∙ ap finds same ∙ is))
              each x b is (inr after) = later.others x after b is

  -- where nothing is found, nothing is found at any
  pub first_found-none : (xs : List X) → slice_get (filter_map finds xs) 0 ≡ None → (x : X) → Contains xs x → finds x ≡ None
  first_found-none [] none x there = absurd (one_of_none x there)
  first_found-none (y ∷ ys) none x there = by (finds y) refl none (one_of y ys x there) (λ rest later. first_found-none ys rest x later)
    where
      by : (o : Option A) → finds y ≡ o → slice_get (cons_option o (filter_map finds ys)) 0 ≡ None → (y ≡ x) ⊎ Contains ys x → (slice_get (filter_map finds ys) 0 ≡ None → Contains ys x → finds x ≡ None) → finds x ≡ None
      by (Some a) finds_a at which rest = absurd (none-some a (sym at))
      by None finds_none at (inl same) rest = sym (ap finds same) ∙ finds_none
      by None finds_none at (inr later) rest = rest at later
