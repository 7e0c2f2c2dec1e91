-- What is found by a test that fewer pass, where at most one passes the other, and sums of which each part is at most another's.
use Rattle.std.proofs.Common.{◌≡◌, ℕ, ◌+◌, ◌≤◌, Bool, true, false, cond, List, [], ◌∷◌, map, Option, Some, None, arith, refl, sym, ap, ◌∙◌, length}
use Rattle.std.proofs.lemmas.Bool.{false≢true}
use Rattle.std.specs.Prelude.{IsTrue, find, filter}
use Rattle.std.specs.List.{AllByRecursion}
use Rattle.nb_model.specs.Amounts.{total}
use Rattle.nb_model.proofs.Totals.{le_self, total_cons}
use Rattle.nb_limits.specs.inner.Weights.{found_count}

module _ {X : Type 0} (p q : X → Bool) (fewer : (x : X) → IsTrue (q x) → IsTrue (p x)) where
  none_found : (xs : List X) → length (filter p xs) ≡ 0 → find q xs ≡ None
  none_found [] none = refl
  none_found (x ∷ xs) none = by (p x) (q x) refl refl none (none_found xs)
    where
      by : (a b : Bool) → p x ≡ a → q x ≡ b → length (cond a (x ∷ filter p xs) (filter p xs)) ≡ 0 → (length (filter p xs) ≡ 0 → find q xs ≡ None) → cond b (Some x) (find q xs) ≡ None
      by true b e f n more = absurd (omega (arith, n))
      by false true e f n more = absurd (false≢true (sym e ∙ fewer x f))
      by false false e f n more = more n

  pub fewer_found : (amount : Option X → ℕ) → amount None ≡ 0 → (xs : List X) → length (filter p xs) ≡ found_count (find p xs) → amount (find q xs) ≤ amount (find p xs)
  fewer_found amount none [] one = le_self (amount None)
  fewer_found amount none (x ∷ xs) one = by (p x) (q x) refl refl one (fewer_found amount none xs)
    where
      nothing : (n m : ℕ) → n ≡ 0 → n ≤ m
      nothing n m is = omega (arith, is)

      alone : length (x ∷ filter p xs) ≡ 1 → length (filter p xs) ≡ 0
      alone is = omega (arith, is)

      by : (a b : Bool) → p x ≡ a → q x ≡ b → length (cond a (x ∷ filter p xs) (filter p xs)) ≡ found_count (cond a (Some x) (find p xs)) → (length (filter p xs) ≡ found_count (find p xs) → amount (find q xs) ≤ amount (find p xs))
          → amount (cond b (Some x) (find q xs)) ≤ amount (cond a (Some x) (find p xs))
      by true true e f o more = le_self (amount (Some x))
      by true false e f o more = nothing (amount (find q xs)) (amount (Some x)) (ap amount (none_found xs (alone o)) ∙ none)
      by false true e f o more = absurd (false≢true (sym e ∙ fewer x f))
      by false false e f o more = more o

pub total_less : {X : Type 0} (f g : X → ℕ) (xs : List X) → AllByRecursion (λ x. f x ≤ g x) xs → total f xs ≤ total g xs
total_less f g [] all = le_self 0
total_less f g (x ∷ xs) all = joined (total f (x ∷ xs)) (f x) (total f xs) (total g (x ∷ xs)) (g x) (total g xs) (total_cons f x xs) (total_cons g x xs) all.0 (total_less f g xs all.1)
  where
    joined : (v a b w c d : ℕ) → v ≡ a + b → w ≡ c + d → a ≤ c → b ≤ d → v ≤ w
    joined v a b w c d e f low high = omega (arith, e, f, low, high)

-- over those that are kept
pub total_less_kept : {X : Type 0} (f g : X → ℕ) (q : X → Bool) (xs : List X) → AllByRecursion (λ x. f x ≤ g x) xs → total f (filter q xs) ≤ total g (filter q xs)
total_less_kept f g q [] all = le_self 0
total_less_kept {X} f g q (x ∷ xs) all = by (q x) (total_less_kept f g q xs all.1)
  where
    joined : (v a b w c d : ℕ) → v ≡ a + b → w ≡ c + d → a ≤ c → b ≤ d → v ≤ w
    joined v a b w c d e f low high = omega (arith, e, f, low, high)

    by : (b : Bool) → total f (filter q xs) ≤ total g (filter q xs) → total f (cond b (x ∷ filter q xs) (filter q xs)) ≤ total g (cond b (x ∷ filter q xs) (filter q xs))
    by true low = joined (total f (x ∷ filter q xs)) (f x) (total f (filter q xs)) (total g (x ∷ filter q xs)) (g x) (total g (filter q xs)) (total_cons f x (filter q xs)) (total_cons g x (filter q xs)) all.0 low
    by false low = low

-- over those that are changed
pub total_less_changed : {X Y : Type 0} (f : Y → ℕ) (g : X → ℕ) (change : X → Y) (xs : List X) → AllByRecursion (λ x. f (change x) ≤ g x) xs → total f (map change xs) ≤ total g xs
total_less_changed f g change [] all = le_self 0
total_less_changed f g change (x ∷ xs) all =
    joined (total f (map change (x ∷ xs))) (f (change x)) (total f (map change xs)) (total g (x ∷ xs)) (g x) (total g xs) (total_cons f (change x) (map change xs)) (total_cons g x xs) all.0 (total_less_changed f g change xs all.1)
  where
    joined : (v a b w c d : ℕ) → v ≡ a + b → w ≡ c + d → a ≤ c → b ≤ d → v ≤ w
    joined v a b w c d e f low high = omega (arith, e, f, low, high)
