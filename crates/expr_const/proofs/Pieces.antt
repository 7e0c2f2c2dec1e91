-- Pieces in a row, with a byte between each two.
use Rattle.std.proofs.Common.{◌≡◌, ℕ, suc, ◌+◌, ◌-◌, ◌*◌, ◌≤◌, Bool, true, leb, eqb, List, [], ◌∷◌, length, refl, arith, length-append}
use Rattle.std.specs.List.{list_all, join_with_byte}
use Rattle.std.proofs.lemmas.Bool.{leb-true, eqb-true, and_parts, and_from}
use Rattle.std.proofs.lemmas.List.Folds.{list_all-append}

-- a weaker test passes too
pub weaker : {X : Type 0} (p q : X → Bool) → ((x : X) → p x ≡ true → q x ≡ true) → (xs : List X) → list_all p xs ≡ true → list_all q xs ≡ true
weaker p q each [] all = refl
weaker p q each (x ∷ xs) all = let parts = and_parts _ _ all in and_from _ _ (each x parts.0) (weaker p q each xs parts.1)

-- pieces in a row, with a byte between each two
pub joined_all : (q : ℕ → Bool) (c : ℕ) (parts : List (List ℕ)) → q c ≡ true → list_all (λ p. list_all q p) parts ≡ true → list_all q (join_with_byte c parts) ≡ true
joined_all q c [] between all = refl
joined_all q c (p ∷ []) between all = (and_parts _ _ all).0
joined_all q c (p ∷ r ∷ ps) between all =
    let parts = and_parts (list_all q p) (list_all (λ p. list_all q p) (r ∷ ps)) all in
    rw (list_all-append q p (c ∷ join_with_byte c (r ∷ ps))) (and_from _ _ parts.0 (and_from _ _ between (joined_all q c (r ∷ ps) between parts.1)))

pub joined_length_le : (m c : ℕ) (parts : List (List ℕ)) → list_all (λ p. leb (length p) m) parts ≡ true → length (join_with_byte c parts) ≤ length parts * (m + 1) - 1
joined_length_le m c [] all = omega arith
joined_length_le m c (p ∷ []) all = omega (arith, leb-true _ _ (and_parts (leb (length p) m) true all).0)
joined_length_le m c (p ∷ r ∷ ps) all =
    let parts = and_parts (leb (length p) m) (list_all (λ p. leb (length p) m) (r ∷ ps)) all in
    rw (length-append p (c ∷ join_with_byte c (r ∷ ps))) (grow (length p) (length (join_with_byte c (r ∷ ps))) (length ps) (leb-true _ _ parts.0) (joined_length_le m c (r ∷ ps) parts.1))
  where
    grow : (a b n : ℕ) → a ≤ m → b ≤ suc n * (m + 1) - 1 → a + suc b ≤ suc (suc n) * (m + 1) - 1
    grow a b n le more = omega arith

pub joined_length_is : (m c : ℕ) (parts : List (List ℕ)) → list_all (λ p. eqb (length p) m) parts ≡ true → length (join_with_byte c parts) ≡ length parts * (m + 1) - 1
joined_length_is m c [] all = omega arith
joined_length_is m c (p ∷ []) all = omega (arith, eqb-true _ _ (and_parts (eqb (length p) m) true all).0)
joined_length_is m c (p ∷ r ∷ ps) all =
    let parts = and_parts (eqb (length p) m) (list_all (λ p. eqb (length p) m) (r ∷ ps)) all in
    rw (length-append p (c ∷ join_with_byte c (r ∷ ps))) (grow (length p) (length (join_with_byte c (r ∷ ps))) (length ps) (eqb-true _ _ parts.0) (joined_length_is m c (r ∷ ps) parts.1))
  where
    grow : (a b n : ℕ) → a ≡ m → b ≡ suc n * (m + 1) - 1 → a + suc b ≡ suc (suc n) * (m + 1) - 1
    grow a b n le more = omega arith
