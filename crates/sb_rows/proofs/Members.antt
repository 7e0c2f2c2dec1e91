-- Two strictly sorted lists with the same members are one list.
use Rattle.std.proofs.Common.{◌≡◌, zero, suc, List, [], ◌∷◌, ◌⊎◌, inl, inr, sym, ap, refl, ◌∙◌, subst, arith}
use Rattle.std.specs.declared.cmp.Ordering.{Ordering}
use Rattle.std.specs.declared.cmp.Ordering.TheVariants.{Less, Equal, Greater}
use Rattle.std.specs.Ordering.{ordering_reverse}
use Rattle.std.specs.Cmp.{IsTotalOrder}
use Rattle.std.specs.List.{Contains}
use Rattle.std.specs.List.Sorted.{IsStrictlySortedBy}
use Rattle.std.proofs.lemmas.List.Elements.{All-contains}
use Rattle.std.proofs.lemmas.Map.Keys.{sorted_tail}
use Rattle.std.proofs.lemmas.Map.Views.{All-after_first}

-- nothing is below what is below it
less_not_back : (o : Ordering) → o ≡ Less → ordering_reverse o ≡ Less → ⊥
less_not_back Less e back = cc
less_not_back Equal e back = cc
less_not_back Greater e back = cc

module _ {X : Type 0} {cmp : X → X → Ordering} (total : IsTotalOrder cmp) where
  never_both : (x y : X) → cmp x y ≡ Less → cmp y x ≡ Less → ⊥
  never_both x y less back = less_not_back (cmp x y) less (sym (total.antisymm y x) ∙ back)

  -- a member of a list is its first or one of the others
  first_or_later : (x r : X) (xs : List X) → Contains (x ∷ xs) r → (x ≡ r) ⊎ Contains xs r
  first_or_later x r xs (zero, within, is) = inl is
  first_or_later x r xs (suc k, within, is) = inr (k, omega arith, is)

  later : (x r : X) (xs : List X) → Contains xs r → Contains (x ∷ xs) r
  later x r xs (k, within, is) = (suc k, omega arith, is)

  none_in : (r : X) → Contains [] r → ⊥
  none_in r (k, within, is) = absurd (omega arith)

  -- the first is below each of the others
  below_first : (x r : X) (xs : List X) → IsStrictlySortedBy cmp (x ∷ xs) → Contains xs r → cmp x r ≡ Less
  below_first x r xs up at = All-contains (λ q. cmp x q ≡ Less) xs r (All-after_first cmp x xs up) at

  -- two lists whose first elements are each in the other have one first element
  one_first : (x y : X) (xs ys : List X) → IsStrictlySortedBy cmp (x ∷ xs) → IsStrictlySortedBy cmp (y ∷ ys) → Contains (y ∷ ys) x → Contains (x ∷ xs) y → x ≡ y
  one_first x y xs ys up_xs up_ys x_there y_there = by (first_or_later y x ys x_there) (first_or_later x y xs y_there)
    where
      by : (y ≡ x) ⊎ Contains ys x → (x ≡ y) ⊎ Contains xs y → x ≡ y
      by (inl is) there = sym is
      by (inr x_later) (inl is) = is
      by (inr x_later) (inr y_later) = absurd (never_both x y (below_first x y xs up_xs y_later) (below_first y x ys up_ys x_later))

  -- a later member of one list is a later one of the other
  stays_later : (x r : X) (xs ys : List X) → IsStrictlySortedBy cmp (x ∷ xs) → Contains xs r → Contains (x ∷ ys) r → Contains ys r
  stays_later x r xs ys up at there = by (first_or_later x r ys there)
    where
      by : (x ≡ r) ⊎ Contains ys r → Contains ys r
      by (inl is) = let less : cmp x x ≡ Less = subst (λ y. cmp x y ≡ Less) (sym is) (below_first x r xs up at) in absurd (never_both x x less less)
      by (inr found) = found

  pub same_members : (xs ys : List X) → IsStrictlySortedBy cmp xs → IsStrictlySortedBy cmp ys → ((r : X) → Contains xs r → Contains ys r) → ((r : X) → Contains ys r → Contains xs r) → xs ≡ ys
  same_members [] [] up_xs up_ys to back = refl
  same_members [] (y ∷ ys) up_xs up_ys to back = absurd (none_in y (back y (0, omega arith, refl)))
  same_members (x ∷ xs) [] up_xs up_ys to back = absurd (none_in x (to x (0, omega arith, refl)))
  same_members (x ∷ xs) (y ∷ ys) up_xs up_ys to back =
      let first : x ≡ y = one_first x y xs ys up_xs up_ys (to x (0, omega arith, refl)) (back y (0, omega arith, refl)) in
      let up_other : IsStrictlySortedBy cmp (x ∷ ys) = subst (λ z. IsStrictlySortedBy cmp (z ∷ ys)) (sym first) up_ys in
      let rest : xs ≡ ys = same_members xs ys (sorted_tail cmp x xs up_xs) (sorted_tail cmp y ys up_ys)
      (λ r at. stays_later x r xs ys up_xs at (subst (λ z. Contains (z ∷ ys) r) (sym first) (to r (later x r xs at))))
      (λ r at. stays_later x r ys xs up_other at (back r (later y r ys at))) in
      ap (λ z. z ∷ xs) first ∙ ap (λ zs. y ∷ zs) rest
