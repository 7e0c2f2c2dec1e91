-- What is among the elements of lists that are put together, by cases.
use Rattle.std.proofs.Common.{◌≡◌, List, [], ◌∷◌, ◌++◌, sym, ◌⊎◌, inl, inr}
use Rattle.std.specs.List.{Contains}
use Rattle.std.proofs.lemmas.List.Elements.{Contains-append_cases}
use Rattle.net_rows.proofs.Elements.{one_of, one_of_none}

module _ {X A : Type 0} where
  -- of two lists
  pub of_either : (xs ys : List X) (x : X) → (Contains xs x → A) → (Contains ys x → A) → Contains (xs ++ ys) x → A
  of_either xs ys x left right there = by (Contains-append_cases xs ys x there)
    where
      by : Contains xs x ⊎ Contains ys x → A
      by (inl at) = left at
      by (inr at) = right at

  -- the first or another
  pub of_first : (x : X) (xs : List X) (y : X) → (y ≡ x → A) → (Contains xs y → A) → Contains (x ∷ xs) y → A
  of_first x xs y here later there = by (one_of x xs y there)
    where
      by : (x ≡ y) ⊎ Contains xs y → A
      by (inl same) = here (sym same)
      by (inr at) = later at

  -- of none
  pub of_none : (y : X) → Contains [] y → A
  of_none y there = absurd (one_of_none y there)
