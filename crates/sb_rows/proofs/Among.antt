-- What a filter keeps of the elements of a list.
use Rattle.std.proofs.Common.{◌≡◌, zero, suc, Bool, true, false, cond, List, [], ◌∷◌, ap, ◌∙◌, arith}
use Rattle.std.specs.List.{filter, Contains}

module _ {X : Type 0} (p : X → Bool) where
  cons_kept : (b : Bool) (x : X) (xs : List X) (y : X) → Contains xs y → Contains (cond b (x ∷ xs) xs) y
  cons_kept true x xs y (k, in_range, is) = (suc k, omega arith, is)
  cons_kept false x xs y there = there

  -- an element that passes is kept
  pub Contains-filter : (xs : List X) (y : X) → p y ≡ true → Contains xs y → Contains (filter p xs) y
  Contains-filter [] y passes (k, in_range, is) = absurd (omega arith)
  Contains-filter (x ∷ xs) y passes (zero, in_range, is) = rw (ap p is ∙ passes) (0, omega arith, is)
  Contains-filter (x ∷ xs) y passes (suc k, in_range, is) = cons_kept (p x) x (filter p xs) y (Contains-filter xs y passes (k, omega arith, is))

  cons_from : (b : Bool) (x : X) (xs kept : List X) (y : X) → (Contains kept y → Contains xs y) → Contains (cond b (x ∷ kept) kept) y → Contains (x ∷ xs) y
  cons_from true x xs kept y rest (zero, in_range, is) = (0, omega arith, is)
  cons_from true x xs kept y rest (suc k, in_range, is) = let at = rest (k, omega arith, is) in (suc at.0, omega (arith, at.1), at.2)
  cons_from false x xs kept y rest there = let at = rest there in (suc at.0, omega (arith, at.1), at.2)

  -- and what is kept was there
  pub Contains-from_filter : (xs : List X) (y : X) → Contains (filter p xs) y → Contains xs y
  Contains-from_filter [] y there = there
  Contains-from_filter (x ∷ xs) y there = cons_from (p x) x xs (filter p xs) y (Contains-from_filter xs y) there
