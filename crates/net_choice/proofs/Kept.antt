-- What passes a filter.
use Rattle.std.proofs.Common.{◌≡◌, ◌<◌, Bool, true, false, cond, List, [], ◌∷◌, refl, sym, ap, ◌∙◌, subst, ◌⊎◌, inl, inr}
use Rattle.std.specs.Prelude.{filter}
use Rattle.std.specs.List.{AllByRecursion, Contains}
use Rattle.std.proofs.lemmas.Bool.{false≢true}
use Rattle.std.proofs.lemmas.List.Elements.{All-contains, filter_passes}
use Rattle.nv_base.specs.declared.object.ObjId.{ObjId}
use Rattle.nv_map.proofs.Members.{here, there, here_or_there, none_in}
use Rattle.nv_table.specs.Table.{NumbersRise}

module _ {X : Type 0} (p : X → Bool) where
  -- it passes the test
  pub kept_passes : (xs : List X) (x : X) → Contains (filter p xs) x → p x ≡ true
  kept_passes xs x kept = All-contains (λ y. p y ≡ true) (filter p xs) x (filter_passes p xs) kept

  -- it is there
  pub kept_there : (xs : List X) (x : X) → Contains (filter p xs) x → Contains xs x
  kept_there [] x kept = kept
  kept_there (y ∷ xs) x kept = by (p y) kept (kept_there xs x)
    where
      first : (y ≡ x) ⊎ Contains (filter p xs) x → (Contains (filter p xs) x → Contains xs x) → Contains (y ∷ xs) x
      first (inl is) rest = subst (λ z. Contains (y ∷ xs) z) is (here y xs)
      first (inr later) rest = there y xs x (rest later)

      by : (b : Bool) → Contains (cond b (y ∷ filter p xs) (filter p xs)) x → (Contains (filter p xs) x → Contains xs x) → Contains (y ∷ xs) x
      by true at rest = first (here_or_there y (filter p xs) x at) rest
      by false at rest = there y xs x (rest at)

  -- and what is there and passes the test is kept
  pub kept_from : (xs : List X) (x : X) → Contains xs x → p x ≡ true → Contains (filter p xs) x
  kept_from [] x at passes = absurd (none_in x at)
  kept_from (y ∷ xs) x at passes = by (p y) refl (here_or_there y xs x at) (λ later. kept_from xs x later passes)
    where
      by : (b : Bool) → p y ≡ b → (y ≡ x) ⊎ Contains xs x → (Contains xs x → Contains (filter p xs) x) → Contains (cond b (y ∷ filter p xs) (filter p xs)) x
      by true is (inl same) rest = subst (λ z. Contains (y ∷ filter p xs) z) same (here y (filter p xs))
      by true is (inr later) rest = there y (filter p xs) x (rest later)
      by false is (inl same) rest = absurd (false≢true (sym is ∙ ap p same ∙ passes))
      by false is (inr later) rest = rest later

  -- what holds of all holds of those that are kept
  every_kept : (P : X → Type 0) (xs : List X) → AllByRecursion P xs → AllByRecursion P (filter p xs)
  every_kept P [] all = tt
  every_kept P (x ∷ xs) all = by (p x) (every_kept P xs all.1)
    where
      by : (b : Bool) → AllByRecursion P (filter p xs) → AllByRecursion P (cond b (x ∷ filter p xs) (filter p xs))
      by true rest = (all.0, rest)
      by false rest = rest

  -- numbers that rise still do
  pub kept_rise : (number : X → ObjId) (xs : List X) → NumbersRise number xs → NumbersRise number (filter p xs)
  kept_rise number [] rise = tt
  kept_rise number (x ∷ xs) rise = by (p x) (kept_rise number xs rise.1)
    where
      by : (b : Bool) → NumbersRise number (filter p xs) → NumbersRise number (cond b (x ∷ filter p xs) (filter p xs))
      by true rest = (every_kept (λ y. (number x).0 < (number y).0) xs rise.0, rest)
      by false rest = rest
