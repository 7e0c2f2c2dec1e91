-- Whether one of a list's elements passes a test.
use Rattle.std.proofs.Common.{◌≡◌, ℕ, length, Bool, true, false, ◌&&◌, ◌||◌, cond, List, [], ◌∷◌, refl, sym, ap, arith}
use Rattle.std.specs.Prelude.{◌==◌, ◌↔◌, filter}
use Rattle.std.specs.List.{Contains, list_any}
use Rattle.std.proofs.lemmas.Bool.{eqb-true}
use Rattle.std.proofs.lemmas.Bool.Decides.{nat_tests}
use Rattle.std.proofs.lemmas.List.Elements.{All-contains, filter_passes}
use Rattle.nv_base.specs.declared.object.ObjId.{ObjId}
use Rattle.nb_model.specs.Applies.{is_empty}
use Rattle.nb_model.specs.Network.{same}
use Rattle.net_rows.proofs.Elements.{any_from, any_gives}

-- two tests of which each passes where the other does are one
pub both_ways : (a b : Bool) → (a ≡ true → b ≡ true) → (b ≡ true → a ≡ true) → a ≡ b
both_ways true true to back = refl
both_ways true false to back = sym (to refl)
both_ways false true to back = back refl
both_ways false false to back = refl

-- numbers are compared in either order
pub same_turned : (a b : ObjId) → same a b ≡ same b a
same_turned a b = grind (arith, nat_tests)

module _ {X : Type 0} where
  -- what passes a filter passes its test
  pub kept_passes : (p : X → Bool) (xs : List X) (x : X) → Contains (filter p xs) x → p x ≡ true
  kept_passes p xs x there = All-contains (λ y. p y ≡ true) (filter p xs) x (filter_passes p xs) there

  -- one of those that pass a first test passes a second where one passes both
  pub any_kept : (p q : X → Bool) (xs : List X) → list_any q (filter p xs) ≡ list_any (λ x. p x && q x) xs
  any_kept p q [] = refl
  any_kept p q (x ∷ xs) = by (p x) (any_kept p q xs)
    where
      by : (b : Bool) → list_any q (filter p xs) ≡ list_any (λ y. p y && q y) xs → list_any q (cond b (x ∷ filter p xs) (filter p xs)) ≡ (b && q x || list_any (λ y. p y && q y) xs)
      by true rest = ap (λ b. q x || b) rest
      by false rest = rest

  -- tests that agree
  pub any_agree : (p q : X → Bool) → ((x : X) → p x ≡ q x) → (xs : List X) → list_any p xs ≡ list_any q xs
  any_agree p q agree xs = ap (λ test. list_any test xs) (λ i x. agree x i)

  -- lists of the same elements
  pub any_members : (p : X → Bool) (xs ys : List X) → ((x : X) → Contains xs x ↔ Contains ys x) → list_any p xs ≡ list_any p ys
  any_members p xs ys members =
      both_ways (list_any p xs) (list_any p ys) (λ is. let at = any_gives p xs is in any_from p ys at.0 ((members at.0).0 at.1) at.2) (λ is. let at = any_gives p ys is in any_from p xs at.0 ((members at.0).1 at.1) at.2)

-- two tests that pass
pub both_pass : (a b : Bool) → a ≡ true → b ≡ true → (a && b) ≡ true
both_pass true b is_a is_b = is_b
both_pass false b is_a is_b = is_a

-- numbers that are told to be one are one
pub is_that : (a b : ObjId) → same a b ≡ true → a ≡ b
is_that a b is = ap (λ (n : ℕ). let number : ObjId = record { 0 = n } in number) (eqb-true a.0 b.0 is)

-- a list is empty where it has no length
pub none_long : {X : Type 0} (xs : List X) → (length xs == 0) ≡ is_empty xs
none_long [] = refl
none_long (x ∷ xs) = grind (arith, nat_tests)
