-- The first place of a list that passes a test, item by item.
use Rattle.std.proofs.Common.{◌≡◌, ℕ, ◌+◌, ◌<◌, Bool, true, false, cond, ◌||◌, List, [], ◌∷◌, ◌++◌, length, slice_get, get_or, Option, None, Some, is_some, option_map, refl, sym, ap, ◌∙◌, arith}
use Rattle.std.proofs.lemmas.Bool.{true≢false}
use Rattle.std.proofs.lemmas.Iterator.Adapters.{position_from-zero}
use Rattle.std.proofs.lemmas.List.Quantifiers.{position-Some}
use Rattle.std.proofs.lemmas.Option.{slice_get-get_or}
use Rattle.std.specs.List.{position, position_from, list_any}
use Rattle.std.specs.Option.{option_or}

-- one place further on
abbrev pub later : Option ℕ → Option ℕ
later o = option_map (λ i. i + 1) o

module _ {X : Type 0} (p : X → Bool) where
  later_cond : (b : Bool) (i : ℕ) (o : Option ℕ) → cond b (Some (i + 1)) (later o) ≡ later (cond b (Some i) o)
  later_cond true i o = refl
  later_cond false i o = refl

  from_later : (n : ℕ) (xs : List X) → position_from p (n + 1) xs ≡ later (position_from p n xs)
  from_later n [] = refl
  from_later n (x ∷ xs) = ap (λ o. cond (p x) (Some (n + 1)) o) (from_later (n + 1) xs) ∙ later_cond (p x) n (position_from p (n + 1) xs)

  -- that of a list by its first item
  pub position-cons : (x : X) (xs : List X) → position p (x ∷ xs) ≡ cond (p x) (Some 0) (later (position p xs))
  position-cons x xs = position_from-zero p (x ∷ xs) ∙ ap (λ o. cond (p x) (Some 0) o) (from_later 0 xs ∙ ap later (sym (position_from-zero p xs)))

  last_step : (b c : Bool) (o : Option ℕ) (n m : ℕ) → m ≡ n + 1 → cond b (Some 0) (later (option_or o (cond c (Some n) None))) ≡ option_or (cond b (Some 0) (later o)) (cond c (Some m) None)
  last_step true c o n m e = refl
  last_step false true None n m e = ap Some (sym e)
  last_step false false None n m e = refl
  last_step false c (Some i) n m e = refl

  -- an item more, last
  pub position-last : (xs : List X) (x : X) → position p (xs ++ x ∷ []) ≡ option_or (position p xs) (cond (p x) (Some (length xs)) None)
  position-last [] x = position-cons x []
  position-last (y ∷ ys) x =
      position-cons y (ys ++ x ∷ [])
      ∙ ap (λ o. cond (p y) (Some 0) (later o)) (position-last ys x)
      ∙ last_step (p y) (p x) (position p ys) (length ys) (length (y ∷ ys)) (omega arith)
      ∙ ap (λ o. option_or o (cond (p x) (Some (length (y ∷ ys))) None)) (sym (position-cons y ys))

  some_step : (b : Bool) (o : Option ℕ) (c : Bool) → is_some o ≡ c → is_some (cond b (Some 0) (later o)) ≡ cond b true c
  some_step true o c e = refl
  some_step false None c e = e
  some_step false (Some i) c e = e

  any_step : (b c : Bool) → cond b true c ≡ (b || c)
  any_step true c = refl
  any_step false c = refl

  -- there is one where some item passes
  pub position-any : (xs : List X) → is_some (position p xs) ≡ list_any p xs
  position-any [] = refl
  position-any (x ∷ xs) = ap is_some (position-cons x xs) ∙ some_step (p x) (position p xs) (list_any p xs) (position-any xs) ∙ any_step (p x) (list_any p xs)

  -- the item there passes, and none before it
  pub position-is : (xs : List X) (i : ℕ) → position p xs ≡ Some i → (x : X) × (slice_get xs i ≡ Some x) × (p x ≡ true) × (i < length xs) × ((k : ℕ) (d : X) → k < i → p (get_or xs k d) ≡ false)
  position-is [] i e = absurd (true≢false (sym (ap is_some e)))
  position-is (x ∷ xs) i e =
      let is = position-Some p (x ∷ xs) i x e in
      (get_or (x ∷ xs) i x, slice_get-get_or (x ∷ xs) i x is.0, is.1, is.0, λ k d l. (position-Some p (x ∷ xs) i d e).2 k l)

  -- no item passes where there is none
  pub position-none : (xs : List X) → position p xs ≡ None → list_any p xs ≡ false
  position-none xs e = sym (position-any xs) ∙ ap is_some e

-- tests that agree have the same
pub position-same : {X : Type 0} {p q : X → Bool} → ((x : X) → p x ≡ q x) → (xs : List X) → position p xs ≡ position q xs
position-same same xs i = position (λ x. same x i) xs
