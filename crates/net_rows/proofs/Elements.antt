-- What is among the elements of lists.
use Rattle.std.proofs.Common.{◌≡◌, zero, suc, Bool, true, false, cond, List, [], ◌∷◌, ◌++◌, get_or, map, sym, ap, refl, ◌∙◌, subst, ◌⊎◌, inl, inr, arith}
use Rattle.std.specs.Prelude.{◌||◌}
use Rattle.std.specs.List.{All, AllByRecursion, Contains, flat_map, filter, list_any}
use Rattle.std.proofs.lemmas.Bool.{false≢true, or_left, or_right}
use Rattle.std.proofs.lemmas.List.{get_or_default}
use Rattle.std.proofs.lemmas.List.Elements.{Contains-append_left, Contains-append_right, Contains-append_cases}

-- an element of a list is the first or one of the others
pub one_of : {X : Type 0} (x : X) (xs : List X) (y : X) → Contains (x ∷ xs) y → (x ≡ y) ⊎ Contains xs y
one_of x xs y (zero, within, is) = inl is
one_of x xs y (suc k, within, is) = inr (k, omega arith, is)

-- each of the others is an element
pub one_later : {X : Type 0} (x : X) (xs : List X) (y : X) → Contains xs y → Contains (x ∷ xs) y
one_later x xs y (k, within, is) = (suc k, omega arith, is)

-- no element is in a list that has none
pub one_of_none : {X : Type 0} (y : X) → Contains [] y → ⊥
one_of_none y (k, within, is) = absurd (omega arith)

-- an element that is first, by an equation
pub one_first : {X : Type 0} (x : X) (xs : List X) (y : X) → x ≡ y → Contains (x ∷ xs) y
one_first x xs y is = (0, omega arith, is)

module _ {X Y : Type 0} where
  -- what is among the images of a list's elements is the image of one
  pub Contains-from_map : (f : X → Y) (xs : List X) (y : Y) → Contains (map f xs) y → (x : X) × Contains xs x × (f x ≡ y)
  Contains-from_map f [] y there = absurd (one_of_none y there)
  Contains-from_map f (x ∷ xs) y there = by (one_of (f x) (map f xs) y there) (Contains-from_map f xs y)
    where
      by : (f x ≡ y) ⊎ Contains (map f xs) y → (Contains (map f xs) y → (x' : X) × Contains xs x' × (f x' ≡ y)) → (x' : X) × Contains (x ∷ xs) x' × (f x' ≡ y)
      by (inl is) rest = (x, one_first x xs x refl, is)
      by (inr later) rest = let at = rest later in (at.0, one_later x xs at.0 at.1, at.2)

  -- the image of each element is among the images
  pub Contains-map : (f : X → Y) (xs : List X) (x : X) → Contains xs x → Contains (map f xs) (f x)
  Contains-map f [] x there = absurd (one_of_none x there)
  Contains-map f (z ∷ xs) x there = by (one_of z xs x there) (Contains-map f xs x)
    where
      by : (z ≡ x) ⊎ Contains xs x → (Contains xs x → Contains (map f xs) (f x)) → Contains (f z ∷ map f xs) (f x)
      by (inl is) rest = one_first (f z) (map f xs) (f x) (ap f is)
      by (inr later) rest = one_later (f z) (map f xs) (f x) (rest later)

  -- what is among the pieces that a list's elements give is in the piece of one
  pub Contains-from_flat_map : (f : X → List Y) (xs : List X) (y : Y) → Contains (flat_map f xs) y → (x : X) × Contains xs x × Contains (f x) y
  Contains-from_flat_map f [] y there = absurd (one_of_none y there)
  Contains-from_flat_map f (x ∷ xs) y there = by (Contains-append_cases (f x) (flat_map f xs) y there) (Contains-from_flat_map f xs y)
    where
      by : Contains (f x) y ⊎ Contains (flat_map f xs) y → (Contains (flat_map f xs) y → (x' : X) × Contains xs x' × Contains (f x') y) → (x' : X) × Contains (x ∷ xs) x' × Contains (f x') y
      by (inl is) rest = (x, one_first x xs x refl, is)
      by (inr later) rest = let at = rest later in (at.0, one_later x xs at.0 at.1, at.2)

  -- each element's piece is among them
  pub Contains-flat_map : (f : X → List Y) (xs : List X) (x : X) (y : Y) → Contains xs x → Contains (f x) y → Contains (flat_map f xs) y
  Contains-flat_map f [] x y there in_it = absurd (one_of_none x there)
  Contains-flat_map f (z ∷ xs) x y there in_it = by (one_of z xs x there) (λ later. Contains-flat_map f xs x y later in_it)
    where
      by : (z ≡ x) ⊎ Contains xs x → (Contains xs x → Contains (flat_map f xs) y) → Contains (f z ++ flat_map f xs) y
      by (inl is) rest = let same : f x ≡ f z = sym (ap f is) in Contains-append_left (f z) (flat_map f xs) y (subst (λ piece. Contains piece y) same in_it)
      by (inr later) rest = Contains-append_right (f z) (flat_map f xs) y (rest later)

-- what is among the elements that pass a test
pub Contains-filter : {X : Type 0} (p : X → Bool) (xs : List X) (x : X) → Contains xs x → p x ≡ true → Contains (filter p xs) x
Contains-filter p [] x there passes = absurd (one_of_none x there)
Contains-filter {X} p (z ∷ xs) x there passes = by (p z) refl (one_of z xs x there) (λ later. Contains-filter p xs x later passes)
  where
    by : (b : Bool) → p z ≡ b → (z ≡ x) ⊎ Contains xs x → (Contains xs x → Contains (filter p xs) x) → Contains (cond b (z ∷ filter p xs) (filter p xs)) x
    by true is (inl same) rest = one_first z (filter p xs) x same
    by true is (inr later) rest = one_later z (filter p xs) x (rest later)
    by false is (inl same) rest = absurd (false≢true (sym is ∙ ap p same ∙ passes))
    by false is (inr later) rest = rest later

-- and none but elements are
pub Contains-from_filter : {X : Type 0} (p : X → Bool) (xs : List X) (x : X) → Contains (filter p xs) x → Contains xs x
Contains-from_filter p [] x there = absurd (one_of_none x there)
Contains-from_filter {X} p (z ∷ xs) x there = by (p z) there (Contains-from_filter p xs x)
  where
    first : (z ≡ x) ⊎ Contains (filter p xs) x → (Contains (filter p xs) x → Contains xs x) → Contains (z ∷ xs) x
    first (inl same) rest = one_first z xs x same
    first (inr later) rest = one_later z xs x (rest later)

    by : (b : Bool) → Contains (cond b (z ∷ filter p xs) (filter p xs)) x → (Contains (filter p xs) x → Contains xs x) → Contains (z ∷ xs) x
    by true at rest = first (one_of z (filter p xs) x at) rest
    by false at rest = one_later z xs x (rest at)

-- what holds of each element holds of all
pub All-from_members : {X : Type 0} (P : X → Type 0) (xs : List X) → ((x : X) → Contains xs x → P x) → All P xs
All-from_members P xs each k d below = each (get_or xs k d) (k, below, get_or_default xs k (get_or xs k d) d below)

-- what holds of each element of two lists holds of each of both
pub every_append : {X : Type 0} (P : X → Type 0) (xs ys : List X) → AllByRecursion P xs → AllByRecursion P ys → AllByRecursion P (xs ++ ys)
every_append P [] ys a b = b
every_append P (x ∷ xs) ys a b = (a.0, every_append P xs ys a.1 b)

-- where one of a list passes, there is such a one
pub any_gives : {X : Type 0} (p : X → Bool) (xs : List X) → list_any p xs ≡ true → (x : X) × Contains xs x × (p x ≡ true)
any_gives p [] any = absurd (false≢true any)
any_gives {X} p (x ∷ xs) any = by (p x) refl any (any_gives p xs)
  where
    by : (b : Bool) → p x ≡ b → (b || list_any p xs) ≡ true → (list_any p xs ≡ true → (y : X) × Contains xs y × (p y ≡ true)) → (y : X) × Contains (x ∷ xs) y × (p y ≡ true)
    by true is any rest = (x, one_first x xs x refl, is)
    by false is any rest = let at = rest any in (at.0, one_later x xs at.0 at.1, at.2)

-- and where there is such a one, one passes
pub any_from : {X : Type 0} (p : X → Bool) (xs : List X) (x : X) → Contains xs x → p x ≡ true → list_any p xs ≡ true
any_from p [] x there passes = absurd (one_of_none x there)
any_from {X} p (y ∷ xs) x there passes = by (one_of y xs x there) (λ later. any_from p xs x later passes)
  where
    by : (y ≡ x) ⊎ Contains xs x → (Contains xs x → list_any p xs ≡ true) → (p y || list_any p xs) ≡ true
    by (inl same) rest = or_left (p y) (list_any p xs) (ap p same ∙ passes)
    by (inr later) rest = or_right (p y) (list_any p xs) (rest later)
