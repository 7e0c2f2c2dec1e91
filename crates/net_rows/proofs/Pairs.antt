-- What holds of every two elements of a list, the earlier one first.
use Rattle.std.proofs.Common.{Bool, true, false, cond, List, [], ◌∷◌, ◌++◌, map, refl, arith}
use Rattle.std.specs.List.{AllByRecursion, AllPairs, Contains, filter, flat_map}
use Rattle.std.proofs.lemmas.List.Elements.{All-contains, All-from_recursion, recursion_from_All}
use Rattle.std.proofs.lemmas.List.Kept.{AllPairs-cons}
use Rattle.net_rows.proofs.Elements.{one_first, one_later, one_of_none, every_append, All-from_members, Contains-from_flat_map, Contains-flat_map, Contains-from_filter}

module _ {X : Type 0} (P : X → Type 0) where
  -- what holds of each element of a list holds of all
  pub every_from_members : (xs : List X) → ((x : X) → Contains xs x → P x) → AllByRecursion P xs
  every_from_members xs each = recursion_from_All P xs (All-from_members P xs each)

  -- what holds of all holds of each element
  pub every_member : (xs : List X) (x : X) → AllByRecursion P xs → Contains xs x → P x
  every_member xs x all there = All-contains P xs x (All-from_recursion P xs all) there

  -- what holds of each element of both lists holds of those of either
  pub every_parts : (xs ys : List X) → AllByRecursion P (xs ++ ys) → AllByRecursion P xs × AllByRecursion P ys
  every_parts [] ys all = (tt, all)
  every_parts (x ∷ xs) ys all = let rest = every_parts xs ys all.1 in ((all.0, rest.0), rest.1)

-- what holds of each element of the pieces holds of those of each piece
pub every_piece : {X Y : Type 0} (P : Y → Type 0) (f : X → List Y) (xs : List X) → AllByRecursion P (flat_map f xs) → AllByRecursion (λ x. AllByRecursion P (f x)) xs
every_piece P f [] all = tt
every_piece P f (x ∷ xs) all = let parts = every_parts P (f x) (flat_map f xs) all in (parts.0, every_piece P f xs parts.1)

-- and the other way
pub every_flat_map : {X Y : Type 0} (P : Y → Type 0) (f : X → List Y) (xs : List X) → AllByRecursion (λ x. AllByRecursion P (f x)) xs → AllByRecursion P (flat_map f xs)
every_flat_map P f [] all = tt
every_flat_map P f (x ∷ xs) all = every_append P (f x) (flat_map f xs) all.0 (every_flat_map P f xs all.1)

pub every_map : {X Y : Type 0} (P : Y → Type 0) (f : X → Y) (xs : List X) → AllByRecursion (λ x. P (f x)) xs → AllByRecursion P (map f xs)
every_map P f [] all = tt
every_map P f (x ∷ xs) all = (all.0, every_map P f xs all.1)

pub every_weaker : {X : Type 0} (P Q : X → Type 0) (xs : List X) → ((x : X) → P x → Q x) → AllByRecursion P xs → AllByRecursion Q xs
every_weaker P Q [] weaker all = tt
every_weaker P Q (x ∷ xs) weaker all = (weaker x all.0, every_weaker P Q xs weaker all.1)

pub every_filter : {X : Type 0} (P : X → Type 0) (p : X → Bool) (xs : List X) → AllByRecursion P xs → AllByRecursion P (filter p xs)
every_filter P p xs all = every_from_members P (filter p xs) (λ x there. every_member P xs x all (Contains-from_filter p xs x there))

-- this holds of every two elements, the earlier one first
abbrev pub OfPairs : {X : Type 0} → (X → X → Type 0) → List X → Type 0
OfPairs R [] = Unit {0}
OfPairs R (x ∷ xs) = AllByRecursion (R x) xs × OfPairs R xs

-- this holds of an element of one list and an element of another
abbrev pub Across : {X : Type 0} → (X → X → Type 0) → List X → List X → Type 0
Across {X} R xs ys = (x y : X) → Contains xs x → Contains ys y → R x y

pub all_pairs : {X : Type 0} (R : X → X → Type 0) (xs : List X) → OfPairs R xs → AllPairs R xs
all_pairs R [] of = λ i j d before below. absurd (omega (arith, below))
all_pairs R (x ∷ xs) of = AllPairs-cons R x xs (All-from_recursion (R x) xs of.0) (all_pairs R xs of.1)

module _ {X : Type 0} (R : X → X → Type 0) where
  -- the pairs of two lists are those of each, and one element of each
  pub pairs_append : (xs ys : List X) → OfPairs R xs → OfPairs R ys → Across R xs ys → OfPairs R (xs ++ ys)
  pairs_append [] ys of_xs of_ys across = of_ys
  pairs_append (x ∷ xs) ys of_xs of_ys across = (
    every_append (R x) xs ys of_xs.0 (every_from_members (R x) ys (λ y there. across x y (one_first x xs x refl) there)),
    pairs_append xs ys of_xs.1 of_ys (λ z y in_xs in_ys. across z y (one_later x xs z in_xs) in_ys),
  )

  pub pairs_parts : (xs ys : List X) → OfPairs R (xs ++ ys) → OfPairs R xs × OfPairs R ys × Across R xs ys
  pairs_parts [] ys of = (tt, of, λ x y in_xs in_ys. absurd (one_of_none x in_xs))
  pairs_parts (x ∷ xs) ys of =
      let first = every_parts (R x) xs ys of.0 in
      let rest = pairs_parts xs ys of.1 in
      ((first.0, rest.0), rest.1, λ z y in_xs in_ys. every_member (λ (w : X). R w y) (x ∷ xs) z (every_member (R x) ys y first.1 in_ys, every_from_members (λ (w : X). R w y) xs (λ w there. rest.2 w y there in_ys)) in_xs)

  pub pairs_filter : (p : X → Bool) (xs : List X) → OfPairs R xs → OfPairs R (filter p xs)
  pairs_filter p [] of = tt
  pairs_filter p (x ∷ xs) of = by (p x) (every_from_members (R x) (filter p xs) (λ y there. every_member (R x) xs y of.0 (Contains-from_filter p xs y there))) (pairs_filter p xs of.1)
    where
      by : (b : Bool) → AllByRecursion (R x) (filter p xs) → OfPairs R (filter p xs) → OfPairs R (cond b (x ∷ filter p xs) (filter p xs))
      by true first rest = (first, rest)
      by false first rest = rest

-- what every two elements of this kind are, where they are something else
pub pairs_weaker : {X : Type 0} (P : X → Type 0) (S R : X → X → Type 0) (xs : List X) → ((x y : X) → P x → P y → S x y → R x y) → AllByRecursion P xs → OfPairs S xs → OfPairs R xs
pairs_weaker P S R [] weaker all of = tt
pairs_weaker {X} P S R (x ∷ xs) weaker all of = (later xs all.1 of.0, pairs_weaker P S R xs weaker all.1 of.1)
  where
    later : (ys : List X) → AllByRecursion P ys → AllByRecursion (S x) ys → AllByRecursion (R x) ys
    later [] are they = tt
    later (y ∷ ys) are they = (weaker x y all.0 are.0 they.0, later ys are.1 they.1)

every_unit : {X : Type 0} (xs : List X) → AllByRecursion (λ x. Unit {0}) xs
every_unit [] = tt
every_unit (x ∷ xs) = (tt, every_unit xs)

pub pairs_as : {X : Type 0} (S R : X → X → Type 0) (xs : List X) → ((x y : X) → S x y → R x y) → OfPairs S xs → OfPairs R xs
pairs_as S R xs weaker of = pairs_weaker (λ x. Unit {0}) S R xs (λ x y a b is. weaker x y is) (every_unit xs) of

pub pairs_map : {X Y : Type 0} (R : Y → Y → Type 0) (f : X → Y) (xs : List X) → OfPairs (λ x y. R (f x) (f y)) xs → OfPairs R (map f xs)
pairs_map R f [] of = tt
pairs_map R f (x ∷ xs) of = (every_map (R (f x)) f xs of.0, pairs_map R f xs of.1)

-- the pairs of the pieces that elements give are those of each piece, and one element of each of two
pub pairs_flat_map : {X Y : Type 0} (R : Y → Y → Type 0) (f : X → List Y) (xs : List X) → AllByRecursion (λ x. OfPairs R (f x)) xs → OfPairs (λ x y. Across R (f x) (f y)) xs
    → OfPairs R (flat_map f xs)
pairs_flat_map R f [] own of = tt
pairs_flat_map R f (x ∷ xs) own of =
    pairs_append R (f x) (flat_map f xs) own.0 (pairs_flat_map R f xs own.1 of.1)
    (λ a b in_x later. let at = Contains-from_flat_map f xs b later in every_member (λ y. Across R (f x) (f y)) xs at.0 of.0 at.1 a b in_x at.2)

pub pairs_pieces : {X Y : Type 0} (R : Y → Y → Type 0) (f : X → List Y) (xs : List X) → OfPairs R (flat_map f xs) → AllByRecursion (λ x. OfPairs R (f x)) xs × OfPairs (λ x y. Across R (f x) (f y)) xs
pairs_pieces R f [] of = (tt, tt)
pairs_pieces {X} {Y} R f (x ∷ xs) of =
    let parts = pairs_parts R (f x) (flat_map f xs) of in
    let rest = pairs_pieces R f xs parts.1 in
    ((parts.0, rest.0), (later xs parts.2, rest.1))
  where
    later : (ys : List X) → Across R (f x) (flat_map f ys) → AllByRecursion (λ y. Across R (f x) (f y)) ys
    later ys across = every_from_members (λ y. Across R (f x) (f y)) ys (λ y there a b in_x in_y. across a b in_x (Contains-flat_map f ys y b there in_y))
