-- The parts of one list after another.
use Rattle.std.proofs.Common.{◌≡◌, ◌-◌, Bool, true, false, List, [], ◌∷◌, ◌++◌, length, take, refl, sym, ap, ◌∙◌, cond, arith}
use Rattle.std.specs.List.{slice_split, onto_first}
use Rattle.std.proofs.Math.Seq.{take-append_seam}
use Rattle.std.proofs.lemmas.List.{length-append}

-- a list has a first part
pub record HasFirst {X : Type 0} (parts : List (List X)) : Type 0 where
  pub first : List X
  pub others : List (List X)
  pub is : parts ≡ first ∷ others

-- the last part of one list goes on with the first part of the next
abbrev pub joined : {X : Type 0} → List (List X) → List (List X) → List (List X)
joined [] more = more
joined (part ∷ []) [] = part ∷ []
joined (part ∷ []) (next ∷ more) = (part ++ next) ∷ more
joined (part ∷ another ∷ parts) more = part ∷ joined (another ∷ parts) more

module _ {X : Type 0} (p : X → Bool) where
  onto_has_first : (x : X) (parts : List (List X)) → HasFirst (onto_first x parts)
  onto_has_first x [] = record { first = x ∷ []; others = []; is = refl }
  onto_has_first x (part ∷ parts) = record { first = x ∷ part; others = parts; is = refl }

  cond_has_first : (b : Bool) (x : X) (parts : List (List X)) → HasFirst (cond b ([] ∷ parts) (onto_first x parts))
  cond_has_first true x parts = record { first = []; others = parts; is = refl }
  cond_has_first false x parts = onto_has_first x parts

  pub split_has_first : (xs : List X) → HasFirst (slice_split p xs)
  split_has_first [] = record { first = []; others = []; is = refl }
  split_has_first (x ∷ xs) = cond_has_first (p x) x (slice_split p xs)

  joined_empty : (more : List (List X)) → HasFirst more → joined ([] ∷ []) more ≡ more
  joined_empty more h = rw h.is refl

  joined_following : (parts more : List (List X)) → HasFirst parts → joined ([] ∷ parts) more ≡ [] ∷ joined parts more
  joined_following parts more h = rw h.is refl

  joined_onto : (x : X) (parts more : List (List X)) → HasFirst parts → HasFirst more → joined (onto_first x parts) more ≡ onto_first x (joined parts more)
  joined_onto x [] more h k = rw k.is (absurd (empty h.is))
    where
      empty : {a : List X} {b : List (List X)} → ([] ≡ a ∷ b) → ⊥
      empty e = cc
  joined_onto x (part ∷ []) more h k = rw k.is refl
  joined_onto x (part ∷ another ∷ parts) more h k = refl

  joined_cond : (b : Bool) (x : X) (parts more : List (List X)) → HasFirst parts → HasFirst more → joined (cond b ([] ∷ parts) (onto_first x parts)) more ≡ cond b ([] ∷ joined parts more) (onto_first x (joined parts more))
  joined_cond true x parts more h k = joined_following parts more h
  joined_cond false x parts more h k = joined_onto x parts more h k

  -- the parts of two lists, one after the other
  pub split-append : (xs ys : List X) → slice_split p (xs ++ ys) ≡ joined (slice_split p xs) (slice_split p ys)
  split-append [] ys = sym (joined_empty _ (split_has_first ys))
  split-append (x ∷ xs) ys =
      ap (λ parts. cond (p x) ([] ∷ parts) (onto_first x parts)) (split-append xs ys)
      ∙ sym (joined_cond (p x) x (slice_split p xs) (slice_split p ys) (split_has_first xs) (split_has_first ys))

-- all parts but the last stay
pub joined-last : {X : Type 0} (parts : List (List X)) (part : List X) (more : List (List X)) → joined (parts ++ part ∷ []) more ≡ parts ++ joined (part ∷ []) more
joined-last [] part more = refl
joined-last (a ∷ []) part more = refl
joined-last (a ∷ b ∷ parts) part more = ap (λ rest. a ∷ rest) (joined-last (b ∷ parts) part more)

-- all but the last of a list
pub take-butlast : {X : Type 0} (xs : List X) (x : X) → take (length (xs ++ x ∷ []) - 1) (xs ++ x ∷ []) ≡ xs
take-butlast xs x =
    let e : length (xs ++ x ∷ []) - 1 ≡ length xs = omega (arith, length-append xs (x ∷ [])) in
    rw e (take-append_seam xs (x ∷ []))
