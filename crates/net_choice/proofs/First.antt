-- What it is to decide first among some ACLs, and that it tells the number of the ACL.
use Rattle.std.proofs.Common.{◌≡◌, Bool, true, false, cond, List, [], ◌∷◌, Option, Some, None, refl, sym, ap, subst, ◌⊎◌, inl, inr, ◌↔◌}
use Rattle.std.specs.Prelude.{fold, option_map}
use Rattle.std.specs.List.{Contains}
use Rattle.nv_map.proofs.Members.{here, there, here_or_there, none_in}
use Rattle.nb_records.specs.declared.acl.Acl.{Acl}
use Rattle.net_choice.specs.inner.Acls.{first, is_before}
use Rattle.net_choice.proofs.Order.{not_before, not_itself, one_number}

-- it is one of these, and none of these is before it
abbrev pub IsFirst : (Acl → Type 0) → Option Acl → Type 0
IsFirst S None = (acl : Acl) → S acl → ⊥
IsFirst S (Some best) = S best × ((acl : Acl) → S acl → is_before acl best ≡ false)

-- among the same ACLs
pub first_among_same : (S U : Acl → Type 0) (best : Option Acl) → ((acl : Acl) → S acl ↔ U acl) → IsFirst S best → IsFirst U best
first_among_same S U None same none = λ acl there. none acl ((same acl).1 there)
first_among_same S U (Some best) same is = ((same best).0 is.0, λ acl there. is.1 acl ((same acl).1 there))

-- those that are first among the same ACLs have one number
pub one_first : (S U : Acl → Type 0) (a b : Option Acl) → ((acl : Acl) → S acl ↔ U acl) → IsFirst S a → IsFirst U b → option_map (λ acl. acl.id) a ≡ option_map (λ acl. acl.id) b
one_first S U None None same is is' = refl
one_first S U None (Some b) same is is' = absurd (is b ((same b).1 is'.0))
one_first S U (Some a) None same is is' = absurd (is' a ((same a).0 is.0))
one_first S U (Some a) (Some b) same is is' = ap Some (one_number a b (is'.1 a ((same a).0 is.0)) (is.1 b ((same b).1 is'.0)))

-- with one more
pub first_with_one : (S : Acl → Type 0) (best : Option Acl) (acl : Acl) → IsFirst S best → IsFirst (λ a. S a ⊎ (acl ≡ a)) (first best acl)
first_with_one S None acl none = (inr refl, no_other)
  where
    no_other : (a : Acl) → S a ⊎ (acl ≡ a) → is_before a acl ≡ false
    no_other a (inl there) = absurd (none a there)
    no_other a (inr is) = subst (λ (x : Acl). is_before x acl ≡ false) is (not_itself acl)
first_with_one S (Some best) acl is = by (is_before acl best) refl
  where
    before_best : is_before acl best ≡ true → (a : Acl) → S a ⊎ (acl ≡ a) → is_before a acl ≡ false
    before_best before a (inl there) = not_before a acl best before (is.1 a there)
    before_best before a (inr same) = subst (λ (x : Acl). is_before x acl ≡ false) same (not_itself acl)

    after_best : is_before acl best ≡ false → (a : Acl) → S a ⊎ (acl ≡ a) → is_before a best ≡ false
    after_best not a (inl there) = is.1 a there
    after_best not a (inr same) = subst (λ (x : Acl). is_before x best ≡ false) same not

    by : (b : Bool) → is_before acl best ≡ b → IsFirst (λ a. S a ⊎ (acl ≡ a)) (cond b (Some acl) (Some best))
    by true before = (inr refl, before_best before)
    by false not = (inl is.0, after_best not)

module _ {X : Type 0} (f : Option Acl → X → Option Acl) (T : X → Acl → Type 0) where
  -- those of one of the elements of a list
  abbrev pub OfOne : List X → Acl → Type 0
  OfOne xs acl = (x : X) × Contains xs x × T x acl

  -- where each step takes in those of an element, a fold takes in those of all
  pub first_through : ((S : Acl → Type 0) (best : Option Acl) (x : X) → IsFirst S best → IsFirst (λ a. S a ⊎ T x a) (f best x)) → (xs : List X) (S : Acl → Type 0) (best : Option Acl)
      → IsFirst S best → IsFirst (λ a. S a ⊎ OfOne xs a) (fold f best xs)
  first_through each [] S best is = first_among_same S (λ a. S a ⊎ OfOne [] a) best same is
    where
      back : (a : Acl) → S a ⊎ OfOne [] a → S a
      back a (inl there) = there
      back a (inr of) = absurd (none_in of.0 of.1)

      same : (a : Acl) → S a ↔ (S a ⊎ OfOne [] a)
      same a = (λ there. inl there, back a)
  first_through each (x ∷ xs) S best is =
      first_among_same (λ a. (S a ⊎ T x a) ⊎ OfOne xs a) (λ a. S a ⊎ OfOne (x ∷ xs) a) (fold f (f best x) xs) same
      (first_through each xs (λ a. S a ⊎ T x a) (f best x) (each S best x is))
    where
      to : (a : Acl) → (S a ⊎ T x a) ⊎ OfOne xs a → S a ⊎ OfOne (x ∷ xs) a
      to a (inl (inl there)) = inl there
      to a (inl (inr of)) = inr (x, here x xs, of)
      to a (inr of) = inr (of.0, there x xs of.0 of.1, of.2)

      later : (a : Acl) (y : X) → (x ≡ y) ⊎ Contains xs y → T y a → (S a ⊎ T x a) ⊎ OfOne xs a
      later a y (inl is') of = inl (inr (subst (λ (z : X). T z a) (sym is') of))
      later a y (inr at) of = inr (y, at, of)

      back : (a : Acl) → S a ⊎ OfOne (x ∷ xs) a → (S a ⊎ T x a) ⊎ OfOne xs a
      back a (inl there) = inl (inl there)
      back a (inr of) = later a of.0 (here_or_there x xs of.0 of.1) of.2

      same : (a : Acl) → ((S a ⊎ T x a) ⊎ OfOne xs a) ↔ (S a ⊎ OfOne (x ∷ xs) a)
      same a = (to a, back a)
