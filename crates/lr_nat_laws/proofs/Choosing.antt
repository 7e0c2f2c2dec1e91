-- Which of some things in rising number is chosen: of the greatest level, and of those the first.
use Rattle.std.proofs.Common.{◌≡◌, ℕ, ◌+◌, ◌<◌, Bool, true, false, cond, nat_lt, List, [], ◌∷◌, sym, refl, ap, ◌∙◌, subst, ◌⊎◌, inl, inr, arith}
use Rattle.std.specs.Prelude.{Option, Some, None, fold}
use Rattle.std.specs.List.{AllByRecursion, Contains, filter}
use Rattle.std.proofs.lemmas.Bool.{ltb-true}
use Rattle.std.proofs.lemmas.Bool.Decides.{nat_tests}
use Rattle.nv_base.specs.declared.object.ObjId.{ObjId}
use Rattle.nv_table.specs.Table.{NumbersRise}
use Rattle.net_rows.proofs.Elements.{one_of, one_of_none, one_first, one_later}

-- two ways to choose that agree on each step agree
pub chosen_alike : {A B : Type 0} (f g : B → A → B) → ((b : B) (a : A) → f b a ≡ g b a) → (b : B) (xs : List A) → fold f b xs ≡ fold g b xs
chosen_alike f g alike b [] = refl
chosen_alike f g alike b (x ∷ xs) = chosen_alike f g alike (f b x) xs ∙ ap (λ c. fold g c xs) (alike b x)

module _ {A : Type 0} (level : A → ℕ) (id : A → ObjId) where
  -- of two the one of the greater level; of equals the earlier
  abbrev pub ahead : Option A → A → Option A
  ahead None x = Some x
  ahead (Some f) x = cond (nat_lt (level f) (level x)) (Some x) (Some f)

  -- one is this one, or after it: its level is lower, or the same and its number higher
  abbrev pub IsAfter : A → A → Type 0
  IsAfter a first = (a ≡ first) ⊎ ((level a < level first) ⊎ ((level a ≡ level first) × ((id first).0 < (id a).0)))

  -- the one that is chosen is among them, and each is it or after it
  pub record IsFirst (xs : List A) (found : Option A) : Type 0 where
    pub one : A
    pub is : found ≡ Some one
    pub among : Contains xs one
    pub others : (a : A) → Contains xs a → IsAfter a one

  module _ (f x : A) where
    -- one that is not ahead of another stays after what that one is after
    lower_then : (d : A) → level f < level x → IsAfter x d → IsAfter f d
    lower_then d lower (inl is) = inr (inl (subst (λ (a : A). level f < level a) is lower))
    lower_then d lower (inr (inl below)) = inr (inl (omega (arith, lower, below)))
    lower_then d lower (inr (inr even)) = inr (inl (let same = even.0 in omega (arith, lower, same)))

    later_then : (d : A) → nat_lt (level f) (level x) ≡ false → (id f).0 < (id x).0 → IsAfter f d → IsAfter x d
    later_then d not_higher later (inl is) = by (nat_lt (level x) (level f)) refl
      where
        by : (b : Bool) → nat_lt (level x) (level f) ≡ b → IsAfter x d
        by true lower = inr (inl (subst (λ (a : A). level x < level a) is (ltb-true (level x) (level f) lower)))
        by false not_lower =
            let same : level x ≡ level f = grind (arith, nat_tests) in
            inr (inr (subst (λ (a : A). (level x ≡ level a) × ((id a).0 < (id x).0)) is (same, later)))
    later_then d not_higher later (inr (inl below)) = let not_above : level x < level f + 1 = grind (arith, nat_tests) in inr (inl (omega (arith, not_above, below)))
    later_then d not_higher later (inr (inr even)) = by (nat_lt (level x) (level f)) refl
      where
        by : (b : Bool) → nat_lt (level x) (level f) ≡ b → IsAfter x d
        by true lower = let less = ltb-true (level x) (level f) lower in let same = even.0 in inr (inl (omega (arith, less, same)))
        by false not_lower =
            let same : level x ≡ level f = grind (arith, nat_tests) in
            let above = even.1 in
            inr (inr (same ∙ even.0, omega (arith, above, later)))

  pub first_of : (f : A) (xs : List A) → NumbersRise id (f ∷ xs) → IsFirst (f ∷ xs) (fold ahead (Some f) xs)
  first_of f [] rise = record { one = f; is = refl; among = one_first f [] f refl; others = λ a there. by a (one_of f [] a there) }
    where
      by : (a : A) → (f ≡ a) ⊎ Contains [] a → IsAfter a f
      by a (inl is) = inl (sym is)
      by a (inr none) = absurd (one_of_none a none)
  first_of f (x ∷ xs) rise = by (nat_lt (level f) (level x)) refl (first_of x xs rise.1) (first_of f xs (rise.0.1, rise.1.1))
    where
      by : (b : Bool) → nat_lt (level f) (level x) ≡ b → IsFirst (x ∷ xs) (fold ahead (Some x) xs) → IsFirst (f ∷ xs) (fold ahead (Some f) xs) → IsFirst (f ∷ x ∷ xs) (fold ahead (cond b (Some x) (Some f)) xs)
      by true lower rest stay = record { one = rest.one; is = rest.is; among = one_later f (x ∷ xs) rest.one rest.among; others = λ a there. each a (one_of f (x ∷ xs) a there) }
        where
          each : (a : A) → (f ≡ a) ⊎ Contains (x ∷ xs) a → IsAfter a rest.one
          each a (inl is) = subst (λ (c : A). IsAfter c rest.one) is (lower_then f x rest.one (ltb-true (level f) (level x) lower) (rest.others x (one_first x xs x refl)))
          each a (inr later) = rest.others a later
      by false not_lower rest stay = record { one = stay.one; is = stay.is; among = insert (one_of f xs stay.one stay.among); others = λ a there. each a (one_of f (x ∷ xs) a there) }
        where
          insert : (f ≡ stay.one) ⊎ Contains xs stay.one → Contains (f ∷ x ∷ xs) stay.one
          insert (inl is) = one_first f (x ∷ xs) stay.one is
          insert (inr later) = one_later f (x ∷ xs) stay.one (one_later x xs stay.one later)

          each_later : (a : A) → (x ≡ a) ⊎ Contains xs a → IsAfter a stay.one
          each_later a (inl is) = subst (λ (c : A). IsAfter c stay.one) is (later_then f x stay.one not_lower rise.0.0 (stay.others f (one_first f xs f refl)))
          each_later a (inr later) = stay.others a (one_later f xs a later)

          each : (a : A) → (f ≡ a) ⊎ Contains (x ∷ xs) a → IsAfter a stay.one
          each a (inl is) = stay.others a (one_first f xs a is)
          each a (inr later) = each_later a (one_of x xs a later)

  -- what a test picks of things in rising number
  all_kept : {X : Type 0} (P : X → Type 0) (p : X → Bool) (xs : List X) → AllByRecursion P xs → AllByRecursion P (filter p xs)
  all_kept P p [] all = tt
  all_kept P p (x ∷ xs) all = by (p x) (all_kept P p xs all.1)
    where
      by : (b : Bool) → AllByRecursion P (filter p xs) → AllByRecursion P (cond b (x ∷ filter p xs) (filter p xs))
      by true rest = (all.0, rest)
      by false rest = rest

  pub rises_kept : (p : A → Bool) (xs : List A) → NumbersRise id xs → NumbersRise id (filter p xs)
  rises_kept p [] rise = tt
  rises_kept p (a ∷ xs) rise = by (p a) (rises_kept p xs rise.1)
    where
      by : (b : Bool) → NumbersRise id (filter p xs) → NumbersRise id (cond b (a ∷ filter p xs) (filter p xs))
      by true rest = (all_kept (λ (x : A). (id a).0 < (id x).0) p xs rise.0, rest)
      by false rest = rest
