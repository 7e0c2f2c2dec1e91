-- Which ACL decides: of those in rising number that hold, the one that no other is ahead of.
use Rattle.std.proofs.Common.{◌≡◌, ◌+◌, ◌<◌, Bool, true, false, cond, nat_lt, List, [], ◌∷◌, sym, refl, ◌∙◌, subst, ◌⊎◌, inl, inr, arith}
use Rattle.std.specs.Prelude.{Option, Some, fold}
use Rattle.std.specs.List.{AllByRecursion, Contains, filter}
use Rattle.std.proofs.lemmas.Bool.{ltb-true}
use Rattle.std.proofs.lemmas.Bool.Decides.{nat_tests}
use Rattle.nb_records.specs.declared.acl.Acl.{Acl}
use Rattle.nv_table.specs.Table.{NumbersRise}
use Rattle.net_meaning.specs.AclVerdict.{higher}
use Rattle.net_rows.proofs.Elements.{one_of, one_of_none, one_first, one_later}

-- numbers of ACLs rise
abbrev pub Rises : List Acl → Type 0
Rises acls = NumbersRise (λ (a : Acl). a.id) acls

-- an ACL is this one, or after it: its priority is lower, or the same and its number higher
abbrev pub IsAfter : Acl → Acl → Type 0
IsAfter a first = (a ≡ first) ⊎ ((a.priority < first.priority) ⊎ ((a.priority ≡ first.priority) × (first.id.0 < a.id.0)))

-- the one that decides is among them, and each is it or after it
pub record IsFirst (acls : List Acl) (found : Option Acl) : Type 0 where
  pub acl : Acl
  pub is : found ≡ Some acl
  pub among : Contains acls acl
  pub others : (a : Acl) → Contains acls a → IsAfter a acl

module _ (f x : Acl) where
  -- one that is not ahead of another stays after what that one is after
  lower_then : (d : Acl) → f.priority < x.priority → IsAfter x d → IsAfter f d
  lower_then d lower (inl is) = inr (inl (subst (λ (a : Acl). f.priority < a.priority) is lower))
  lower_then d lower (inr (inl below)) = inr (inl (omega (arith, lower, below)))
  lower_then d lower (inr (inr level)) = inr (inl (let same = level.0 in omega (arith, lower, same)))

  later_then : (d : Acl) → nat_lt f.priority x.priority ≡ false → f.id.0 < x.id.0 → IsAfter f d → IsAfter x d
  later_then d not_higher later (inl is) = by (nat_lt x.priority f.priority) refl
    where
      by : (b : Bool) → nat_lt x.priority f.priority ≡ b → IsAfter x d
      by true lower = inr (inl (subst (λ (a : Acl). x.priority < a.priority) is (ltb-true x.priority f.priority lower)))
      by false not_lower =
          let same : x.priority ≡ f.priority = grind (arith, nat_tests) in
          inr (inr (subst (λ (a : Acl). (x.priority ≡ a.priority) × (a.id.0 < x.id.0)) is (same, later)))
  later_then d not_higher later (inr (inl below)) = let not_above : x.priority < f.priority + 1 = grind (arith, nat_tests) in inr (inl (omega (arith, not_above, below)))
  later_then d not_higher later (inr (inr level)) = by (nat_lt x.priority f.priority) refl
    where
      by : (b : Bool) → nat_lt x.priority f.priority ≡ b → IsAfter x d
      by true lower = let less = ltb-true x.priority f.priority lower in let same = level.0 in inr (inl (omega (arith, less, same)))
      by false not_lower =
          let same : x.priority ≡ f.priority = grind (arith, nat_tests) in
          let above = level.1 in
          inr (inr (same ∙ level.0, omega (arith, above, later)))

pub first_of : (f : Acl) (acls : List Acl) → Rises (f ∷ acls) → IsFirst (f ∷ acls) (fold higher (Some f) acls)
first_of f [] rise = record { acl = f; is = refl; among = one_first f [] f refl; others = λ a there. by a (one_of f [] a there) }
  where
    by : (a : Acl) → (f ≡ a) ⊎ Contains [] a → IsAfter a f
    by a (inl is) = inl (sym is)
    by a (inr none) = absurd (one_of_none a none)
first_of f (x ∷ acls) rise = by (nat_lt f.priority x.priority) refl (first_of x acls rise.1) (first_of f acls (rise.0.1, rise.1.1))
  where
    by : (b : Bool) → nat_lt f.priority x.priority ≡ b → IsFirst (x ∷ acls) (fold higher (Some x) acls) → IsFirst (f ∷ acls) (fold higher (Some f) acls) → IsFirst (f ∷ x ∷ acls) (fold higher (cond b (Some x) (Some f)) acls)
    by true lower rest stay = record { acl = rest.acl; is = rest.is; among = one_later f (x ∷ acls) rest.acl rest.among; others = λ a there. each a (one_of f (x ∷ acls) a there) }
      where
        each : (a : Acl) → (f ≡ a) ⊎ Contains (x ∷ acls) a → IsAfter a rest.acl
        each a (inl is) = subst (λ (c : Acl). IsAfter c rest.acl) is (lower_then f x rest.acl (ltb-true f.priority x.priority lower) (rest.others x (one_first x acls x refl)))
        each a (inr later) = rest.others a later
    by false not_lower rest stay = record { acl = stay.acl; is = stay.is; among = insert (one_of f acls stay.acl stay.among); others = λ a there. each a (one_of f (x ∷ acls) a there) }
      where
        insert : (f ≡ stay.acl) ⊎ Contains acls stay.acl → Contains (f ∷ x ∷ acls) stay.acl
        insert (inl is) = one_first f (x ∷ acls) stay.acl is
        insert (inr later) = one_later f (x ∷ acls) stay.acl (one_later x acls stay.acl later)

        each_later : (a : Acl) → (x ≡ a) ⊎ Contains acls a → IsAfter a stay.acl
        each_later a (inl is) = subst (λ (c : Acl). IsAfter c stay.acl) is (later_then f x stay.acl not_lower rise.0.0 (stay.others f (one_first f acls f refl)))
        each_later a (inr later) = stay.others a (one_later f acls a later)

        each : (a : Acl) → (f ≡ a) ⊎ Contains (x ∷ acls) a → IsAfter a stay.acl
        each a (inl is) = stay.others a (one_first f acls a is)
        each a (inr later) = each_later a (one_of x acls a later)

-- what a test picks of ACLs whose numbers rise
all_kept : {X : Type 0} (P : X → Type 0) (p : X → Bool) (xs : List X) → AllByRecursion P xs → AllByRecursion P (filter p xs)
all_kept P p [] all = tt
all_kept P p (x ∷ xs) all = by (p x) (all_kept P p xs all.1)
  where
    by : (b : Bool) → AllByRecursion P (filter p xs) → AllByRecursion P (cond b (x ∷ filter p xs) (filter p xs))
    by true rest = (all.0, rest)
    by false rest = rest

pub rises_kept : (p : Acl → Bool) (acls : List Acl) → Rises acls → Rises (filter p acls)
rises_kept p [] rise = tt
rises_kept p (a ∷ acls) rise = by (p a) (rises_kept p acls rise.1)
  where
    by : (b : Bool) → Rises (filter p acls) → Rises (cond b (a ∷ filter p acls) (filter p acls))
    by true rest = (all_kept (λ (x : Acl). a.id.0 < x.id.0) p acls rise.0, rest)
    by false rest = rest
