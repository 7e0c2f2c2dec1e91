-- Which records there are after each edit.
use Rattle.std.proofs.Common.{◌≡◌, Bool, true, false, cond, not, List, [], ◌∷◌, refl, sym, ap, ◌∙◌, subst, ◌⊎◌, inl, inr, ◌↔◌, nat_lt}
use borrow.Author.Tests.{eqb-true, eq-eqb}
use Rattle.std.proofs.lemmas.Bool.{false≢true}
use Rattle.std.specs.List.{Contains}
use Rattle.std.specs.Prelude.{ℕ}
use Rattle.nv_base.specs.declared.object.ObjId.{ObjId}
use Rattle.nv_map.proofs.Members.{here, there, here_or_there, none_in}
use Rattle.nv_table.specs.Table.{has_number, with_record, without_number}

module _ {R : Type 0} (number : R → ObjId) where
  pub with_from : (r : R) (l : List R) (x : R) → Contains (with_record number r l) x → (x ≡ r) ⊎ Contains l x
  with_from r [] x c = by (here_or_there r [] x c)
    where
      by : (r ≡ x) ⊎ Contains [] x → (x ≡ r) ⊎ Contains [] x
      by (inl e) = inl (sym e)
      by (inr d) = inr d
  with_from r (y ∷ l) x c = by (nat_lt (number r).0 (number y).0) c (with_from r l x)
    where
      first : (r ≡ x) ⊎ Contains (y ∷ l) x → (x ≡ r) ⊎ Contains (y ∷ l) x
      first (inl e) = inl (sym e)
      first (inr d) = inr d

      later : (x ≡ r) ⊎ Contains l x → (x ≡ r) ⊎ Contains (y ∷ l) x
      later (inl e) = inl e
      later (inr d) = inr (there y l x d)

      past : (y ≡ x) ⊎ Contains (with_record number r l) x → (Contains (with_record number r l) x → (x ≡ r) ⊎ Contains l x) → (x ≡ r) ⊎ Contains (y ∷ l) x
      past (inl e) rest = inr (subst (λ (z : R). Contains (y ∷ l) z) e (here y l))
      past (inr d) rest = later (rest d)

      by : (b : Bool) → Contains (cond b (r ∷ y ∷ l) (y ∷ with_record number r l)) x → (Contains (with_record number r l) x → (x ≡ r) ⊎ Contains l x) → (x ≡ r) ⊎ Contains (y ∷ l) x
      by true d rest = first (here_or_there r (y ∷ l) x d)
      by false d rest = past (here_or_there y (with_record number r l) x d) rest

  own_there : (r : R) (l : List R) → Contains (with_record number r l) r
  own_there r [] = here r []
  own_there r (y ∷ l) = by (nat_lt (number r).0 (number y).0) (own_there r l)
    where
      by : (b : Bool) → Contains (with_record number r l) r → Contains (cond b (r ∷ y ∷ l) (y ∷ with_record number r l)) r
      by true d = here r (y ∷ l)
      by false d = there y (with_record number r l) r d

  others_there : (r : R) (l : List R) (x : R) → Contains l x → Contains (with_record number r l) x
  others_there r [] x c = absurd (none_in x c)
  others_there r (y ∷ l) x c = by (nat_lt (number r).0 (number y).0) (others_there r l x)
    where
      past : (y ≡ x) ⊎ Contains l x → (Contains l x → Contains (with_record number r l) x) → Contains (y ∷ with_record number r l) x
      past (inl e) rest = subst (λ (z : R). Contains (y ∷ with_record number r l) z) e (here y (with_record number r l))
      past (inr d) rest = there y (with_record number r l) x (rest d)

      by : (b : Bool) → (Contains l x → Contains (with_record number r l) x) → Contains (cond b (r ∷ y ∷ l) (y ∷ with_record number r l)) x
      by true rest = there r (y ∷ l) x c
      by false rest = past (here_or_there y l x c) rest

  -- a record put in
  pub member_with : (r : R) (l : List R) (x : R) → Contains (with_record number r l) x ↔ ((x ≡ r) ⊎ Contains l x)
  member_with r l x = (with_from r l x, back)
    where
      back : (x ≡ r) ⊎ Contains l x → Contains (with_record number r l) x
      back (inl e) = rw e (own_there r l)
      back (inr d) = others_there r l x d

  without_from : (n : ObjId) (l : List R) (x : R) → Contains (without_number number n l) x → Contains l x × (has_number number n x ≡ false)
  without_from n [] x c = absurd (none_in x c)
  without_from n (y ∷ l) x c = by (has_number number n y) refl c (without_from n l x)
    where
      later : Contains l x × (has_number number n x ≡ false) → Contains (y ∷ l) x × (has_number number n x ≡ false)
      later it = (there y l x it.0, it.1)

      past : has_number number n y ≡ false → (y ≡ x) ⊎ Contains (without_number number n l) x → (Contains (without_number number n l) x → Contains l x × (has_number number n x ≡ false)) → Contains (y ∷ l) x × (has_number number n x ≡ false)
      past f (inl e) rest = (subst (λ (z : R). Contains (y ∷ l) z) e (here y l), subst (λ (z : R). has_number number n z ≡ false) e f)
      past f (inr d) rest = later (rest d)

      by : (b : Bool) → has_number number n y ≡ b → Contains (cond (not b) (y ∷ without_number number n l) (without_number number n l)) x → (Contains (without_number number n l) x → Contains l x × (has_number number n x ≡ false)) → Contains (y ∷ l) x × (has_number number n x ≡ false)
      by true f d rest = later (rest d)
      by false f d rest = past f (here_or_there y (without_number number n l) x d) rest

  without_there : (n : ObjId) (l : List R) (x : R) → Contains l x → has_number number n x ≡ false → Contains (without_number number n l) x
  without_there n [] x c f = absurd (none_in x c)
  without_there n (y ∷ l) x c f = by (has_number number n y) refl (here_or_there y l x c) (λ d. without_there n l x d f)
    where
      by : (b : Bool) → has_number number n y ≡ b → (y ≡ x) ⊎ Contains l x → (Contains l x → Contains (without_number number n l) x) → Contains (cond (not b) (y ∷ without_number number n l) (without_number number n l)) x
      by true h (inl e) rest = absurd (false≢true (sym f ∙ ap (has_number number n) (sym e) ∙ h))
      by true h (inr d) rest = rest d
      by false h (inl e) rest = subst (λ (z : R). Contains (y ∷ without_number number n l) z) e (here y (without_number number n l))
      by false h (inr d) rest = there y (without_number number n l) x (rest d)

  -- a record taken out
  pub member_without : (n : ObjId) (l : List R) (x : R) → Contains (without_number number n l) x ↔ (Contains l x × (n ≡ number x → ⊥))
  member_without n l x = (λ c. let it = without_from n l x c in (it.0, λ e. false≢true (sym it.1 ∙ eq-eqb n.0 (number x).0 (ap (λ (m : ObjId). m.0) e))), λ p. without_there n l x p.0 (apart (has_number number n x) refl p.1))
    where
      apart : (b : Bool) → has_number number n x ≡ b → (n ≡ number x → ⊥) → has_number number n x ≡ false
      apart true h p = absurd (p (ap (λ (k : ℕ). let m : ObjId = record { 0 = k } in m) (eqb-true _ _ h)))
      apart false h p = h
