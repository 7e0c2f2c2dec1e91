-- The first record that passes a test.
use Rattle.std.proofs.Common.{◌≡◌, ◌≤◌, ◌<◌, Bool, true, false, cond, List, [], ◌∷◌, arith, refl, sym, ap, ◌∙◌, subst, None, Some, find, ◌⊎◌, inl, inr}
use borrow.Author.Tests.{eqb-true, eq-eqb}
use Rattle.std.proofs.lemmas.Bool.{false≢true}
use Rattle.std.specs.List.{Contains}
use Rattle.nv_base.specs.declared.object.ObjId.{ObjId}
use Rattle.nv_map.proofs.Members.{here, there, here_or_there, none_in}
use Rattle.nv_table.specs.Table.{NumbersRise, has_number, record_of}
use Rattle.nv_table.proofs.Tagged.{all_there, find_least}

pub found_there : {X : Type 0} (p : X → Bool) (r : X) (l : List X) → find p l ≡ Some r → Contains l r × (p r ≡ true)
found_there p r [] f = absurd (cc)
found_there {X} p r (y ∷ l) f = by (p y) refl f (found_there p r l)
  where
    later : Contains l r × (p r ≡ true) → Contains (y ∷ l) r × (p r ≡ true)
    later it = (there y l r it.0, it.1)

    by : (b : Bool) → p y ≡ b → cond b (Some y) (find p l) ≡ Some r → (find p l ≡ Some r → Contains l r × (p r ≡ true)) → Contains (y ∷ l) r × (p r ≡ true)
    by true t g rest = let same : y ≡ r = cc in (subst (λ (z : X). Contains (y ∷ l) z) same (here y l), ap p (sym same) ∙ t)
    by false t g rest = later (rest g)

pub none_passes : {X : Type 0} (p : X → Bool) (x : X) (l : List X) → find p l ≡ None → Contains l x → p x ≡ false
none_passes p x [] f c = absurd (none_in x c)
none_passes p x (y ∷ l) f c = by (p y) refl f (here_or_there y l x c) (none_passes p x l)
  where
    by : (b : Bool) → p y ≡ b → cond b (Some y) (find p l) ≡ None → (y ≡ x) ⊎ Contains l x → (find p l ≡ None → Contains l x → p x ≡ false) → p x ≡ false
    by true t g d rest = absurd (cc)
    by false t g (inl e) rest = ap p (sym e) ∙ t
    by false t g (inr d) rest = rest g d

module _ {R : Type 0} (number : R → ObjId) where
  pub found_least : (p : R → Bool) (r x : R) (l : List R) → NumbersRise number l → find p l ≡ Some r → Contains l x → p x ≡ true → (number r).0 ≤ (number x).0
  found_least p r x [] rise f c t = absurd (none_in x c)
  found_least p r x (y ∷ l) rise f c t = by (p y) refl f (here_or_there y l x c) (found_least p r x l rise.1)
    where
      by : (b : Bool) → p y ≡ b → cond b (Some y) (find p l) ≡ Some r → (y ≡ x) ⊎ Contains l x → (find p l ≡ Some r → Contains l x → p x ≡ true → (number r).0 ≤ (number x).0) → (number r).0 ≤ (number x).0
      by true s g (inl e) rest = let same : y ≡ r = cc in subst (λ (z : R). (number z).0 ≤ (number x).0) same (subst (λ (z : R). (number y).0 ≤ (number z).0) e (omega arith))
      by true s g (inr d) rest =
          let same : y ≡ r = cc in
          let above : (number y).0 < (number x).0 = all_there number (λ z. (number y).0 < (number z).0) l x rise.0 d in
          subst (λ (z : R). (number z).0 ≤ (number x).0) same (omega (arith, above))
      by false s g (inl e) rest = absurd (false≢true (sym s ∙ ap p e ∙ t))
      by false s g (inr d) rest = rest g d t

  pub own_record : (r : R) (l : List R) → NumbersRise number l → Contains l r → record_of number (number r) l ≡ Some r
  own_record r l rise c = find_least number (has_number number (number r)) l r rise c (eq-eqb _ _ refl) (λ x d t. let same = eqb-true _ _ t in omega (arith, same))
