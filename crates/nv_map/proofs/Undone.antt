-- What undoes a change: an entry that was taken is put back, one that was put is taken, a value is exchanged back.
use Rattle.std.proofs.Common.{◌≡◌, Bool, true, false, cond, List, [], ◌∷◌, refl, sym, ap, ◌∙◌, None, Some}
use Rattle.std.proofs.lemmas.Cmp.{tied_itself}
use Rattle.std.specs.Cmp.{IsTotalOrder}
use Rattle.std.specs.List.{AllByRecursion}
use Rattle.std.specs.Map.{keys_of, lookup_entry}
use Rattle.std.specs.Ordering.{is_eq, match_ordering}
use Rattle.std.specs.declared.cmp.Ordering.{Ordering}
use Rattle.std.specs.declared.cmp.Ordering.TheVariants.{Less, Equal, Greater}
use Rattle.nv_map.specs.Map.{KeysRise, value_at, entry_at, with_entry, without_key, with_value}
use Rattle.nv_map.proofs.Rising.{Below, turned, rise_head, rise_tail}

some_is : {A : Type 0} {a b : A} → Some a ≡ Some b → a ≡ b
some_is e = cc

-- what holds of each key holds of that of an entry that is found
pub all_found : {K V : Type 0} (P : K → Type 0) (test : K → Bool) (l : List (K × V)) (e : K × V) → AllByRecursion P (keys_of l) → lookup_entry test l ≡ Some e → P e.0
all_found P test [] e a f = absurd (cc)
all_found {K} {V} P test (x ∷ l) e a f = by (test x.0) f (all_found P test l e a.1)
  where
    by : (b : Bool) → cond b (Some x) (lookup_entry test l) ≡ Some e → (lookup_entry test l ≡ Some e → P e.0) → P e.0
    by true g rest = rw (sym (some_is g)) a.0
    by false g rest = rest g

module _ {K V : Type 0} {cmp : K → K → Ordering} (o : IsTotalOrder cmp) where
  put_first : (x : K × V) (l : List (K × V)) → Below cmp x.0 l → with_entry cmp x l ≡ x ∷ l
  put_first x [] b = refl
  put_first x (y ∷ l) b = ap (λ q. match_ordering q (x ∷ y ∷ l) ((y.0, x.1) ∷ l) (y ∷ with_entry cmp x l)) b.0

  put_after : (x e : K × V) (l : List (K × V)) → cmp x.0 e.0 ≡ Less → with_entry cmp e (x ∷ l) ≡ x ∷ with_entry cmp e l
  put_after x e l less = ap (λ q. match_ordering q (e ∷ x ∷ l) ((x.0, e.1) ∷ l) (x ∷ with_entry cmp e l)) (turned o x.0 e.0 less)

  pub taken_put_back : (k : K) (e : K × V) (l : List (K × V)) → KeysRise cmp l → entry_at cmp k l ≡ Some e → with_entry cmp e (without_key cmp k l) ≡ l
  taken_put_back k e [] r f = absurd (cc)
  taken_put_back k e (x ∷ l) r f = by (is_eq (cmp k x.0)) f (taken_put_back k e l (rise_tail cmp x l r))
    where
      by : (b : Bool) → cond b (Some x) (entry_at cmp k l) ≡ Some e → (entry_at cmp k l ≡ Some e → with_entry cmp e (without_key cmp k l) ≡ l) → with_entry cmp e (cond b l (x ∷ without_key cmp k l)) ≡ x ∷ l
      by true g rest = ap (λ y. with_entry cmp y l) (sym (some_is g)) ∙ put_first x l (rise_head cmp x l r)
      by false g rest =
          put_after x e (without_key cmp k l) (all_found (λ y. cmp x.0 y ≡ Less) (λ y. is_eq (cmp k y)) l e (rise_head cmp x l r) g)
          ∙ ap (λ m. x ∷ m) (rest g)

  pub put_taken_back : (e : K × V) (l : List (K × V)) → value_at cmp e.0 l ≡ None → without_key cmp e.0 (with_entry cmp e l) ≡ l
  put_taken_back e [] n = ap (λ q. cond (is_eq q) [] (e ∷ [])) (tied_itself o e.0)
  put_taken_back e (x ∷ l) n = by (cmp e.0 x.0) refl n (put_taken_back e l)
    where
      by : (q : Ordering) → cmp e.0 x.0 ≡ q → cond (is_eq q) (Some x.1) (value_at cmp e.0 l) ≡ None → (value_at cmp e.0 l ≡ None → without_key cmp e.0 (with_entry cmp e l) ≡ l) → without_key cmp e.0 (match_ordering q (e ∷ x ∷ l) ((x.0, e.1) ∷ l) (x ∷ with_entry cmp e l)) ≡ x ∷ l
      by Less c m rest = ap (λ q. cond (is_eq q) (x ∷ l) (e ∷ without_key cmp e.0 (x ∷ l))) (tied_itself o e.0)
      by Equal c m rest = absurd (cc)
      by Greater c m rest = ap (λ q. cond (is_eq q) (with_entry cmp e l) (x ∷ without_key cmp e.0 (with_entry cmp e l))) c ∙ ap (λ t. x ∷ t) (rest m)

  -- and it is that entry
  pub put_is_taken : (e : K × V) (l : List (K × V)) → value_at cmp e.0 l ≡ None → entry_at cmp e.0 (with_entry cmp e l) ≡ Some e
  put_is_taken e [] n = ap (λ q. cond (is_eq q) (Some e) None) (tied_itself o e.0)
  put_is_taken e (x ∷ l) n = by (cmp e.0 x.0) refl n (put_is_taken e l)
    where
      by : (q : Ordering) → cmp e.0 x.0 ≡ q → cond (is_eq q) (Some x.1) (value_at cmp e.0 l) ≡ None → (value_at cmp e.0 l ≡ None → entry_at cmp e.0 (with_entry cmp e l) ≡ Some e) → entry_at cmp e.0 (match_ordering q (e ∷ x ∷ l) ((x.0, e.1) ∷ l) (x ∷ with_entry cmp e l)) ≡ Some e
      by Less c m rest = ap (λ q. cond (is_eq q) (Some e) (entry_at cmp e.0 (x ∷ l))) (tied_itself o e.0)
      by Equal c m rest = absurd (cc)
      by Greater c m rest = ap (λ q. cond (is_eq q) (Some x) (entry_at cmp e.0 (with_entry cmp e l))) c ∙ rest m

  pub exchanged_back : (k : K) (v w : V) (l : List (K × V)) → value_at cmp k l ≡ Some w → with_value cmp k w (with_value cmp k v l) ≡ l
  exchanged_back k v w [] f = absurd (cc)
  exchanged_back k v w (x ∷ l) f = by (is_eq (cmp k x.0)) refl f (exchanged_back k v w l)
    where
      by : (b : Bool) → is_eq (cmp k x.0) ≡ b → cond b (Some x.1) (value_at cmp k l) ≡ Some w → (value_at cmp k l ≡ Some w → with_value cmp k w (with_value cmp k v l) ≡ l) → with_value cmp k w (cond b ((x.0, v) ∷ l) (x ∷ with_value cmp k v l)) ≡ x ∷ l
      by true e g rest = ap (λ b. cond b ((x.0, w) ∷ l) ((x.0, v) ∷ with_value cmp k w l)) e ∙ ap (λ y. (x.0, y) ∷ l) (sym (some_is g))
      by false e g rest = ap (λ b. cond b ((x.0, w) ∷ with_value cmp k v l) (x ∷ with_value cmp k w (with_value cmp k v l))) e ∙ ap (λ m. x ∷ m) (rest g)
