-- Which entries there are: as values at keys, after each change, and after a key.
use Rattle.std.proofs.Common.{◌≡◌, Bool, true, false, cond, List, [], ◌∷◌, arith, refl, sym, ap, ◌∙◌, subst, None, Some, ◌⊎◌, inl, inr, ◌↔◌, ℕ, zero, suc, ◌<◌, slice_index_or}
use Rattle.std.proofs.lemmas.Bool.{false≢true}
use Rattle.std.proofs.lemmas.Cmp.{tied_itself}
use Rattle.std.proofs.lemmas.List.Elements.{Contains-append_right, Contains-append_cases}
use Rattle.std.proofs.lemmas.Map.Lookups.{CmpEqualImpliesEq}
use Rattle.std.specs.Cmp.{IsTotalOrder, Equal-is}
use Rattle.std.specs.List.{AllByRecursion, Contains}
use Rattle.std.specs.Map.{keys_of, lookup_entry}
use Rattle.std.specs.Option.{IsSome}
use Rattle.std.specs.Ordering.{is_eq, is_lt, is_gt}
use Rattle.std.specs.declared.cmp.Ordering.{Ordering}
use Rattle.std.specs.declared.cmp.Ordering.TheVariants.{Less, Equal, Greater}
use Rattle.nv_map.specs.Map.{KeysRise, value_at, with_entry, without_key, with_value, first_entry, entry_after}
use Rattle.nv_map.proofs.Changes.{rise_with_entry, rise_without_key, rise_with_value}
use Rattle.nv_map.proofs.Parted.{pair_of}
use Rattle.nv_map.proofs.Rising.{turned, rise_head, rise_tail}
use Rattle.nv_map.proofs.Values.{value_with_entry, value_without_key, value_with_value}

some_is : {A : Type 0} {a b : A} → Some a ≡ Some b → a ≡ b
some_is e = cc

same_key : {K : Type 0} {cmp : K → K → Ordering} → CmpEqualImpliesEq cmp → (k q : K) → is_eq (cmp k q) ≡ true → k ≡ q
same_key {K} {cmp} exact k q e = exact k q ((Equal-is (cmp k q)).0 e)

-- an element is the first one or one of the others
pub here : {X : Type 0} (x : X) (l : List X) → Contains (x ∷ l) x
here x l = (0, omega arith, refl)

pub there : {X : Type 0} (x : X) (l : List X) (y : X) → Contains l y → Contains (x ∷ l) y
there x l y c = Contains-append_right (x ∷ []) l y c

pub none_in : {X : Type 0} (y : X) → Contains [] y → ⊥
none_in y c = omega (arith, c.1)

alone : {X : Type 0} (x y : X) (k : ℕ) → k < 1 → slice_index_or (x ∷ []) k y ≡ y → x ≡ y
alone x y zero b e = e
alone x y (suc k) b e = absurd (omega arith)

pub here_or_there : {X : Type 0} (x : X) (l : List X) (y : X) → Contains (x ∷ l) y → (x ≡ y) ⊎ Contains l y
here_or_there x l y c = elim (Contains-append_cases (x ∷ []) l y c) [ inl d ↦ inl (alone x y d.0 d.1 d.2) | inr d ↦ inr d ]

-- what holds of each key holds of that of an entry
pub all_in : {K V : Type 0} (P : K → Type 0) (l : List (K × V)) (e : K × V) → AllByRecursion P (keys_of l) → Contains l e → P e.0
all_in P [] e a c = absurd (none_in e c)
all_in P (x ∷ l) e a c = by (here_or_there x l e c) (all_in P l e a.1)
  where
    by : (x ≡ e) ⊎ Contains l e → (Contains l e → P e.0) → P e.0
    by (inl d) rest = rw (sym d) a.0
    by (inr d) rest = rest d

module _ {K V : Type 0} {cmp : K → K → Ordering} (o : IsTotalOrder cmp) where
  -- an entry is there exactly where its value is at its key
  pub member_value : (l : List (K × V)) (e : K × V) → KeysRise cmp l → Contains l e → value_at cmp e.0 l ≡ Some e.1
  member_value [] e r c = absurd (none_in e c)
  member_value (x ∷ l) e r c = by (here_or_there x l e c) (member_value l e (rise_tail cmp x l r))
    where
      by : (x ≡ e) ⊎ Contains l e → (Contains l e → value_at cmp e.0 l ≡ Some e.1) → value_at cmp e.0 (x ∷ l) ≡ Some e.1
      by (inl d) rest = subst (λ (y : K × V). value_at cmp y.0 (x ∷ l) ≡ Some y.1) d (ap (λ q. cond (is_eq q) (Some x.1) (value_at cmp x.0 l)) (tied_itself o x.0))
      by (inr d) rest =
          let past : cmp e.0 x.0 ≡ Greater = turned o x.0 e.0 (all_in (λ y. cmp x.0 y ≡ Less) l e (rise_head cmp x l r) d) in
          ap (λ q. cond (is_eq q) (Some x.1) (value_at cmp e.0 l)) past ∙ rest d

  module _ (exact : CmpEqualImpliesEq cmp) where
    pub value_member : (l : List (K × V)) (k : K) (v : V) → value_at cmp k l ≡ Some v → Contains l (k, v)
    value_member [] k v e = absurd (cc)
    value_member (x ∷ l) k v e = by (cmp k x.0) refl e (value_member l k v)
      where
        later : (value_at cmp k l ≡ Some v → Contains l (k, v)) → value_at cmp k l ≡ Some v → Contains (x ∷ l) (k, v)
        later rest f = there x l (k, v) (rest f)

        by : (q : Ordering) → cmp k x.0 ≡ q → cond (is_eq q) (Some x.1) (value_at cmp k l) ≡ Some v → (value_at cmp k l ≡ Some v → Contains l (k, v)) → Contains (x ∷ l) (k, v)
        by Less c f rest = there x l (k, v) (rest f)
        by Equal c f rest = subst (λ (y : K × V). Contains (x ∷ l) y) (pair_of (sym (exact k x.0 c)) (some_is f)) (here x l)
        by Greater c f rest = there x l (k, v) (rest f)

    member_by : (l : List (K × V)) (e : K × V) → value_at cmp e.0 l ≡ Some e.1 → Contains l e
    member_by l e f = value_member l e.0 e.1 f

    -- an entry put in
    pub member_with_entry : (e : K × V) (l : List (K × V)) (x : K × V) → KeysRise cmp l → value_at cmp e.0 l ≡ None → Contains (with_entry cmp e l) x ↔ ((x ≡ e) ⊎ Contains l x)
    member_with_entry e l x r n = (λ c. from (is_eq (cmp e.0 x.0)) refl (sym (value_with_entry o x.0 e l) ∙ member_value (with_entry cmp e l) x (rise_with_entry o e l r) c), back)
      where
        from : (b : Bool) → is_eq (cmp e.0 x.0) ≡ b → cond b (Some e.1) (value_at cmp x.0 l) ≡ Some x.1 → (x ≡ e) ⊎ Contains l x
        from true c f = inl (pair_of (sym (same_key exact e.0 x.0 c)) (sym (some_is f)))
        from false c f = inr (member_by l x f)

        kept : (b : Bool) → is_eq (cmp e.0 x.0) ≡ b → value_at cmp x.0 l ≡ Some x.1 → cond b (Some e.1) (value_at cmp x.0 l) ≡ Some x.1
        kept true c f = let same = ap (λ k. value_at cmp k l) (same_key exact e.0 x.0 c) in absurd (cc)
        kept false c f = f

        back : (x ≡ e) ⊎ Contains l x → Contains (with_entry cmp e l) x
        back (inl d) = rw d (member_by (with_entry cmp e l) e (value_with_entry o e.0 e l ∙ ap (λ q. cond (is_eq q) (Some e.1) (value_at cmp e.0 l)) (tied_itself o e.0)))
        back (inr d) = member_by (with_entry cmp e l) x (value_with_entry o x.0 e l ∙ kept (is_eq (cmp e.0 x.0)) refl (member_value l x r d))

    -- the entry of a key taken out
    pub member_without_key : (k : K) (l : List (K × V)) (x : K × V) → KeysRise cmp l → Contains (without_key cmp k l) x ↔ (Contains l x × (x.0 ≡ k → ⊥))
    member_without_key k l x r = (λ c. from (is_eq (cmp k x.0)) refl (sym (value_without_key o x.0 k l r) ∙ member_value (without_key cmp k l) x (rise_without_key cmp k l r) c), λ p. member_by (without_key cmp k l) x (value_without_key o x.0 k l r ∙ back (is_eq (cmp k x.0)) refl (member_value l x r p.0) p.1))
      where
        from : (b : Bool) → is_eq (cmp k x.0) ≡ b → cond b None (value_at cmp x.0 l) ≡ Some x.1 → Contains l x × (x.0 ≡ k → ⊥)
        from true c f = absurd (cc)
        from false c f = (member_by l x f, λ same. false≢true (sym c ∙ ap (λ q. is_eq (cmp k q)) same ∙ ap is_eq (tied_itself o k)))

        back : (b : Bool) → is_eq (cmp k x.0) ≡ b → value_at cmp x.0 l ≡ Some x.1 → (x.0 ≡ k → ⊥) → cond b None (value_at cmp x.0 l) ≡ Some x.1
        back true c f apart = absurd (apart (sym (same_key exact k x.0 c)))
        back false c f apart = f

    -- another value at a key
    pub member_with_value : (k : K) (v : V) (l : List (K × V)) (x : K × V) → KeysRise cmp l → IsSome (value_at cmp k l) → Contains (with_value cmp k v l) x ↔ ((x ≡ (k, v)) ⊎ (Contains l x × (x.0 ≡ k → ⊥)))
    member_with_value k v l x r some = (λ c. from (is_eq (cmp k x.0)) refl (sym (value_with_value o x.0 k v l some) ∙ member_value (with_value cmp k v l) x (rise_with_value cmp k v l r) c), back)
      where
        from : (b : Bool) → is_eq (cmp k x.0) ≡ b → cond b (Some v) (value_at cmp x.0 l) ≡ Some x.1 → (x ≡ (k, v)) ⊎ (Contains l x × (x.0 ≡ k → ⊥))
        from true c f = inl (pair_of (sym (same_key exact k x.0 c)) (sym (some_is f)))
        from false c f = inr (member_by l x f, λ same. false≢true (sym c ∙ ap (λ q. is_eq (cmp k q)) same ∙ ap is_eq (tied_itself o k)))

        kept : (b : Bool) → is_eq (cmp k x.0) ≡ b → value_at cmp x.0 l ≡ Some x.1 → (x.0 ≡ k → ⊥) → cond b (Some v) (value_at cmp x.0 l) ≡ Some x.1
        kept true c f apart = absurd (apart (sym (same_key exact k x.0 c)))
        kept false c f apart = f

        back : (x ≡ (k, v)) ⊎ (Contains l x × (x.0 ≡ k → ⊥)) → Contains (with_value cmp k v l) x
        back (inl d) = rw d (value_member (with_value cmp k v l) k v (value_with_value o k k v l some ∙ ap (λ q. cond (is_eq q) (Some v) (value_at cmp k l)) (tied_itself o k)))
        back (inr d) = member_by (with_value cmp k v l) x (value_with_value o x.0 k v l some ∙ kept (is_eq (cmp k x.0)) refl (member_value l x r d.0) d.1)

-- The entry found is there and passes; no key in front of it passes, and where none is found no key passes at all.
pub found : {K V : Type 0} (test : K → Bool) (l : List (K × V)) (e : K × V) → lookup_entry test l ≡ Some e → Contains l e × (test e.0 ≡ true)
found test [] e f = absurd (cc)
found {K} {V} test (x ∷ l) e f = by (test x.0) refl f (found test l e)
  where
    by : (b : Bool) → test x.0 ≡ b → cond b (Some x) (lookup_entry test l) ≡ Some e → (lookup_entry test l ≡ Some e → Contains l e × (test e.0 ≡ true)) → Contains (x ∷ l) e × (test e.0 ≡ true)
    by true t g rest = let same = some_is g in (rw (sym same) (here x l), rw (sym same) t)
    by false t g rest = let later = rest g in (there x l e later.0, later.1)

pub none_found : {K V : Type 0} (test : K → Bool) (l : List (K × V)) (y : K × V) → lookup_entry test l ≡ None → Contains l y → test y.0 ≡ false
none_found test [] y f c = absurd (none_in y c)
none_found {K} {V} test (x ∷ l) y f c = by (test x.0) refl f (here_or_there x l y c) (none_found test l y)
  where
    by : (b : Bool) → test x.0 ≡ b → cond b (Some x) (lookup_entry test l) ≡ None → (x ≡ y) ⊎ Contains l y → (lookup_entry test l ≡ None → Contains l y → test y.0 ≡ false) → test y.0 ≡ false
    by true t g d rest = absurd (cc)
    by false t g (inl d) rest = rw (sym d) t
    by false t g (inr d) rest = rest g d

module _ {K V : Type 0} {cmp : K → K → Ordering} (o : IsTotalOrder cmp) where
  pub least_by : (test : K → Bool) (l : List (K × V)) (e y : K × V) → KeysRise cmp l → lookup_entry test l ≡ Some e → Contains l y → test y.0 ≡ true → is_gt (cmp e.0 y.0) ≡ false
  least_by test [] e y r f c t = absurd (none_in y c)
  least_by test (x ∷ l) e y r f c t = by (test x.0) refl f (here_or_there x l y c) (least_by test l e y (rise_tail cmp x l r))
    where
      by : (b : Bool) → test x.0 ≡ b → cond b (Some x) (lookup_entry test l) ≡ Some e → (x ≡ y) ⊎ Contains l y
          → (lookup_entry test l ≡ Some e → Contains l y → test y.0 ≡ true → is_gt (cmp e.0 y.0) ≡ false) → is_gt (cmp e.0 y.0) ≡ false
      by true s g (inl d) rest = rw (sym (some_is g)) (rw (sym d) (ap is_gt (tied_itself o x.0)))
      by true s g (inr d) rest = rw (sym (some_is g)) (ap is_gt (all_in (λ k. cmp x.0 k ≡ Less) l y (rise_head cmp x l r) d))
      by false s g (inl d) rest = absurd (false≢true (sym s ∙ ap (λ (p : K × V). test p.0) d ∙ t))
      by false s g (inr d) rest = rest g d t

  -- The entry after a key is there, is above it, and none that is above it is below that one.
  pub after_is : (k : K) (l : List (K × V)) (e : K × V) → KeysRise cmp l → entry_after cmp (Some k) l ≡ Some e
      → Contains l e × (is_lt (cmp k e.0) ≡ true) × ((y : K × V) → Contains l y → is_lt (cmp k y.0) ≡ true → is_gt (cmp e.0 y.0) ≡ false)
  after_is k l e r f =
      let it = found (λ q. is_lt (cmp k q)) l e f in
      (it.0, it.1, λ y c t. least_by (λ q. is_lt (cmp k q)) l e y r f c t)

  pub none_is_after : (k : K) (l : List (K × V)) (y : K × V) → entry_after cmp (Some k) l ≡ None → Contains l y → is_lt (cmp k y.0) ≡ false
  none_is_after k l y f c = none_found (λ q. is_lt (cmp k q)) l y f c

  -- The first entry is there, and none is below it.
  pub first_is : (l : List (K × V)) (e : K × V) → KeysRise cmp l → first_entry l ≡ Some e → Contains l e × ((y : K × V) → Contains l y → is_gt (cmp e.0 y.0) ≡ false)
  first_is [] e r f = absurd (cc)
  first_is (x ∷ l) e r f = let same = some_is f in (rw (sym same) (here x l), λ y c. rw (sym same) (by y (here_or_there x l y c)))
    where
      by : (y : K × V) → (x ≡ y) ⊎ Contains l y → is_gt (cmp x.0 y.0) ≡ false
      by y (inl d) = rw (sym d) (ap is_gt (tied_itself o x.0))
      by y (inr d) = ap is_gt (all_in (λ k. cmp x.0 k ≡ Less) l y (rise_head cmp x l r) d)
