-- Which marks there are after one is put or taken.
use Rattle.std.proofs.Common.{◌≡◌, ℕ, suc, zero, ◌+◌, ◌<◌, ◌==◌, Bool, true, false, cond, not, ◌&&◌, ◌||◌, List, [], ◌∷◌, ◌++◌, length, take, refl, sym, ap, ◌∙◌, subst, arith, None, Some, Option, slice_get, take_all, add-one}
use Rattle.std.proofs.lemmas.Bool.{false≢true, true≢false}
use Rattle.std.proofs.lemmas.Cmp.{eq_by_cmp_equiv, nat_cmp_total}
use Rattle.std.proofs.lemmas.List.Folds.{list_any-append}
use Rattle.std.proofs.lemmas.Map.Lookups.{CmpEqualImpliesEq, exact_unsigned}
use Rattle.std.specs.Cmp.{IsTotalOrder, Equal-is, unsigned_tied}
use Rattle.std.specs.List.{list_any}
use Rattle.std.specs.Map.{lookup_entry, remove_entry}
use Rattle.std.specs.Option.{is_some, option_map, IsSome}
use Rattle.std.specs.Ordering.{is_eq, ordering_then}
use Rattle.std.specs.declared.cmp.Ordering.{Ordering}
use Rattle.std.specs.declared.cmp.Ordering.TheVariants.{Less, Equal, Greater}
use Rattle.nv_base.specs.declared.object.ObjId.{ObjId}
use Rattle.nv_map.specs.Map.{KeysRise, value_at, entry_at, with_entry, without_key, entry_by, without_by}
use Rattle.nv_map.proofs.Values.{value_with_entry, value_without_key, value_of_entry}
use Rattle.nv_table.specs.inner.Index.{Mark, mark_cmp, number_cmp, has_mark, HasMarks, AreApart, IsLeft, IsMoved}
use Rattle.nv_table.specs.inner.Probes.{own_order, mark_total}

gone : {A : Type 0} (b : Bool) (v : Option A) → is_some (cond b None v) ≡ (is_some v && not b)
gone true None = refl
gone true (Some a) = refl
gone false None = refl
gone false (Some a) = refl

come : {A : Type 0} (b : Bool) (x : A) (v : Option A) → is_some (cond b (Some x) v) ≡ (b || is_some v)
come true x v = refl
come false x v = refl

-- What is not some value is none.
pub none_at : {A : Type 0} (v : Option A) → ((a : A) → v ≡ Some a → ⊥) → v ≡ None
none_at None h = refl
none_at (Some a) h = absurd (h a refl)

-- Marks that compare as equal are one mark, where tags that do are one tag.
pub exact_marks : {T : Type 0} {cmp : T → T → Ordering} → CmpEqualImpliesEq cmp → CmpEqualImpliesEq (mark_cmp cmp)
exact_marks {T} {cmp} exact a b = by (cmp a.0 b.0) refl
  where
    by : (r : Ordering) → cmp a.0 b.0 ≡ r → ordering_then r (number_cmp a.1 b.1) ≡ Equal → a ≡ b
    by Less c e = absurd (cc)
    by Greater c e = absurd (cc)
    by Equal c e = ap (λ (t : T). (t, a.1)) (exact a.0 b.0 c) ∙ ap (λ (n : ObjId). (b.0, n)) (ap (λ (n : ℕ). record { 0 = n }) (exact_unsigned a.1.0 b.1.0 e))

module _ {T : Type 0} {cmp : T → T → Ordering} (total : IsTotalOrder cmp) (exact : CmpEqualImpliesEq (mark_cmp cmp)) where
  tied : (k q : Mark T) → is_eq (mark_cmp cmp k q) ≡ true → k ≡ q
  tied k q e = exact k q ((Equal-is (mark_cmp cmp k q)).0 e)

  -- a mark put in
  pub has_with : (q k : Mark T) (l : List (Mark T × Unit {0})) → has_mark cmp q (with_entry (mark_cmp cmp) (k, tt) l) ≡ (is_eq (mark_cmp cmp k q) || has_mark cmp q l)
  has_with q k l = ap is_some (value_with_entry (mark_total total) q (k, tt) l) ∙ come (is_eq (mark_cmp cmp k q)) tt (value_at (mark_cmp cmp) q l)

  -- a mark taken out
  pub has_without : (q k : Mark T) (l : List (Mark T × Unit {0})) → KeysRise (mark_cmp cmp) l → has_mark cmp q (without_key (mark_cmp cmp) k l) ≡ (has_mark cmp q l && not (is_eq (mark_cmp cmp k q)))
  has_without q k l r = ap is_some (value_without_key (mark_total total) q k l r) ∙ gone (is_eq (mark_cmp cmp k q)) (value_at (mark_cmp cmp) q l)

  -- the entry taken is that of the mark
  entry_key : (k : Mark T) (e : Mark T × Unit {0}) (l : List (Mark T × Unit {0})) → entry_at (mark_cmp cmp) k l ≡ Some e → (k ≡ e.0) × (has_mark cmp k l ≡ true)
  entry_key k e [] f = absurd (cc)
  entry_key k e (x ∷ l) f = by (is_eq (mark_cmp cmp k x.0)) refl f (entry_key k e l)
    where
      by : (b : Bool) → is_eq (mark_cmp cmp k x.0) ≡ b → cond b (Some x) (entry_at (mark_cmp cmp) k l) ≡ Some e → (entry_at (mark_cmp cmp) k l ≡ Some e → (k ≡ e.0) × (has_mark cmp k l ≡ true)) → (k ≡ e.0) × (has_mark cmp k (x ∷ l) ≡ true)
      by true t g rest = let same : x ≡ e = cc in (tied k x.0 t ∙ ap (λ (y : Mark T × Unit {0}). y.0) same, ap (λ b. is_some (cond b (Some x.1) (value_at (mark_cmp cmp) k l))) t)
      by false t g rest = let it = rest g in (it.0, ap (λ b. is_some (cond b (Some x.1) (value_at (mark_cmp cmp) k l))) t ∙ it.1)

  no_entry_key : (k : Mark T) (l : List (Mark T × Unit {0})) → entry_at (mark_cmp cmp) k l ≡ None → has_mark cmp k l ≡ false
  no_entry_key k l f = ap is_some (value_of_entry (mark_cmp cmp) k l) ∙ ap (λ e. is_some (option_map (λ (y : Mark T × Unit {0}). y.1) e)) f

  past_none : (l : List (Mark T × Unit {0})) → remove_entry (λ (q : Mark T). false) l ≡ l
  past_none [] = refl
  past_none (x ∷ l) = ap (λ m. x ∷ m) (past_none l)

  none_there : (l : List (Mark T × Unit {0})) → lookup_entry (λ (q : Mark T). false) l ≡ None
  none_there [] = refl
  none_there (x ∷ l) = none_there l

  as_before : (b : Bool) → b ≡ (b && true)
  as_before true = refl
  as_before false = refl

  nothing_came : (a b : Bool) → a ≡ (a || (b && false))
  nothing_came true b = refl
  nothing_came false true = refl
  nothing_came false false = refl

  pub own_left : (tag : Option T) (n : ObjId) (l : List (Mark T × Unit {0})) → KeysRise (mark_cmp cmp) l → IsLeft cmp (λ mark. is_eq (own_order cmp tag n mark)) l (without_by (own_order cmp tag n) l)
  own_left None n l r mark = ap (has_mark cmp mark) (past_none l) ∙ as_before (has_mark cmp mark l)
  own_left (Some tag) n l r mark = has_without mark (tag, n) l r

  pub own_apart : (tag : Option T) (n : ObjId) (e : Mark T × Unit {0}) (from to : List (Mark T × Unit {0})) → entry_by (own_order cmp tag n) from ≡ Some e → AreApart cmp from to → value_at (mark_cmp cmp) e.0 to ≡ None
  own_apart None n e from to f apart = let none = none_there from in absurd (cc)
  own_apart (Some tag) n e from to f apart =
      let it = entry_key (tag, n) e from f in
      none_at (value_at (mark_cmp cmp) e.0 to) (subst (λ (k : Mark T). has_mark cmp k to ≡ false) it.0 (apart (tag, n) it.1))
    where
      none_at : (v : Option (Unit {0})) → is_some v ≡ false → v ≡ None
      none_at None h = refl
      none_at (Some u) h = absurd (true≢false h)

  pub own_moved : (tag : Option T) (n : ObjId) (e : Mark T × Unit {0}) (from to : List (Mark T × Unit {0})) → entry_by (own_order cmp tag n) from ≡ Some e → IsMoved cmp (λ mark. is_eq (own_order cmp tag n mark)) from to (with_entry (mark_cmp cmp) e to)
  own_moved None n e from to f mark = let none = none_there from in absurd (cc)
  own_moved (Some tag) n e from to f mark =
      let it = entry_key (tag, n) e from f in
      has_with mark e.0 to
      ∙ ap (λ (k : Mark T). is_eq (mark_cmp cmp k mark) || has_mark cmp mark to) (sym it.0)
      ∙ turn (is_eq (mark_cmp cmp (tag, n) mark)) (has_mark cmp mark to) (has_mark cmp mark from) (λ same. ap (λ (k : Mark T). has_mark cmp k from) (sym (tied (tag, n) mark same)) ∙ it.1)
    where
      turn : (b t f : Bool) → (b ≡ true → f ≡ true) → (b || t) ≡ (t || (f && b))
      turn true true f there = refl
      turn true false f there = rw (there refl) refl
      turn false true f there = refl
      turn false false true there = refl
      turn false false false there = refl

  pub own_stays : (tag : Option T) (n : ObjId) (from to : List (Mark T × Unit {0})) → entry_by (own_order cmp tag n) from ≡ None → IsMoved cmp (λ mark. is_eq (own_order cmp tag n mark)) from to to
  own_stays None n from to f mark = nothing_came (has_mark cmp mark to) (has_mark cmp mark from)
  own_stays (Some tag) n from to f mark =
      turn (is_eq (mark_cmp cmp (tag, n) mark)) (has_mark cmp mark to) (has_mark cmp mark from) (λ same. ap (λ (k : Mark T). has_mark cmp k from) (sym (tied (tag, n) mark same)) ∙ no_entry_key (tag, n) from f)
    where
      turn : (b t f : Bool) → (b ≡ true → f ≡ false) → t ≡ (t || (f && b))
      turn b true f there = refl
      turn true false f there = rw (there refl) refl
      turn false false true there = refl
      turn false false false there = refl

any_more : {X : Type 0} (p : X → Bool) (xs : List X) (i : ℕ) (x : X) → slice_get xs i ≡ Some x → list_any p (take (suc i) xs) ≡ (list_any p (take i xs) || p x)
any_more p [] i x e = absurd (cc)
any_more {X} p (y ∷ xs) zero x e = let same : y ≡ x = cc in ap (λ z. p z || false) same ∙ or_false (p x)
  where
    or_false : (b : Bool) → (b || false) ≡ b
    or_false true = refl
    or_false false = refl
any_more p (y ∷ xs) (suc i) x e = ap (λ b. p y || b) (any_more p xs i x e) ∙ over (p y) (list_any p (take i xs)) (p x)
  where
    over : (a b c : Bool) → (a || (b || c)) ≡ ((a || b) || c)
    over true b c = refl
    over false b c = refl

there_at : {X : Type 0} (xs : List X) (i : ℕ) → i < length xs → (x : X) × (slice_get xs i ≡ Some x)
there_at [] i h = absurd (omega arith)
there_at (x ∷ xs) zero h = (x, refl)
there_at (x ∷ xs) (suc i) h = there_at xs i (omega arith)

-- whether it is a mark of this number, by the first of these tags
abbrev pub early_mark : {T : Type 0} → (T → T → Ordering) → List T → ObjId → ℕ → Mark T → Bool
early_mark cmp tags n i mark = (mark.1.0 == n.0) && list_any (λ tag. is_eq (cmp mark.0 tag)) (take i tags)

-- The marks of a record by the first of its tags.
module _ {T : Type 0} {cmp : T → T → Ordering} (total : IsTotalOrder cmp) (tags : List T) (n : ObjId) where
  own_is : (tag : T) (mark : Mark T) → is_eq (own_order cmp (Some tag) n mark) ≡ (is_eq (cmp mark.0 tag) && (mark.1.0 == n.0))
  own_is tag mark = both (cmp tag mark.0) ∙ ap (λ b. b && is_eq (number_cmp n mark.1)) ((eq_by_cmp_equiv total).symm tag mark.0) ∙ ap (λ b. is_eq (cmp mark.0 tag) && b) ((eq_by_cmp_equiv nat_cmp_total).symm n.0 mark.1.0 ∙ unsigned_tied mark.1.0 n.0)
    where
      both : (r : Ordering) → is_eq (ordering_then r (number_cmp n mark.1)) ≡ (is_eq r && is_eq (number_cmp n mark.1))
      both Less = refl
      both Equal = refl
      both Greater = refl

  -- none is left or moved at first
  pub left_first : (l : List (Mark T × Unit {0})) → IsLeft cmp (early_mark cmp tags n 0) l l
  left_first l mark = none (has_mark cmp mark l) (mark.1.0 == n.0)
    where
      none : (f a : Bool) → f ≡ (f && not (a && false))
      none true true = refl
      none true false = refl
      none false a = refl

  pub moved_first : (from to : List (Mark T × Unit {0})) → IsMoved cmp (early_mark cmp tags n 0) from to to
  moved_first from to mark = none (has_mark cmp mark to) (has_mark cmp mark from) (mark.1.0 == n.0)
    where
      none : (t f a : Bool) → t ≡ (t || (f && (a && false)))
      none true f a = refl
      none false false a = refl
      none false true true = refl
      none false true false = refl

  -- those left have not come
  pub apart_on : (i : ℕ) (from to left come : List (Mark T × Unit {0})) → AreApart cmp from to → IsLeft cmp (early_mark cmp tags n i) from left → IsMoved cmp (early_mark cmp tags n i) from to come → AreApart cmp left come
  apart_on i from to left come apart l m mark there = m mark ∙ by (has_mark cmp mark from) (has_mark cmp mark to) (early_mark cmp tags n i mark) (sym (l mark) ∙ there) (apart mark)
    where
      by : (f t u : Bool) → (f && not u) ≡ true → (f ≡ true → t ≡ false) → (t || (f && u)) ≡ false
      by true t false e h = rw (h refl) refl
      by true t true e h = absurd (false≢true e)
      by false t u e h = absurd (false≢true e)

  module _ (i : ℕ) (below : i < length tags) where
    early_more : (tag : T) (mark : Mark T) → slice_get tags i ≡ Some tag → early_mark cmp tags n (i + 1) mark ≡ ((mark.1.0 == n.0) && (list_any (λ tag. is_eq (cmp mark.0 tag)) (take i tags) || is_eq (cmp mark.0 tag)))
    early_more tag mark e = rw add-one (ap (λ b. (mark.1.0 == n.0) && b) (any_more (λ tag. is_eq (cmp mark.0 tag)) tags i tag e))

    pub left_more : (from left more : List (Mark T × Unit {0})) → IsLeft cmp (early_mark cmp tags n i) from left → IsLeft cmp (λ mark. is_eq (own_order cmp (slice_get tags i) n mark)) left more → IsLeft cmp (early_mark cmp tags n (i + 1)) from more
    left_more from left more l m mark =
        let at = there_at tags i below in
        m mark
        ∙ ap (λ o. has_mark cmp mark left && not (is_eq (own_order cmp o n mark))) at.1
        ∙ ap (λ b. b && not (is_eq (own_order cmp (Some at.0) n mark))) (l mark)
        ∙ ap (λ b. (has_mark cmp mark from && not (early_mark cmp tags n i mark)) && not b) (own_is at.0 mark)
        ∙ by (has_mark cmp mark from) (mark.1.0 == n.0) (list_any (λ tag. is_eq (cmp mark.0 tag)) (take i tags)) (is_eq (cmp mark.0 at.0))
        ∙ sym (ap (λ b. has_mark cmp mark from && not b) (early_more at.0 mark at.1))
      where
        by : (f a u c : Bool) → ((f && not (a && u)) && not (c && a)) ≡ (f && not (a && (u || c)))
        by false a u c = refl
        by true false true true = refl
        by true false true false = refl
        by true false false true = refl
        by true false false false = refl
        by true true true c = refl
        by true true false true = refl
        by true true false false = refl

    pub moved_more : (from to left come more : List (Mark T × Unit {0})) → IsLeft cmp (early_mark cmp tags n i) from left → IsMoved cmp (early_mark cmp tags n i) from to come → IsMoved cmp (λ mark. is_eq (own_order cmp (slice_get tags i) n mark)) left come more → IsMoved cmp (early_mark cmp tags n (i + 1)) from to more
    moved_more from to left come more l m o mark =
        let at = there_at tags i below in
        o mark
        ∙ ap (λ t. has_mark cmp mark come || (has_mark cmp mark left && is_eq (own_order cmp t n mark))) at.1
        ∙ ap (λ b. b || (has_mark cmp mark left && is_eq (own_order cmp (Some at.0) n mark))) (m mark)
        ∙ ap (λ b. (has_mark cmp mark to || (has_mark cmp mark from && early_mark cmp tags n i mark)) || (b && is_eq (own_order cmp (Some at.0) n mark))) (l mark)
        ∙ ap (λ b. (has_mark cmp mark to || (has_mark cmp mark from && early_mark cmp tags n i mark)) || ((has_mark cmp mark from && not (early_mark cmp tags n i mark)) && b)) (own_is at.0 mark)
        ∙ by (has_mark cmp mark to) (has_mark cmp mark from) (mark.1.0 == n.0) (list_any (λ tag. is_eq (cmp mark.0 tag)) (take i tags)) (is_eq (cmp mark.0 at.0))
        ∙ sym (ap (λ b. has_mark cmp mark to || (has_mark cmp mark from && b)) (early_more at.0 mark at.1))
      where
        by : (t f a u c : Bool) → ((t || (f && (a && u))) || ((f && not (a && u)) && (c && a))) ≡ (t || (f && (a && (u || c))))
        by true f a u c = refl
        by false false a u c = refl
        by false true false true true = refl
        by false true false true false = refl
        by false true false false true = refl
        by false true false false false = refl
        by false true true true c = refl
        by false true true false true = refl
        by false true true false false = refl

  -- at last the first tags are all of them
  all_early : (i : ℕ) → i ≡ length tags → (mark : Mark T) → early_mark cmp tags n i mark ≡ ((mark.1.0 == n.0) && list_any (λ tag. is_eq (cmp mark.0 tag)) tags)
  all_early i e mark = ap (λ xs. (mark.1.0 == n.0) && list_any (λ tag. is_eq (cmp mark.0 tag)) xs) (ap (λ j. take j tags) e ∙ take_all (length tags) tags (omega arith))

  pub left_last : (i : ℕ) → i ≡ length tags → (from left : List (Mark T × Unit {0})) → IsLeft cmp (early_mark cmp tags n i) from left → IsLeft cmp (λ mark. (mark.1.0 == n.0) && list_any (λ tag. is_eq (cmp mark.0 tag)) tags) from left
  left_last i e from left l mark = l mark ∙ ap (λ b. has_mark cmp mark from && not b) (all_early i e mark)

  pub moved_last : (i : ℕ) → i ≡ length tags → (from to come : List (Mark T × Unit {0})) → IsMoved cmp (early_mark cmp tags n i) from to come → IsMoved cmp (λ mark. (mark.1.0 == n.0) && list_any (λ tag. is_eq (cmp mark.0 tag)) tags) from to come
  moved_last i e from to come m mark = m mark ∙ ap (λ b. has_mark cmp mark to || (has_mark cmp mark from && b)) (all_early i e mark)

-- whether it is a mark of this number, by one of these tags
abbrev pub mark_among : {T : Type 0} → (T → T → Ordering) → ObjId → List T → Mark T → Bool
mark_among cmp n tags mark = (mark.1.0 == n.0) && list_any (λ tag. is_eq (cmp mark.0 tag)) tags

-- The marks of a list of tags, made one after the other.
module _ {T : Type 0} {cmp : T → T → Ordering} (total : IsTotalOrder cmp) (exact : CmpEqualImpliesEq (mark_cmp cmp)) (n : ObjId) where
  -- the marks are those of these tags
  abbrev AreMade : List T → List (Mark T × Unit {0}) → Type 0
  AreMade tags marks = HasMarks cmp (mark_among cmp n tags) marks

  pub made_first : AreMade [] []
  made_first mark = none (mark.1.0 == n.0)
    where
      none : (a : Bool) → false ≡ (a && false)
      none true = refl
      none false = refl

  also : (tags : List T) (tag : T) (mark : Mark T) → (is_eq (mark_cmp cmp (tag, n) mark) || ((mark.1.0 == n.0) && list_any (λ t. is_eq (cmp mark.0 t)) tags)) ≡ ((mark.1.0 == n.0) && list_any (λ t. is_eq (cmp mark.0 t)) (tags ++ tag ∷ []))
  also tags tag mark =
      ap (λ b. b || ((mark.1.0 == n.0) && list_any (λ t. is_eq (cmp mark.0 t)) tags)) (own_is total tags n tag mark)
      ∙ by (is_eq (cmp mark.0 tag)) (mark.1.0 == n.0) (list_any (λ t. is_eq (cmp mark.0 t)) tags)
      ∙ sym (ap (λ b. (mark.1.0 == n.0) && b) (list_any-append (λ t. is_eq (cmp mark.0 t)) tags (tag ∷ [])))
    where
      by : (c a u : Bool) → ((c && a) || (a && u)) ≡ (a && (u || (c || false)))
      by true true true = refl
      by true true false = refl
      by true false u = refl
      by false true true = refl
      by false true false = refl
      by false false u = refl

  pub made_new : (tags : List T) (tag : T) (marks : List (Mark T × Unit {0})) → AreMade tags marks → AreMade (tags ++ tag ∷ []) (with_entry (mark_cmp cmp) ((tag, n), tt) marks)
  made_new tags tag marks m mark = has_with total exact mark (tag, n) marks ∙ ap (λ b. is_eq (mark_cmp cmp (tag, n) mark) || b) (m mark) ∙ also tags tag mark

  pub made_again : (tags : List T) (tag : T) (marks : List (Mark T × Unit {0})) → has_mark cmp (tag, n) marks ≡ true → AreMade tags marks → AreMade (tags ++ tag ∷ []) marks
  made_again tags tag marks there m mark = kept (is_eq (mark_cmp cmp (tag, n) mark)) (has_mark cmp mark marks) (λ same. ap (λ (k : Mark T). has_mark cmp k marks) (sym (tied total exact (tag, n) mark same)) ∙ there) ∙ ap (λ b. is_eq (mark_cmp cmp (tag, n) mark) || b) (m mark) ∙ also tags tag mark
    where
      kept : (b h : Bool) → (b ≡ true → h ≡ true) → h ≡ (b || h)
      kept true h there = there refl
      kept false h there = refl

  -- either way
  pub made_by : (tags : List T) (tag : T) (e : Mark T × Unit {0}) (old new : List (Mark T × Unit {0})) → e ≡ ((tag, n), tt)
      → (value_at (mark_cmp cmp) e.0 old ≡ None → new ≡ with_entry (mark_cmp cmp) e old) → (IsSome (value_at (mark_cmp cmp) e.0 old) → new ≡ old) → AreMade tags old → AreMade (tags ++ tag ∷ []) new
  made_by tags tag e old new is put again m = by (value_at (mark_cmp cmp) (tag, n) old) refl
    where
      by : (v : Option (Unit {0})) → value_at (mark_cmp cmp) (tag, n) old ≡ v → AreMade (tags ++ tag ∷ []) new
      by None f = rw (put (ap (λ (x : Mark T × Unit {0}). value_at (mark_cmp cmp) x.0 old) is ∙ f)) (rw is (made_new tags tag old m))
      by (Some u) f = rw (again (subst IsSome (sym (ap (λ (x : Mark T × Unit {0}). value_at (mark_cmp cmp) x.0 old) is ∙ f)) refl)) (made_again tags tag old (ap is_some f) m)
