-- The first record of a tag above a number, by the index.
use Rattle.std.proofs.Common.{◌≡◌, ℕ, ◌<◌, ◌≤◌, ◌==◌, Bool, true, false, cond, ◌&&◌, ◌||◌, List, [], ◌∷◌, arith, refl, sym, ap, ◌∙◌, subst, None, Some, Option, find, nat_lt, ◌⊎◌, inl, inr}
use borrow.Author.Tests.{eqb-true, eq-eqb, ltb-true}
use Rattle.std.proofs.lemmas.Bool.{false≢true, true≢false, and_parts}
use Rattle.std.proofs.lemmas.Cmp.{tied_itself}
use Rattle.std.proofs.lemmas.Map.Lookups.{CmpEqualImpliesEq}
use Rattle.std.specs.Cmp.{IsTotalOrder, Equal-is}
use Rattle.std.specs.List.{AllByRecursion, Contains, list_any}
use Rattle.std.specs.Option.{is_some, option_map}
use Rattle.std.specs.Ordering.{is_eq, is_lt, is_gt, nat_cmp, ordering_then, match_ordering}
use Rattle.std.specs.declared.cmp.Ordering.{Ordering}
use Rattle.std.specs.declared.cmp.Ordering.TheVariants.{Less, Equal, Greater}
use Rattle.nv_base.specs.declared.object.ObjId.{ObjId}
use Rattle.nv_map.specs.Map.{KeysRise, PartsKeys, entry_above}
use Rattle.nv_map.proofs.Members.{here, there, here_or_there, none_in, member_value, value_member, found, none_found, least_by}
use Rattle.nv_map.proofs.Rising.{turned_back}
use Rattle.nv_table.specs.Table.{is_after, has_number, has_tag, NumbersRise, record_of}
use Rattle.nv_table.specs.inner.Index.{Mark, mark_cmp, number_cmp, has_mark, is_mark_of, is_mark, HasMarks}
use Rattle.nv_table.specs.inner.Probes.{past_order, mark_total}
use Rattle.nv_table.proofs.Moves.{exact_marks}

module _ {X : Type 0} (p : X → Bool) where
  pub any_is : (l : List X) → list_any p l ≡ true → (x : X) × Contains l x × (p x ≡ true)
  any_is [] e = absurd (false≢true e)
  any_is (y ∷ l) e = by (p y) refl e (any_is l)
    where
      later : (x : X) × Contains l x × (p x ≡ true) → (x : X) × Contains (y ∷ l) x × (p x ≡ true)
      later it = (it.0, there y l it.0 it.1, it.2)

      by : (b : Bool) → p y ≡ b → (b || list_any p l) ≡ true → (list_any p l ≡ true → (x : X) × Contains l x × (p x ≡ true)) → (x : X) × Contains (y ∷ l) x × (p x ≡ true)
      by true t f rest = (y, here y l, t)
      by false t f rest = later (rest f)

  pub any_there : (l : List X) (x : X) → Contains l x → p x ≡ true → list_any p l ≡ true
  any_there [] x c e = absurd (none_in x c)
  any_there (y ∷ l) x c e = by (here_or_there y l x c) (any_there l x)
    where
      right : (b : Bool) → (b || true) ≡ true
      right true = refl
      right false = refl

      by : (y ≡ x) ⊎ Contains l x → (Contains l x → p x ≡ true → list_any p l ≡ true) → (p y || list_any p l) ≡ true
      by (inl d) rest = ap (λ b. b || list_any p l) (ap p d ∙ e)
      by (inr d) rest = ap (λ b. p y || b) (rest d e) ∙ right (p y)

  pub find_none : (l : List X) → ((x : X) → Contains l x → p x ≡ false) → find p l ≡ None
  find_none [] n = refl
  find_none (y ∷ l) n = ap (λ b. cond b (Some y) (find p l)) (n y (here y l)) ∙ find_none l (λ x c. n x (there y l x c))

pub mapped_none : {A B : Type 0} (f : A → B) {r : Option A} {o : Option B} → option_map f r ≡ o → r ≡ None → o ≡ None
mapped_none f e n = sym e ∙ ap (option_map f) n

pub mapped_some : {A B : Type 0} (f : A → B) {r : Option A} {o : Option B} {x : A} → option_map f r ≡ o → r ≡ Some x → o ≡ Some (f x)
mapped_some f e n = sym e ∙ ap (option_map f) n

not_true : (b : Bool) → (b ≡ true → ⊥) → b ≡ false
not_true true n = absurd (n refl)
not_true false n = refl

module _ {R : Type 0} (number : R → ObjId) where
  pub all_there : (P : R → Type 0) (l : List R) (x : R) → AllByRecursion P l → Contains l x → P x
  all_there P [] x a c = absurd (none_in x c)
  all_there P (y ∷ l) x a c = by (here_or_there y l x c) (all_there P l x a.1)
    where
      by : (y ≡ x) ⊎ Contains l x → (Contains l x → P x) → P x
      by (inl e) rest = subst P e a.0
      by (inr d) rest = rest d

  -- the one that passes whose number is the least is found
  pub find_least : (p : R → Bool) (l : List R) (r : R) → NumbersRise number l → Contains l r → p r ≡ true → ((x : R) → Contains l x → p x ≡ true → (number r).0 ≤ (number x).0) → find p l ≡ Some r
  find_least p [] r rise c t least = absurd (none_in r c)
  find_least p (y ∷ l) r rise c t least = by (here_or_there y l r c) (find_least p l r rise.1)
    where
      by : (y ≡ r) ⊎ Contains l r → (Contains l r → p r ≡ true → ((x : R) → Contains l x → p x ≡ true → (number r).0 ≤ (number x).0) → find p l ≡ Some r) → cond (p y) (Some y) (find p l) ≡ Some r
      by (inl e) rest = ap (λ b. cond b (Some y) (find p l)) (ap p e ∙ t) ∙ ap Some e
      by (inr d) rest =
          let above : (number y).0 < (number r).0 = all_there (λ x. (number y).0 < (number x).0) l r rise.0 d in
          ap (λ b. cond b (Some y) (find p l)) (not_true (p y) (λ f. let h = least y (here y l) f in omega (arith, above, h)))
          ∙ rest d t (λ x q f. least x (there y l x q) f)

not_above : (a b : ℕ) → is_gt (nat_cmp a b) ≡ false → a ≤ b
not_above a b h = by (nat_lt a b) (a == b) refl refl h
  where
    by : (l e : Bool) → nat_lt a b ≡ l → (a == b) ≡ e → is_gt (cond l Less (cond e Equal Greater)) ≡ false → a ≤ b
    by true e f g k = let below = ltb-true _ _ f in omega (arith, below)
    by false true f g k = let same = eqb-true _ _ g in omega (arith, same)
    by false false f g k = absurd (true≢false k)

module _ {R T : Type 0} (number : R → ObjId) (tags : R → List T) {cmp : T → T → Ordering} (total : IsTotalOrder cmp) (exact : CmpEqualImpliesEq cmp) {order : T → Ordering} (p : PartsKeys cmp order) (after : Option ObjId) where
  -- whether a record has the tag, and its number is above the one given
  abbrev pub passes : R → Bool
  passes r = is_after after (number r) && has_tag tags order r

  abbrev past : Mark T → Bool
  past mark = is_lt (past_order order after mark)

  above_apart : (a b : T) → order a ≡ Less → order b ≡ Equal → cmp a b ≡ Greater
  above_apart a b e f = by (cmp a b) refl
    where
      by : (r : Ordering) → cmp a b ≡ r → r ≡ Greater
      by Less c = let g = p.below a b c (ap is_gt e) in absurd (cc)
      by Equal c = let g = exact a b c in absurd (cc)
      by Greater c = refl

  same_tag : (a b : T) → order a ≡ Equal → order b ≡ Equal → a ≡ b
  same_tag a b e f = by (cmp a b) refl
    where
      by : (r : Ordering) → cmp a b ≡ r → a ≡ b
      by Less c = let g = p.below a b c (ap is_gt e) in absurd (cc)
      by Equal c = exact a b c
      by Greater c = let g = p.below b a (turned_back total a b c) (ap is_gt f) in absurd (cc)

  past_is : (u : T) (m : ObjId) (r : Ordering) → order u ≡ r → is_lt (match_ordering r Less (cond (is_after after m) Less Greater) Greater) ≡ true → (order u ≡ Less) ⊎ ((order u ≡ Equal) × (is_after after m ≡ true))
  past_is u m Less e h = inl e
  past_is u m Greater e h = absurd (false≢true h)
  past_is u m Equal e h = inr (e, by (is_after after m) h)
    where
      by : (b : Bool) → is_lt (cond b Less Greater) ≡ true → b ≡ true
      by true f = refl
      by false f = absurd (false≢true f)

  module _ (rs : List R) (index : List (Mark T × Unit {0})) (rise : NumbersRise number rs) (marks_rise : KeysRise (mark_cmp cmp) index) (marked : HasMarks cmp (is_mark number tags cmp rs) index) where
    some_is : (v : Option (Unit {0})) → is_some v ≡ true → v ≡ Some tt
    some_is None e = absurd (false≢true e)
    some_is (Some u) e = refl

    -- a record that passes has a mark there
    mark_there : (r : R) → Contains rs r → passes r ≡ true → (t : T) × (order t ≡ Equal) × Contains index ((t, number r), tt) × (past (t, number r) ≡ true)
    mark_there r c e =
        let parts = and_parts _ _ e in
        let it = any_is (λ tag. is_eq (order tag)) (tags r) parts.1 in
        let equal : order it.0 ≡ Equal = (Equal-is (order it.0)).0 it.2 in
        let tag : has_tag tags (cmp it.0) r ≡ true = any_there (λ tag. is_eq (cmp it.0 tag)) (tags r) it.0 it.1 (ap is_eq (tied_itself total it.0)) in
        let own : is_mark_of number tags cmp r (it.0, number r) ≡ true = ap (λ b. b && has_tag tags (cmp it.0) r) (eq-eqb (number r).0 (number r).0 refl) ∙ tag in
        let has : has_mark cmp (it.0, number r) index ≡ true = marked (it.0, number r) ∙ any_there (λ x. is_mark_of number tags cmp x (it.0, number r)) rs r c own in (
          it.0,
          equal,
          value_member (mark_total total) (exact_marks exact) index (it.0, number r) tt (some_is _ has),
          ap (λ s. is_lt (match_ordering s Less (cond (is_after after (number r)) Less Greater) Greater)) equal ∙ ap (λ b. is_lt (cond b Less Greater)) parts.0,
        )

    pub tagged_none : entry_above (past_order order after) index ≡ None → find passes rs ≡ None
    tagged_none e = find_none passes rs (λ r c. not_true (passes r) (λ t.
        let it = mark_there r c t in
        false≢true (sym (none_found past index ((it.0, number r), tt) e it.2) ∙ it.3)))

    module _ (e : Mark T × Unit {0}) (first : entry_above (past_order order after) index ≡ Some e) where
      at : Contains index e × (past e.0 ≡ true)
      at = found past index e first

      least : (r : R) → Contains rs r → passes r ≡ true → (t : T) × (order t ≡ Equal) × (is_gt (mark_cmp cmp e.0 (t, number r)) ≡ false)
      least r c t =
          let it = mark_there r c t in
          (it.0, it.1, least_by (mark_total total) past index e ((it.0, number r), tt) marks_rise first it.2 it.3)

      pub tagged_other : is_eq (order e.0.0) ≡ false → find passes rs ≡ None
      tagged_other other = find_none passes rs (λ r c. not_true (passes r) (λ t. by (number r) (past_is e.0.0 e.0.1 (order e.0.0) refl at.1) (least r c t)))
        where
          by : (n : ObjId) → (order e.0.0 ≡ Less) ⊎ ((order e.0.0 ≡ Equal) × (is_after after e.0.1 ≡ true)) → (t : T) × (order t ≡ Equal) × (is_gt (mark_cmp cmp e.0 (t, n)) ≡ false) → ⊥
          by n (inl below) it = true≢false (sym (ap (λ s. is_gt (ordering_then s (number_cmp e.0.1 n))) (above_apart e.0.0 it.0 below it.1)) ∙ it.2)
          by n (inr same) it = false≢true (sym other ∙ ap is_eq same.0)

      pub tagged_own : is_eq (order e.0.0) ≡ true → find passes rs ≡ record_of number e.0.1 rs
      tagged_own own =
          let equal : order e.0.0 ≡ Equal = (Equal-is (order e.0.0)).0 own in
          let high : is_after after e.0.1 ≡ true = after_is equal (past_is e.0.0 e.0.1 (order e.0.0) refl at.1) in
          let has : is_mark number tags cmp rs e.0 ≡ true = sym (marked e.0) ∙ ap is_some (member_value (mark_total total) index e marks_rise at.0) in
          let it = any_is (λ x. is_mark_of number tags cmp x e.0) rs has in
          let parts = and_parts _ _ it.2 in
          let same : e.0.1 ≡ number it.0 = ap (λ (k : ℕ). let m : ObjId = record { 0 = k } in m) (eqb-true _ _ parts.0) in
          let tag = any_is (λ t. is_eq (cmp e.0.0 t)) (tags it.0) parts.1 in
          let own_tag : e.0.0 ≡ tag.0 = exact e.0.0 tag.0 ((Equal-is (cmp e.0.0 tag.0)).0 tag.2) in
          let tagged : has_tag tags order it.0 ≡ true = any_there (λ t. is_eq (order t)) (tags it.0) tag.0 tag.1 (ap (λ t. is_eq (order t)) (sym own_tag) ∙ own) in
          let pass : passes it.0 ≡ true = ap (λ n. is_after after n && has_tag tags order it.0) (sym same) ∙ ap (λ b. b && has_tag tags order it.0) high ∙ tagged in
          find_least number passes rs it.0 rise it.1 pass (λ r c t. number_above it.0 same equal r (least r c t))
          ∙ sym (find_least number (has_number number e.0.1) rs it.0 rise it.1 parts.0 (λ r c t. let found_number = eqb-true _ _ t in let it_number = eqb-true _ _ parts.0 in omega (arith, found_number, it_number)))
        where
          after_is : order e.0.0 ≡ Equal → (order e.0.0 ≡ Less) ⊎ ((order e.0.0 ≡ Equal) × (is_after after e.0.1 ≡ true)) → is_after after e.0.1 ≡ true
          after_is equal (inl below) = absurd (cc)
          after_is equal (inr it) = it.1

          number_above : (x : R) → e.0.1 ≡ number x → order e.0.0 ≡ Equal → (r : R) → (t : T) × (order t ≡ Equal) × (is_gt (mark_cmp cmp e.0 (t, number r)) ≡ false) → (number x).0 ≤ (number r).0
          number_above x same equal r it =
              let tied : cmp e.0.0 it.0 ≡ Equal = ap (cmp e.0.0) (sym (same_tag e.0.0 it.0 equal it.1)) ∙ tied_itself total e.0.0 in
              let high : is_gt (nat_cmp e.0.1.0 (number r).0) ≡ false = sym (ap (λ s. is_gt (ordering_then s (number_cmp e.0.1 (number r)))) tied) ∙ it.2 in
              subst (λ (n : ObjId). n.0 ≤ (number r).0) same (not_above e.0.1.0 (number r).0 high)
