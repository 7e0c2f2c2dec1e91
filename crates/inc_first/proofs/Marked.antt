-- The marks of groups, changed group by group and key by key.
use Rattle.std.proofs.Common.{◌≡◌, ℕ, ◌+◌, ◌<◌, Bool, true, false, cond, ◌&&◌, ◌||◌, List, [], ◌∷◌, ◌++◌, length, take, get_or, refl, sym, ap, ◌∙◌, subst, None, Some, Option}
use Rattle.std.proofs.lemmas.Cmp.{eq_by_cmp_equiv}
use Rattle.std.proofs.lemmas.List.{take_more}
use Rattle.std.proofs.lemmas.Map.Lookups.{CmpEqualImpliesEq}
use Rattle.std.specs.Cmp.{IsTotalOrder}
use Rattle.std.specs.List.{list_any}
use Rattle.std.specs.Ordering.{is_eq}
use Rattle.std.specs.declared.cmp.Ordering.{Ordering}
use Rattle.nv_map.specs.Map.{value_at}
use Rattle.inc_table.specs.declared.delta.Change.{Change}
use Rattle.inc_table.specs.declared.delta.Change.TheVariants.{Put, Gone}
use Rattle.inc_table.specs.Delta.{IsApplied, left_by}
use Rattle.inc_table.specs.Nested.{IsChangedAt, value_in}
use Rattle.inc_table.proofs.Applied.{applied_at, tied}
use Rattle.inc_group.specs.Group.{among}
use Rattle.inc_group.specs.inner.Moves.{groups_in, member_in}
use Rattle.inc_first.specs.inner.Marks.{AreMarked, IsMarkedAt, IsTouched, KeepsOthers, mark_of}

any_last : {X : Type 0} (p : X → Bool) (xs : List X) (y : X) → list_any p (xs ++ y ∷ []) ≡ (list_any p xs || p y)
any_last p [] y = by (p y)
  where
    by : (b : Bool) → (b || false) ≡ b
    by true = refl
    by false = refl
any_last p (x ∷ xs) y = ap (λ b. p x || b) (any_last p xs y) ∙ by (p x)
  where
    by : (b : Bool) → (b || (list_any p xs || p y)) ≡ ((b || list_any p xs) || p y)
    by true = refl
    by false = refl

not_marked : {A : Type 0} (b : Bool) (x y : A) → cond (b && false) x y ≡ y
not_marked true x y = refl
not_marked false x y = refl

marked_twice : {A : Type 0} (a b m : Bool) (x y : A) → cond (a && b) x (cond (b && m) x y) ≡ cond (b && (m || a)) x y
marked_twice true true true x y = refl
marked_twice true true false x y = refl
marked_twice true false m x y = refl
marked_twice false true true x y = refl
marked_twice false true false x y = refl
marked_twice false false m x y = refl

touched_twice : {A : Type 0} (a m : Bool) (x y : A) → cond a x (cond m x y) ≡ cond (m || a) x y
touched_twice true true x y = refl
touched_twice true false x y = refl
touched_twice false true x y = refl
touched_twice false false x y = refl

-- the groups so far, and one more
module _ {G : Type 0} {outer : G → G → Ordering} (o : IsTotalOrder outer) where
  among_more : (groups : List G) (i : ℕ) (q group : G) → i < length groups → q ≡ get_or groups i q → (among outer group (take i groups) || is_eq (outer q group)) ≡ among outer group (take (i + 1) groups)
  among_more groups i q group within at =
      ap (λ b. among outer group (take i groups) || b) ((eq_by_cmp_equiv o).symm q group)
      ∙ sym (any_last (λ other. is_eq (outer group other)) (take i groups) q)
      ∙ ap (among outer group) (ap (λ x. take i groups ++ x ∷ []) at ∙ sym (take_more groups i q within))

  pub touched_none : (touched : List (G × Unit {0})) → IsTouched outer [] touched touched
  touched_none touched group = refl

  pub touched_more : (groups : List G) (i : ℕ) (q : G) (first old new : List (G × Unit {0})) → i < length groups → q ≡ get_or groups i q → IsTouched outer (take i groups) first old → IsApplied outer ((q, Put tt) ∷ []) old new → IsTouched outer (take (i + 1) groups) first new
  touched_more groups i q first old new within at so_far more group =
      more group
      ∙ applied_at o group q (Put tt) (value_at outer group old)
      ∙ ap (λ x. cond (is_eq (outer q group)) (Some tt) x) (so_far group)
      ∙ touched_twice (is_eq (outer q group)) (among outer group (take i groups)) (Some tt) (value_at outer group first)
      ∙ ap (λ b. cond b (Some tt) (value_at outer group first)) (among_more groups i q group within at)

  module _ {K : Type 0} (inner : K → K → Ordering) where
    pub marked_none : (change : K × Change (Unit {0})) (marks : List (G × List (K × Unit {0}))) → IsMarkedAt inner outer [] change marks marks
    marked_none change marks group key = sym (not_marked (is_eq (inner change.0 key)) (left_by change.1) (value_in outer inner group key marks))

    pub marked_more : (groups : List G) (i : ℕ) (q : G) (change : K × Change (Unit {0})) (first old new : List (G × List (K × Unit {0}))) → i < length groups → q ≡ get_or groups i q → IsMarkedAt inner outer (take i groups) change first old
        → IsChangedAt outer inner ((q, change.0), change.1) old new → IsMarkedAt inner outer (take (i + 1) groups) change first new
    marked_more groups i q change first old new within at so_far more group key =
        more group key
        ∙ ap (λ x. cond (is_eq (outer q group) && is_eq (inner change.0 key)) (left_by change.1) x) (so_far group key)
        ∙ marked_twice (is_eq (outer q group)) (is_eq (inner change.0 key)) (among outer group (take i groups)) (left_by change.1) (value_in outer inner group key first)
        ∙ ap (λ b. cond (is_eq (inner change.0 key) && b) (left_by change.1) (value_in outer inner group key first)) (among_more groups i q group within at)

pub keeps_none : {K G : Type 0} (inner : K → K → Ordering) (outer : G → G → Ordering) (touched : List (G × Unit {0})) (marks : List (G × List (K × Unit {0}))) → KeepsOthers inner outer touched marks marks
keeps_none inner outer touched marks group key none = refl

-- groups that a change does not touch keep their marks
module _ {K G : Type 0} (inner : K → K → Ordering) (outer : G → G → Ordering) where
  not_touched : (groups : List G) (old new : List (G × Unit {0})) (group : G) → IsTouched outer groups old new → value_at outer group new ≡ None → (among outer group groups ≡ false) × (value_at outer group old ≡ None)
  not_touched groups old new group touched none = by (among outer group groups) refl (sym (touched group) ∙ none)
    where
      by : (b : Bool) → among outer group groups ≡ b → cond b (Some tt) (value_at outer group old) ≡ None → (among outer group groups ≡ false) × (value_at outer group old ≡ None)
      by true e f = absurd (cc)
      by false e f = (e, f)

  pub keeps_more : (groups : List G) (change : K × Change (Unit {0})) (first old new : List (G × List (K × Unit {0}))) (before after : List (G × Unit {0})) → KeepsOthers inner outer before first old → IsMarkedAt inner outer groups change old new → IsTouched outer groups before after
      → KeepsOthers inner outer after first new
  keeps_more groups change first old new before after so_far marked touched group key none =
      let out = not_touched groups before after group touched none in
      marked group key
      ∙ ap (λ b. cond (is_eq (inner change.0 key) && b) (left_by change.1) (value_in outer inner group key old)) out.0
      ∙ not_marked (is_eq (inner change.0 key)) (left_by change.1) (value_in outer inner group key old)
      ∙ so_far group key out.1

module _ {K V G : Type 0} {inner : K → K → Ordering} (o : IsTotalOrder inner) (exact : CmpEqualImpliesEq inner) (outer : G → G → Ordering) (groups_of : K → V → List G) where
  -- one change more: its key goes from the groups of the value that was there, and comes into those of the value that it leaves
  pub inputs_more : (q : K) (change : Change V) (old new : List (K × V)) (before between after : List (G × List (K × Unit {0}))) → AreMarked inner outer groups_of old before → IsMarkedAt inner outer (groups_in groups_of q (value_at inner q old)) (q, Gone) before between
      → IsMarkedAt inner outer (groups_in groups_of q (left_by change)) (q, Put tt) between after → IsApplied inner ((q, change) ∷ []) old new → AreMarked inner outer groups_of new after
  inputs_more q change old new before between after so_far left entered applied group key =
      entered group key
      ∙ ap (λ x. cond (is_eq (inner q key) && among outer group (groups_in groups_of q (left_by change))) (Some tt) x) (left group key)
      ∙ by (is_eq (inner q key)) refl
      ∙ ap (λ v. mark_of (member_in outer groups_of group key v)) (sym (applied key ∙ applied_at o key q change (value_at inner key old)))
    where
      -- a group that has what is put, or not
      put : (v : Option V) → cond (among outer group (groups_in groups_of q v)) (Some tt) None ≡ mark_of (member_in outer groups_of group q v)
      put None = refl
      put (Some v) = at (among outer group (groups_of q v))
        where
          at : (b : Bool) → cond b (Some tt) None ≡ mark_of (cond b (Some v) None)
          at true = refl
          at false = refl

      -- what went from the groups that it was in is in none
      none : (b : Bool) → among outer group (groups_in groups_of q (value_at inner q old)) ≡ b → cond b None (value_in outer inner group q before) ≡ None
      none true e = refl
      none false e = so_far group q ∙ ap (λ b. mark_of (cond b (value_at inner q old) None)) e

      here : cond (among outer group (groups_in groups_of q (left_by change))) (Some tt) (cond (among outer group (groups_in groups_of q (value_at inner q old))) None (value_in outer inner group q before)) ≡ mark_of (member_in outer groups_of group q (left_by change))
      here =
          ap (λ x. cond (among outer group (groups_in groups_of q (left_by change))) (Some tt) x) (none (among outer group (groups_in groups_of q (value_at inner q old))) refl)
          ∙ put (left_by change)

      by : (b : Bool) → is_eq (inner q key) ≡ b
          → cond (b && among outer group (groups_in groups_of q (left_by change))) (Some tt) (cond (b && among outer group (groups_in groups_of q (value_at inner q old))) None (value_in outer inner group key before))
          ≡ mark_of (member_in outer groups_of group key (cond b (left_by change) (value_at inner key old)))
      by true e =
          subst (λ k. cond (among outer group (groups_in groups_of q (left_by change))) (Some tt) (cond (among outer group (groups_in groups_of q (value_at inner q old))) None (value_in outer inner group k before)) ≡ mark_of (member_in outer groups_of group k (left_by change))) (tied exact q key e) here
      by false e = so_far group key
