-- What becomes of keys in groups, told group by group and key by key.
use Rattle.std.proofs.Common.{◌≡◌, ℕ, ◌+◌, ◌<◌, Bool, true, false, cond, ◌&&◌, ◌||◌, List, [], ◌∷◌, ◌++◌, length, take, get_or, refl, sym, ap, ◌∙◌, subst, None, Some, Option}
use Rattle.std.proofs.lemmas.Cmp.{eq_by_cmp_equiv}
use Rattle.std.proofs.lemmas.List.{take_more}
use Rattle.std.proofs.lemmas.Map.Lookups.{CmpEqualImpliesEq}
use Rattle.std.specs.Cmp.{IsTotalOrder}
use Rattle.std.specs.List.{list_any}
use Rattle.std.specs.Ordering.{is_eq}
use Rattle.std.specs.declared.cmp.Ordering.{Ordering}
use Rattle.nv_map.specs.Map.{value_at}
use Rattle.inc_table.specs.declared.delta.Change.{Change}
use Rattle.inc_table.specs.declared.delta.Change.TheVariants.{Put, Gone}
use Rattle.inc_table.specs.Delta.{IsApplied, after_change, left_by}
use Rattle.inc_table.specs.Nested.{IsChangedAt, value_in}
use Rattle.inc_table.proofs.Applied.{applied_at, tied}
use Rattle.inc_group.specs.Group.{among}
use Rattle.inc_group.specs.inner.Moves.{IsMoved, IsTold, groups_in, member_in}

any_last : {X : Type 0} (p : X → Bool) (xs : List X) (y : X) → list_any p (xs ++ y ∷ []) ≡ (list_any p xs || p y)
any_last p [] y = by (p y)
  where
    by : (b : Bool) → (b || false) ≡ b
    by true = refl
    by false = refl
any_last p (x ∷ xs) y = ap (λ b. p x || b) (any_last p xs y) ∙ by (p x)
  where
    by : (b : Bool) → (b || (list_any p xs || p y)) ≡ ((b || list_any p xs) || p y)
    by true = refl
    by false = refl

not_told : {A : Type 0} (b : Bool) (x y : A) → cond (b && false) x y ≡ y
not_told true x y = refl
not_told false x y = refl

told_twice : {A : Type 0} (a b m : Bool) (x y : A) → cond (a && b) x (cond (b && m) x y) ≡ cond (b && (m || a)) x y
told_twice true true true x y = refl
told_twice true true false x y = refl
told_twice true false m x y = refl
told_twice false true true x y = refl
told_twice false true false x y = refl
told_twice false false m x y = refl

module _ {K V G : Type 0} (inner : K → K → Ordering) {outer : G → G → Ordering} (o : IsTotalOrder outer) where
  pub told_none : (change : K × Change V) (moves : List (G × List (K × Change V))) → IsTold inner outer [] change moves moves
  told_none change moves group key = sym (not_told (is_eq (inner change.0 key)) (Some change.1) (value_in outer inner group key moves))

  -- one group more
  pub told_more : (groups : List G) (i : ℕ) (q : G) (change : K × Change V) (first old new : List (G × List (K × Change V))) → i < length groups → q ≡ get_or groups i q → IsTold inner outer (take i groups) change first old
      → IsChangedAt outer inner ((q, change.0), Put change.1) old new → IsTold inner outer (take (i + 1) groups) change first new
  told_more groups i q change first old new within at so_far more group key =
      more group key
      ∙ ap (λ x. cond (is_eq (outer q group) && is_eq (inner change.0 key)) (Some change.1) x) (so_far group key)
      ∙ told_twice (is_eq (outer q group)) (is_eq (inner change.0 key)) (among outer group (take i groups)) (Some change.1) (value_in outer inner group key first)
      ∙ ap (λ b. cond (is_eq (inner change.0 key) && b) (Some change.1) (value_in outer inner group key first))
      (ap (λ b. among outer group (take i groups) || b) ((eq_by_cmp_equiv o).symm q group) ∙ sym (any_last (λ other. is_eq (outer group other)) (take i groups) q)
      ∙ ap (among outer group) (ap (λ x. take i groups ++ x ∷ []) at ∙ sym (take_more groups i q within)))

pub moved_none : {K V G : Type 0} (inner : K → K → Ordering) (outer : G → G → Ordering) (groups_of : K → V → List G) (inputs : List (K × V)) → IsMoved inner outer groups_of inputs inputs []
moved_none inner outer groups_of inputs group key = refl

module _ {K V G : Type 0} {inner : K → K → Ordering} (o : IsTotalOrder inner) (exact : CmpEqualImpliesEq inner) (outer : G → G → Ordering) (groups_of : K → V → List G) where
  -- one change more: its key goes from the groups of the value that was there, and is put into those of the value that it leaves
  pub moved_more : (q : K) (change : Change V) (first old new : List (K × V)) (before between after : List (G × List (K × Change V))) → IsMoved inner outer groups_of first old before
      → IsTold inner outer (groups_in groups_of q (value_at inner q old)) (q, Gone) before between → IsTold inner outer (groups_in groups_of q (left_by change)) (q, change) between after → IsApplied inner ((q, change) ∷ []) old new → IsMoved inner outer groups_of first new after
  moved_more q change first old new before between after so_far left entered applied group key =
      ap (member_in outer groups_of group key) (applied key ∙ applied_at o key q change (value_at inner key old))
      ∙ by (is_eq (inner q key)) refl
      ∙ sym (ap (λ x. after_change x (member_in outer groups_of group key (value_at inner key first)))
      (entered group key ∙ ap (λ x. cond (is_eq (inner q key) && among outer group (groups_in groups_of q (left_by change))) (Some change) x) (left group key)))
    where
      -- at the key of the change
      at : (n m : Bool) (was : Option V) → (m ≡ false → after_change (value_in outer inner group q before) (member_in outer groups_of group q (value_at inner q first)) ≡ None)
          → cond n (left_by change) None ≡ after_change (cond n (Some change) (cond m (Some Gone) (value_in outer inner group q before))) (member_in outer groups_of group q (value_at inner q first))
      at true m was none = refl
      at false true was none = refl
      at false false was none = sym (none refl)

      none : among outer group (groups_in groups_of q (value_at inner q old)) ≡ false → after_change (value_in outer inner group q before) (member_in outer groups_of group q (value_at inner q first)) ≡ None
      none e = sym (so_far group q) ∙ ap (λ b. cond b (value_at inner q old) None) e

      here : member_in outer groups_of group q (left_by change)
          ≡ after_change (cond (among outer group (groups_in groups_of q (left_by change))) (Some change) (cond (among outer group (groups_in groups_of q (value_at inner q old))) (Some Gone) (value_in outer inner group q before))) (member_in outer groups_of group q (value_at inner q first))
      here = at (among outer group (groups_in groups_of q (left_by change))) (among outer group (groups_in groups_of q (value_at inner q old))) (value_at inner q old) none

      by : (b : Bool) → is_eq (inner q key) ≡ b
          → member_in outer groups_of group key (cond b (left_by change) (value_at inner key old))
          ≡ after_change (cond (b && among outer group (groups_in groups_of q (left_by change))) (Some change) (cond (b && among outer group (groups_in groups_of q (value_at inner q old))) (Some Gone) (value_in outer inner group key before))) (member_in outer groups_of group key (value_at inner key first))
      by true e =
          subst (λ k. member_in outer groups_of group k (left_by change)
          ≡ after_change (cond (among outer group (groups_in groups_of q (left_by change))) (Some change) (cond (among outer group (groups_in groups_of q (value_at inner q old))) (Some Gone) (value_in outer inner group k before))) (member_in outer groups_of group k (value_at inner k first))) (tied exact q key e) here
      by false e = so_far group key
