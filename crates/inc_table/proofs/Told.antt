-- Differences: of nothing, and with what is told of one key more.
use Rattle.std.proofs.Common.{◌≡◌, Bool, true, false, cond, List, [], ◌∷◌, ◌++◌, refl, sym, ap, ◌∙◌, subst, None, Some, Option}
use Rattle.std.proofs.lemmas.Cmp.{eq_by_cmp_equiv}
use Rattle.std.proofs.lemmas.Map.Lookups.{CmpEqualImpliesEq}
use Rattle.std.specs.Cmp.{IsTotalOrder}
use Rattle.std.specs.Ordering.{is_eq}
use Rattle.std.specs.declared.cmp.Ordering.{Ordering}
use Rattle.std.specs.declared.cmp.Ordering.TheVariants.{Less}
use Rattle.nv_map.specs.Map.{value_at}
use Rattle.inc_table.specs.declared.delta.Change.{Change}
use Rattle.inc_table.specs.declared.delta.Change.TheVariants.{Put}
use Rattle.inc_table.specs.Delta.{left_by, change_between, told_at, IsAbove, IsApplied, IsDifference}
use Rattle.inc_table.proofs.Ends.{or_else, or_else_none, none_either, value_append, above_none}
use Rattle.inc_table.proofs.Applied.{applied_at, tied}

module _ {V : Type 0} (eq : V → V → Bool) where
  -- where nothing changed, all is as it was
  pub same_between : ((a b : V) → eq a b ≡ true → a ≡ b) → (a b : Option V) → change_between eq a b ≡ None → a ≡ b
  same_between tells None None e = refl
  same_between tells None (Some b) e = absurd (cc)
  same_between tells (Some a) None e = absurd (cc)
  same_between tells (Some a) (Some b) e = by (eq a b) refl e
    where
      by : (t : Bool) → eq a b ≡ t → cond t None (Some (Put b)) ≡ None → Some a ≡ Some b
      by true t e = ap Some (tells a b t)
      by false t e = absurd (cc)

  pub none_between : ((a : V) → eq a a ≡ true) → (a : Option V) → change_between eq a a ≡ None
  none_between itself None = refl
  none_between itself (Some a) = ap (λ t. cond t None (Some (Put a))) (itself a)

-- what is told of a key, at that key and at others
told_value : {K V : Type 0} (cmp : K → K → Ordering) (k q : K) (t : Option (Change V)) → value_at cmp k (told_at q t) ≡ cond (is_eq (cmp k q)) t None
told_value {K} {V} cmp k q None = none_either (Change V) (is_eq (cmp k q))
told_value cmp k q (Some change) = refl

pub told_above : {K V : Type 0} (cmp : K → K → Ordering) (q r : K) (t : Option (Change V)) → cmp q r ≡ Less → IsAbove cmp r (told_at q t)
told_above cmp q r None e = tt
told_above cmp q r (Some change) e = (e, tt)

module _ {K V : Type 0} {cmp : K → K → Ordering} (o : IsTotalOrder cmp) (eq : V → V → Bool) where
  pub difference_none : ((a : V) → eq a a ≡ true) → (l : List (K × V)) → IsDifference cmp eq l l []
  difference_none itself l k = sym (none_between eq itself (value_at cmp k l))

  module _ (exact : CmpEqualImpliesEq cmp) (tells : (a b : V) → eq a b ≡ true → a ≡ b) where
    pub difference_more : (delta : List (K × Change V)) (q : K) (w : Option V) (old mid new : List (K × V)) → IsAbove cmp q delta → IsDifference cmp eq old mid delta
        → ((k : K) → value_at cmp k new ≡ cond (is_eq (cmp q k)) w (value_at cmp k mid)) → IsDifference cmp eq old new (delta ++ told_at q (change_between eq (value_at cmp q mid) w))
    difference_more delta q w old mid new above first second k =
        value_append cmp k delta (told_at q (change_between eq (value_at cmp q mid) w))
        ∙ ap (or_else (value_at cmp k delta)) (told_value cmp k q (change_between eq (value_at cmp q mid) w) ∙ ap (λ b. cond b (change_between eq (value_at cmp q mid) w) None) ((eq_by_cmp_equiv o).symm k q))
        ∙ by (is_eq (cmp q k)) refl
        ∙ sym (ap (change_between eq (value_at cmp k old)) (second k))
      where
        here : or_else (value_at cmp q delta) (change_between eq (value_at cmp q mid) w) ≡ change_between eq (value_at cmp q old) w
        here =
            let none = above_none o q delta above in
            ap (λ x. or_else x (change_between eq (value_at cmp q mid) w)) none
            ∙ ap (λ x. change_between eq x w) (sym (same_between eq tells (value_at cmp q old) (value_at cmp q mid) (sym (first q) ∙ none)))

        by : (b : Bool) → is_eq (cmp q k) ≡ b → or_else (value_at cmp k delta) (cond b (change_between eq (value_at cmp q mid) w) None) ≡ change_between eq (value_at cmp k old) (cond b w (value_at cmp k mid))
        by true e = subst (λ x. or_else (value_at cmp x delta) (change_between eq (value_at cmp q mid) w) ≡ change_between eq (value_at cmp x old) w) (tied exact q k e) here
        by false e = or_else_none (value_at cmp k delta) ∙ first k

    -- the same, after an edit of one key
    pub difference_applied : (delta : List (K × Change V)) (q : K) (change : Change V) (w : Option V) (old mid new : List (K × V)) → left_by change ≡ w → IsAbove cmp q delta → IsDifference cmp eq old mid delta
        → IsApplied cmp ((q, change) ∷ []) mid new → IsDifference cmp eq old new (delta ++ told_at q (change_between eq (value_at cmp q mid) w))
    difference_applied delta q change w old mid new is above first second =
        difference_more delta q w old mid new above first (λ k. second k ∙ applied_at o k q change (value_at cmp k mid) ∙ ap (λ x. cond (is_eq (cmp q k)) x (value_at cmp k mid)) is)
