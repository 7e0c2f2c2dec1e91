-- What the index of tags is searched by.
use Rattle.std.specs.Prelude.{◌≡◌, ◌<◌, Bool, true, false, cond, Option, None, Some, nat_lt, ◌==◌}
use Rattle.std.proofs.Common.{refl, sym, ap, ◌∙◌, arith}
use borrow.Author.Tests.{ltb-true, lt-ltb}
use Rattle.std.proofs.lemmas.Bool.{true≢false}
use Rattle.std.proofs.lemmas.Cmp.{nat_cmp_total}
use Rattle.std.specs.Cmp.{IsTotalOrder, then_total, on_total}
use Rattle.std.specs.Ordering.{ordering_then, match_ordering, is_gt}
use Rattle.std.specs.declared.cmp.Ordering.{Ordering}
use Rattle.std.specs.declared.cmp.Ordering.TheVariants.{Less, Equal, Greater}
use Rattle.nv_base.specs.declared.object.ObjId.{ObjId}
use Rattle.nv_table.specs.Table.{is_after, order_at}
use Rattle.nv_table.specs.inner.Index.{Mark, number_cmp, mark_cmp}
use Rattle.nv_map.specs.Map.{PartsKeys}
use Rattle.nv_map.specs.inner.Keys.{keys_part}

-- below the marks of a tag whose numbers are above the one given
abbrev pub past_order : {T : Type 0} → (T → Ordering) → Option ObjId → Mark T → Ordering
past_order order after mark = match_ordering (order mark.0) Less (cond (is_after after mark.1) Less Greater) Greater

-- as the mark of a tag and a number
abbrev pub own_order : {T : Type 0} → (T → T → Ordering) → Option T → ObjId → Mark T → Ordering
own_order cmp tag n mark = ordering_then (order_at cmp tag mark.0) (number_cmp n mark.1)

-- the order of marks is a total one
pub mark_total : {T : Type 0} {cmp : T → T → Ordering} → IsTotalOrder cmp → IsTotalOrder (mark_cmp cmp)
mark_total total = then_total (on_total (λ (m : Mark _). m.0) total) (on_total (λ (m : Mark _). m.1.0) nat_cmp_total)

rises : (after : Option ObjId) (n m : ObjId) → n.0 < m.0 → is_after after n ≡ true → is_after after m ≡ true
rises None n m above e = refl
rises (Some low) n m above e = lt-ltb _ _ (omega (arith, ltb-true _ _ e))

pub less_is : (n m : ObjId) → number_cmp n m ≡ Less → n.0 < m.0
less_is n m = by (nat_lt n.0 m.0) refl
  where
    by : (b : Bool) → nat_lt n.0 m.0 ≡ b → cond b Less (cond (n.0 == m.0) Equal Greater) ≡ Less → n.0 < m.0
    by true t e = ltb-true _ _ t
    by false t e = absurd (not_less (n.0 == m.0) e)
      where
        not_less : (b : Bool) → cond b Equal Greater ≡ Less → ⊥
        not_less true f = cc
        not_less false f = cc

module _ {T : Type 0} {cmp : T → T → Ordering} {order : T → Ordering} (p : PartsKeys cmp order) (exact : (a b : T) → cmp a b ≡ Equal → a ≡ b) (after : Option ObjId) where
  past_by : (a b : Mark T) (r : Ordering) → order a.0 ≡ r → (q : Ordering) → cmp a.0 b.0 ≡ q → ordering_then q (number_cmp a.1 b.1) ≡ Less
      → is_gt (match_ordering r Less (cond (is_after after a.1) Less Greater) Greater) ≡ false → past_order order after b ≡ Less
  past_by a b r e Greater c below h = absurd (cc)
  past_by a b Greater e q c below h = absurd (true≢false h)
  past_by a b Less e Less c below h = ap (λ s. match_ordering s Less (cond (is_after after b.1) Less Greater) Greater) (p.below a.0 b.0 c (ap is_gt e))
  past_by a b Equal e Less c below h = ap (λ s. match_ordering s Less (cond (is_after after b.1) Less Greater) Greater) (p.below a.0 b.0 c (ap is_gt e))
  past_by a b Less e Equal c below h = ap (λ s. match_ordering s Less (cond (is_after after b.1) Less Greater) Greater) (ap order (sym (exact a.0 b.0 c)) ∙ e)
  past_by a b Equal e Equal c below h =
      ap (λ s. match_ordering s Less (cond (is_after after b.1) Less Greater) Greater) (ap order (sym (exact a.0 b.0 c)) ∙ e)
      ∙ ap (λ s. cond s Less Greater) (rises after a.1 b.1 (less_is a.1 b.1 below) (is_true (is_after after a.1) h))
    where
      is_true : (s : Bool) → is_gt (cond s Less Greater) ≡ false → s ≡ true
      is_true true f = refl
      is_true false f = absurd (true≢false f)

  -- that place parts the marks
  pub past_parts : PartsKeys (mark_cmp cmp) (past_order order after)
  past_parts = record { below = λ a b above h. past_by a b (order a.0) refl (cmp a.0 b.0) refl above h }

-- and so does a mark
pub own_parts : {T : Type 0} {cmp : T → T → Ordering} → IsTotalOrder cmp → (tag : Option T) (n : ObjId) → PartsKeys (mark_cmp cmp) (own_order cmp tag n)
own_parts total None n = record { below = λ a b above h. absurd (true≢false h) }
own_parts total (Some tag) n = keys_part (mark_total total) (tag, n)
