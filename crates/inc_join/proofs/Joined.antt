-- A table of left entries, changed at one left key.
use Rattle.std.proofs.Common.{◌≡◌, Bool, true, false, cond, List, [], ◌∷◌, ◌++◌, refl, sym, ap, ◌∙◌, subst, None, Some, Option}
use Rattle.std.specs.Prelude.{option_and_then}
use Rattle.std.proofs.lemmas.Map.Lookups.{CmpEqualImpliesEq}
use Rattle.std.specs.Cmp.{IsTotalOrder}
use Rattle.std.specs.Option.{option_map}
use Rattle.std.specs.Ordering.{is_eq}
use Rattle.std.specs.declared.cmp.Ordering.{Ordering}
use Rattle.nv_map.specs.Map.{KeysRise, value_at}
use Rattle.inc_table.specs.declared.delta.Change.{Change}
use Rattle.inc_table.specs.declared.delta.Change.TheVariants.{Put}
use Rattle.inc_table.specs.Delta.{after_change, change_to, left_by, puts_of, IsAbove, IsApplied}
use Rattle.inc_table.specs.Nested.{value_in}
use Rattle.inc_table.proofs.Applied.{applied_at, same_lists, tied}
use Rattle.inc_table.proofs.Outputs.{applied_value, left_to, rise_outputs, same_outputs, value_outputs}
use Rattle.inc_join.specs.Join.{joined, lefts_of, with_right}
use Rattle.inc_join.specs.inner.Index.{IsIndexed, KeepsOthers, named_at}

module _ {K L R : Type 0} {cmp : K → K → Ordering} (o : IsTotalOrder cmp) (exact : CmpEqualImpliesEq cmp) where
  -- the left value of an entry
  pub value_lefts : (k : K) (table : List (K × (L × Option R))) → value_at cmp k (lefts_of table) ≡ option_map (λ (e : L × Option R). e.0) (value_at cmp k table)
  value_lefts k table = value_outputs cmp (λ (q : K) (e : L × Option R). e.0) exact k table

  pub rise_lefts : (table : List (K × (L × Option R))) → KeysRise cmp table → KeysRise cmp (lefts_of table)
  rise_lefts table r = rise_outputs cmp (λ (q : K) (e : L × Option R). e.0) table r

  -- a change of an entry is one of its left value
  lefts_applied : (q : K) (entry : Option (L × Option R)) (left : Option L) (old new : List (K × (L × Option R))) → option_map (λ (e : L × Option R). e.0) entry ≡ left → IsApplied cmp ((q, change_to entry) ∷ []) old new → IsApplied cmp ((q, change_to left) ∷ []) (lefts_of old) (lefts_of new)
  lefts_applied q entry left old new is applied k =
      value_lefts k new
      ∙ ap (option_map (λ (e : L × Option R). e.0)) (applied k ∙ applied_at o k q (change_to entry) (value_at cmp k old) ∙ ap (λ x. cond (is_eq (cmp q k)) x (value_at cmp k old)) (left_to entry))
      ∙ by (is_eq (cmp q k))
      ∙ sym (applied_at o k q (change_to left) (value_at cmp k (lefts_of old)) ∙ ap (λ x. cond (is_eq (cmp q k)) x (value_at cmp k (lefts_of old))) (left_to left))
    where
      by : (b : Bool) → option_map (λ (e : L × Option R). e.0) (cond b entry (value_at cmp k old)) ≡ cond b left (value_at cmp k (lefts_of old))
      by true = is
      by false = sym (value_lefts k old)

module _ {K L Q R : Type 0} {cmp : K → K → Ordering} (o : IsTotalOrder cmp) (exact : CmpEqualImpliesEq cmp) (right_cmp : Q → Q → Ordering) (link_of : L → Option Q) (rights : List (Q × R)) where
  left_again : (left : Option L) → option_map (λ (e : L × Option R). e.0) (option_map (with_right right_cmp link_of rights) left) ≡ left
  left_again None = refl
  left_again (Some left) = refl

  -- the deltas so far, and one change more
  pub left_more : (delta : List (K × Change L)) (q : K) (change : Change L) (entry : Option (L × Option R)) (first old new : List (K × (L × Option R))) → IsAbove cmp q delta → entry ≡ option_map (with_right right_cmp link_of rights) (left_by change)
      → IsApplied cmp delta (lefts_of first) (lefts_of old) → IsApplied cmp ((q, change_to entry) ∷ []) old new → IsApplied cmp (delta ++ (q, change) ∷ []) (lefts_of first) (lefts_of new)
  left_more delta q change entry first old new above is so_far applied =
      applied_value o exact delta q change (left_by change) (lefts_of first) (lefts_of old) (lefts_of new) refl above so_far
      (lefts_applied o exact q entry (left_by change) old new (ap (option_map (λ (e : L × Option R). e.0)) is ∙ left_again (left_by change)) applied)

  -- each entry is a left value with the right value that it names
  pub joined_by : (table : List (K × (L × Option R))) → KeysRise cmp table → ((k : K) → value_at cmp k table ≡ option_map (with_right right_cmp link_of rights) (value_at cmp k (lefts_of table))) → table ≡ joined right_cmp link_of (lefts_of table) rights
  joined_by table rise same = same_outputs o exact (λ (k : K). with_right right_cmp link_of rights) table (lefts_of table) rise (rise_lefts o exact table rise) same

  pub value_joined : (table : List (K × (L × Option R))) → table ≡ joined right_cmp link_of (lefts_of table) rights → (k : K) → value_at cmp k table ≡ option_map (with_right right_cmp link_of rights) (value_at cmp k (lefts_of table))
  value_joined table is k = ap (value_at cmp k) is ∙ value_outputs cmp (λ (q : K). with_right right_cmp link_of rights) exact k (lefts_of table)

  pub joined_more : (q : K) (change : Change L) (entry : Option (L × Option R)) (old new : List (K × (L × Option R))) → KeysRise cmp new → entry ≡ option_map (with_right right_cmp link_of rights) (left_by change)
      → old ≡ joined right_cmp link_of (lefts_of old) rights → IsApplied cmp ((q, change_to entry) ∷ []) old new → new ≡ joined right_cmp link_of (lefts_of new) rights
  joined_more q change entry old new rise is so_far applied =
      joined_by new rise (λ k.
      applied k ∙ applied_at o k q (change_to entry) (value_at cmp k old) ∙ ap (λ x. cond (is_eq (cmp q k)) x (value_at cmp k old)) (left_to entry)
      ∙ by k (is_eq (cmp q k))
      ∙ ap (option_map (with_right right_cmp link_of rights)) (sym (lefts_applied o exact q entry (left_by change) old new (ap (option_map (λ (e : L × Option R). e.0)) is ∙ left_again (left_by change)) applied k
      ∙ applied_at o k q (change_to (left_by change)) (value_at cmp k (lefts_of old)) ∙ ap (λ x. cond (is_eq (cmp q k)) x (value_at cmp k (lefts_of old))) (left_to (left_by change)))))
    where
      by : (k : K) (b : Bool) → cond b entry (value_at cmp k old) ≡ option_map (with_right right_cmp link_of rights) (cond b (left_by change) (value_at cmp k (lefts_of old)))
      by k true = is
      by k false = value_joined old so_far k

  -- the index has the left key under what it names now
  pub indexed_more : (q : K) (change : Change L) (entry : Option (L × Option R)) (old new : List (K × (L × Option R))) (index between after : List (Q × List (K × Unit {0}))) → entry ≡ option_map (with_right right_cmp link_of rights) (left_by change) → IsApplied cmp ((q, change_to entry) ∷ []) old new
      → KeepsOthers cmp right_cmp q index between → KeepsOthers cmp right_cmp q between after → ((right : Q) → option_and_then link_of (left_by change) ≡ Some right → value_in right_cmp cmp right q after ≡ Some tt) → IsIndexed cmp right_cmp link_of old index → IsIndexed cmp right_cmp link_of new after
  indexed_more q change entry old new index between after is applied first second named so_far key right e =
      by (is_eq (cmp q key)) refl (sym (ap (named_at link_of) (applied key ∙ applied_at o key q (change_to entry) (value_at cmp key old) ∙ ap (λ x. cond (is_eq (cmp q key)) x (value_at cmp key old)) (left_to entry))) ∙ e)
    where
      names : (left : Option L) → named_at link_of (option_map (with_right right_cmp link_of rights) left) ≡ option_and_then link_of left
      names None = refl
      names (Some left) = refl

      by : (b : Bool) → is_eq (cmp q key) ≡ b → named_at link_of (cond b entry (value_at cmp key old)) ≡ Some right → value_in right_cmp cmp right key after ≡ Some tt
      by true t f = subst (λ k. value_in right_cmp cmp right k after ≡ Some tt) (tied exact q key t) (named right (sym (names (left_by change)) ∙ ap (named_at link_of) (sym is) ∙ f))
      by false t f = second key right t ∙ first key right t ∙ so_far key right f

-- what the delta that puts all leads to, from nothing, is all
puts_value : {K L : Type 0} (cmp : K → K → Ordering) (k : K) (l : List (K × L)) → after_change (value_at cmp k (puts_of l)) None ≡ value_at cmp k l
puts_value cmp k [] = refl
puts_value cmp k (x ∷ l) = by (is_eq (cmp k x.0)) (puts_value cmp k l)
  where
    by : (b : Bool) → after_change (value_at cmp k (puts_of l)) None ≡ value_at cmp k l → after_change (cond b (Some (Put x.1)) (value_at cmp k (puts_of l))) None ≡ cond b (Some x.1) (value_at cmp k l)
    by true rest = refl
    by false rest = rest

pub all_put : {K L : Type 0} {cmp : K → K → Ordering} → IsTotalOrder cmp → CmpEqualImpliesEq cmp → (l new : List (K × L)) (delta : List (K × Change L)) → KeysRise cmp l → KeysRise cmp new → delta ≡ puts_of l → IsApplied cmp delta [] new → new ≡ l
all_put {K} {L} {cmp} o exact l new delta r s is applied = same_lists o exact new l s r (λ k. applied k ∙ ap (λ d. after_change (value_at cmp k d) None) is ∙ puts_value cmp k l)
