-- A table of groups after the changes of one group more.
use Rattle.std.proofs.Common.{◌≡◌, Bool, true, false, cond, List, [], ◌∷◌, ◌++◌, append-nil, refl, sym, ap, ◌∙◌, subst, None, Some, Option}
use Rattle.std.specs.Prelude.{option_and_then}
use Rattle.std.proofs.lemmas.Cmp.{eq_by_cmp_equiv}
use Rattle.std.proofs.lemmas.Map.Lookups.{CmpEqualImpliesEq}
use Rattle.std.specs.Cmp.{IsTotalOrder}
use Rattle.std.specs.Ordering.{is_eq}
use Rattle.std.specs.declared.cmp.Ordering.{Ordering}
use Rattle.nv_map.specs.Map.{KeysRise, value_at}
use Rattle.inc_table.specs.declared.delta.Change.{Change}
use Rattle.inc_table.specs.Delta.{IsAbove, IsApplied, after_change, change_to, told_at}
use Rattle.inc_table.specs.Nested.{value_in}
use Rattle.inc_table.proofs.Applied.{applied_at, tied}
use Rattle.inc_table.proofs.Ends.{above_none, or_else, or_else_none, rise_last, value_append}
use Rattle.inc_table.proofs.Outputs.{left_to}
use Rattle.inc_group.specs.inner.Moves.{AreWhole, IsRegrouped, IsWhole, entries_in}

value_entries : {K V : Type 0} (cmp : K → K → Ordering) (k : K) (v : Option (List (K × V))) → option_and_then (value_at cmp k) v ≡ value_at cmp k (entries_in v)
value_entries cmp k None = refl
value_entries cmp k (Some l) = refl

-- with what is told of a key above all that was told, the keys rise still
pub rise_told : {K V : Type 0} {cmp : K → K → Ordering} → IsTotalOrder cmp → (told more : List (K × Change V)) (q : K) (change : Option (Change V)) → KeysRise cmp told → IsAbove cmp q told → more ≡ told ++ told_at q change → KeysRise cmp more
rise_told {K} {V} {cmp} o told more q None r a is = subst (λ l. KeysRise cmp l) (sym (is ∙ append-nil told)) r
rise_told {K} {V} {cmp} o told more q (Some change) r a is = subst (λ l. KeysRise cmp l) (sym is) (rise_last o (q, change) told r a)

pub regrouped_none : {K V G : Type 0} (outer : G → G → Ordering) (inner : K → K → Ordering) (table : List (G × List (K × V))) → IsRegrouped outer inner [] table table
regrouped_none outer inner table group key = refl

module _ {K V G : Type 0} {outer : G → G → Ordering} (o : IsTotalOrder outer) (exact : CmpEqualImpliesEq outer) (inner : K → K → Ordering) where
  left_at : (group q : G) (members : Option (List (K × V))) (old new : List (G × List (K × V))) → IsApplied outer ((q, change_to members) ∷ []) old new → value_at outer group new ≡ cond (is_eq (outer q group)) members (value_at outer group old)
  left_at group q members old new applied = applied group ∙ applied_at o group q (change_to members) (value_at outer group old) ∙ ap (λ x. cond (is_eq (outer q group)) x (value_at outer group old)) (left_to members)

  pub whole_more : (q : G) (members : Option (List (K × V))) (old new : List (G × List (K × V))) → IsWhole inner members → IsApplied outer ((q, change_to members) ∷ []) old new → AreWhole outer inner old → AreWhole outer inner new
  whole_more q members old new whole applied so_far group = subst (IsWhole inner) (sym (left_at group q members old new applied)) (by (is_eq (outer q group)))
    where
      by : (b : Bool) → IsWhole inner (cond b members (value_at outer group old))
      by true = whole
      by false = so_far group

  pub regrouped_more : (q : G) (changes : List (K × Change V)) (moves : List (G × List (K × Change V))) (members : Option (List (K × V))) (first old new : List (G × List (K × V))) → IsAbove outer q moves → IsApplied inner changes (entries_in (value_at outer q old)) (entries_in members)
      → IsRegrouped outer inner moves first old → IsApplied outer ((q, change_to members) ∷ []) old new → IsRegrouped outer inner (moves ++ (q, changes) ∷ []) first new
  regrouped_more q changes moves members first old new above is so_far applied group key =
      ap (option_and_then (value_at inner key)) (left_at group q members old new applied)
      ∙ by (is_eq (outer q group)) refl
      ∙ ap (λ x. after_change (option_and_then (value_at inner key) x) (value_in outer inner group key first))
      (ap (λ b. or_else (value_at outer group moves) (cond b (Some changes) None)) ((eq_by_cmp_equiv o).symm q group) ∙ sym (value_append outer group moves ((q, changes) ∷ [])))
    where
      none : value_at outer q moves ≡ None
      none = above_none o q moves above

      here : option_and_then (value_at inner key) members ≡ after_change (option_and_then (value_at inner key) (or_else (value_at outer q moves) (Some changes))) (value_in outer inner q key first)
      here =
          value_entries inner key members
          ∙ is key
          ∙ ap (after_change (value_at inner key changes)) (sym (value_entries inner key (value_at outer q old)) ∙ so_far q key ∙ ap (λ x. after_change (option_and_then (value_at inner key) x) (value_in outer inner q key first)) none)
          ∙ sym (ap (λ x. after_change (option_and_then (value_at inner key) (or_else x (Some changes))) (value_in outer inner q key first)) none)

      by : (b : Bool) → is_eq (outer q group) ≡ b
          → option_and_then (value_at inner key) (cond b members (value_at outer group old)) ≡ after_change (option_and_then (value_at inner key) (or_else (value_at outer group moves) (cond b (Some changes) None))) (value_in outer inner group key first)
      by true e = subst (λ g. option_and_then (value_at inner key) members ≡ after_change (option_and_then (value_at inner key) (or_else (value_at outer g moves) (Some changes))) (value_in outer inner g key first)) (tied exact q group e) here
      by false e = so_far group key ∙ sym (ap (λ x. after_change (option_and_then (value_at inner key) x) (value_in outer inner group key first)) (or_else_none (value_at outer group moves)))
