-- First members, by the marks of their groups.
use Rattle.std.proofs.Common.{◌≡◌, Bool, true, false, cond, List, [], ◌∷◌, ◌++◌, refl, sym, ap, ◌∙◌, subst, None, Some, Option}
use Rattle.std.specs.Prelude.{is_some, option_and_then}
use Rattle.std.proofs.lemmas.Cmp.{eq_by_cmp_equiv}
use Rattle.std.proofs.lemmas.Map.Lookups.{CmpEqualImpliesEq}
use Rattle.std.specs.Cmp.{IsTotalOrder}
use Rattle.std.specs.Option.{option_map}
use Rattle.std.specs.Ordering.{is_eq}
use Rattle.std.specs.declared.cmp.Ordering.{Ordering}
use Rattle.nv_map.specs.Map.{KeysRise, first_entry, value_at}
use Rattle.nv_map.proofs.Rising.{rise_none}
use Rattle.inc_table.specs.Delta.{IsApplied, change_to}
use Rattle.inc_table.specs.Nested.{value_in}
use Rattle.inc_table.specs.Node.{outputs_of}
use Rattle.inc_table.proofs.Applied.{applied_at, same_lists, tied}
use Rattle.inc_table.proofs.Ends.{or_else, value_append}
use Rattle.inc_table.proofs.Outputs.{left_to, rise_outputs, value_outputs}
use Rattle.inc_group.specs.Group.{among, members_of}
use Rattle.inc_group.proofs.Grouped.{rise_kept, value_members}
use Rattle.inc_first.specs.First.{HasFirsts, first_member}
use Rattle.inc_first.specs.inner.Marks.{AreMarked, IsUpdated, KeepsOthers, MarksRise, Rises, first_mark, mark_of}

-- the marks of entries
abbrev marks_of : {K V : Type 0} → List (K × V) → List (K × Unit {0})
marks_of entries = outputs_of (λ k v. tt) entries

abbrev first_of : {K V : Type 0} → List (K × V) → Option K
first_of entries = option_map (λ e. e.0) (first_entry entries)

first_marked : {K V : Type 0} (l : List (K × V)) → first_of (marks_of l) ≡ first_of l
first_marked [] = refl
first_marked (x ∷ l) = refl

module _ {K : Type 0} {cmp : K → K → Ordering} (o : IsTotalOrder cmp) (exact : CmpEqualImpliesEq cmp) where
  -- entries with a key wherever others have one begin with the same key
  same_first : {V : Type 0} (l : List (K × V)) (marks : List (K × Unit {0})) → KeysRise cmp l → KeysRise cmp marks → ((k : K) → value_at cmp k marks ≡ mark_of (value_at cmp k l)) → first_of marks ≡ first_of l
  same_first {V} l marks r s same =
      ap first_of (same_lists o exact marks (marks_of l) s (rise_outputs cmp (λ (k : K) (v : V). tt) l r) (λ k. same k ∙ sym (value_outputs cmp (λ (q : K) (v : V). tt) exact k l)))
      ∙ first_marked l

  module _ {V G : Type 0} (outer : G → G → Ordering) (groups_of : K → V → List G) where
    -- the first mark of a group is its first member
    marks_first : (group : G) (inputs : List (K × V)) (marks : List (G × List (K × Unit {0}))) → KeysRise cmp inputs → AreMarked cmp outer groups_of inputs marks → Rises cmp outer (value_at outer group marks) → first_mark outer group marks ≡ first_member outer groups_of group inputs
    marks_first group inputs marks r marked rises = by (value_at outer group marks) refl rises
      where
        members : KeysRise cmp (members_of outer groups_of group inputs)
        members = rise_kept cmp (λ e. among outer group (groups_of e.0 e.1)) inputs r

        at : (v : Option (List (K × Unit {0}))) → value_at outer group marks ≡ v → (k : K) → option_and_then (value_at cmp k) v ≡ mark_of (value_at cmp k (members_of outer groups_of group inputs))
        at v e k = ap (option_and_then (value_at cmp k)) (sym e) ∙ marked group k ∙ ap mark_of (sym (value_members o exact outer groups_of group k inputs r))

        by : (v : Option (List (K × Unit {0}))) → value_at outer group marks ≡ v → Rises cmp outer v → option_and_then (λ (keys : List (K × Unit {0})). first_of keys) v ≡ first_member outer groups_of group inputs
        by None e rise = same_first (members_of outer groups_of group inputs) [] members (rise_none (Unit {0}) cmp) (at None e)
        by (Some keys) e rise = same_first (members_of outer groups_of group inputs) keys members rise (at (Some keys) e)

    -- a group whose marks are as they were has the first member that it had
    stays : (group : G) (first now : List (K × V)) (before after : List (G × List (K × Unit {0}))) → KeysRise cmp first → KeysRise cmp now → AreMarked cmp outer groups_of first before → AreMarked cmp outer groups_of now after → ((key : K) → value_in outer cmp group key after ≡ value_in outer cmp group key before)
        → first_member outer groups_of group first ≡ first_member outer groups_of group now
    stays group first now before after r s marked again kept =
        sym (first_marked (members_of outer groups_of group first))
        ∙ same_first (members_of outer groups_of group now) (marks_of (members_of outer groups_of group first)) (rise_kept cmp (λ e. among outer group (groups_of e.0 e.1)) now s)
        (rise_outputs cmp (λ (k : K) (v : V). tt) (members_of outer groups_of group first) (rise_kept cmp (λ e. among outer group (groups_of e.0 e.1)) first r))
        (λ k.
        value_outputs cmp (λ (q : K) (v : V). tt) exact k (members_of outer groups_of group first)
        ∙ ap mark_of (value_members o exact outer groups_of group k first r)
        ∙ sym (marked group k) ∙ sym (kept k) ∙ again group k
        ∙ ap mark_of (sym (value_members o exact outer groups_of group k now s)))

    -- so a table that had the first members of the old inputs has those of the new ones
    pub still_first : (first now : List (K × V)) (before after : List (G × List (K × Unit {0}))) (touched : List (G × Unit {0})) (old new : List (G × K)) → KeysRise cmp first → KeysRise cmp now → AreMarked cmp outer groups_of first before → AreMarked cmp outer groups_of now after
        → KeepsOthers cmp outer touched before after → IsUpdated outer after touched old new → MarksRise cmp outer touched after → KeysRise outer new → HasFirsts outer groups_of first old → HasFirsts outer groups_of now new
    still_first first now before after touched old new r s marked again others updated rises rise firsts = (rise, λ group. updated group ∙ by group (value_at outer group touched) refl)
      where
        by : (group : G) (t : Option (Unit {0})) → value_at outer group touched ≡ t → cond (is_some (value_at outer group touched)) (first_mark outer group after) (value_at outer group old) ≡ first_member outer groups_of group now
        by group None e =
            ap (λ x. cond (is_some x) (first_mark outer group after) (value_at outer group old)) e
            ∙ firsts.1 group
            ∙ stays group first now before after r s marked again (λ key. others group key e)
        by group (Some u) e =
            ap (λ x. cond (is_some x) (first_mark outer group after) (value_at outer group old)) e
            ∙ marks_first group now after s again (rises group (ap is_some e))

-- no inputs have no groups
pub firsts_none : {K V G : Type 0} (outer : G → G → Ordering) (groups_of : K → V → List G) (inputs : List (K × V)) (table : List (G × K)) → inputs ≡ [] → table ≡ [] → HasFirsts outer groups_of inputs table
firsts_none {K} {V} {G} outer groups_of inputs table e f = subst (λ i. HasFirsts outer groups_of i table) (sym e) (subst (λ t. HasFirsts outer groups_of [] t) (sym f) (rise_none K outer, λ group. refl))

pub marked_empty : {K V G : Type 0} (inner : K → K → Ordering) (outer : G → G → Ordering) (groups_of : K → V → List G) (inputs : List (K × V)) (marks : List (G × List (K × Unit {0}))) → inputs ≡ [] → marks ≡ [] → AreMarked inner outer groups_of inputs marks
marked_empty {K} {V} {G} inner outer groups_of inputs marks e f = subst (λ i. AreMarked inner outer groups_of i marks) (sym e) (subst (λ m. AreMarked inner outer groups_of [] m) (sym f) (λ group key. by (among outer group [])))
  where
    by : (b : Bool) → ◌≡◌ {A = Option (Unit {0})} None (mark_of {V = V} (cond b None None))
    by true = refl
    by false = refl

-- two tables that have the same first members are one
pub one_table : {K V G : Type 0} {outer : G → G → Ordering} → IsTotalOrder outer → CmpEqualImpliesEq outer → (groups_of : K → V → List G) (inputs : List (K × V)) (one other : List (G × K)) → HasFirsts outer groups_of inputs one → HasFirsts outer groups_of inputs other → one ≡ other
one_table o exact groups_of inputs one other a b = same_lists o exact one other a.0 b.0 (λ group. a.1 group ∙ sym (b.1 group))

-- the groups so far are looked up anew, and one more
module _ {K G : Type 0} {outer : G → G → Ordering} (o : IsTotalOrder outer) (exact : CmpEqualImpliesEq outer) (marks : List (G × List (K × Unit {0}))) where
  some_last : (t : Option (Unit {0})) (b : Bool) (u : Unit {0}) → b ≡ true → is_some (or_else t (cond b (Some u) None)) ≡ true
  some_last None true u e = refl
  some_last None false u e = absurd (cc)
  some_last (Some v) b u e = refl

  some_else : (t : Option (Unit {0})) (b : Bool) (u : Unit {0}) → b ≡ false → is_some (or_else t (cond b (Some u) None)) ≡ is_some t
  some_else None true u e = absurd (cc)
  some_else None false u e = refl
  some_else (Some v) b u e = refl

  touched_last : (group q : G) (u : Unit {0}) (groups : List (G × Unit {0})) → is_some (value_at outer group (groups ++ (q, u) ∷ [])) ≡ is_some (or_else (value_at outer group groups) (cond (is_eq (outer q group)) (Some u) None))
  touched_last group q u groups = ap is_some (value_append outer group groups ((q, u) ∷ []) ∙ ap (λ b. or_else (value_at outer group groups) (cond b (Some u) None)) ((eq_by_cmp_equiv o).symm group q))

  pub updated_none : (table : List (G × K)) → IsUpdated outer marks [] table table
  updated_none table group = refl

  pub updated_more : (q : G) (u : Unit {0}) (groups : List (G × Unit {0})) (first : Option K) (begin old new : List (G × K)) → first ≡ first_mark outer q marks → IsUpdated outer marks groups begin old → IsApplied outer ((q, change_to first) ∷ []) old new → IsUpdated outer marks (groups ++ (q, u) ∷ []) begin new
  updated_more q u groups first begin old new is so_far applied group =
      applied group ∙ applied_at o group q (change_to first) (value_at outer group old) ∙ ap (λ x. cond (is_eq (outer q group)) x (value_at outer group old)) (left_to first)
      ∙ by (is_eq (outer q group)) refl
      ∙ ap (λ b. cond b (first_mark outer group marks) (value_at outer group begin)) (sym (touched_last group q u groups))
    where
      by : (b : Bool) → is_eq (outer q group) ≡ b → cond b first (value_at outer group old) ≡ cond (is_some (or_else (value_at outer group groups) (cond (is_eq (outer q group)) (Some u) None))) (first_mark outer group marks) (value_at outer group begin)
      by true e = is ∙ ap (λ k. first_mark outer k marks) (tied exact q group e) ∙ ap (λ b. cond b (first_mark outer group marks) (value_at outer group begin)) (sym (some_last (value_at outer group groups) (is_eq (outer q group)) u e))
      by false e = so_far group ∙ ap (λ b. cond b (first_mark outer group marks) (value_at outer group begin)) (sym (some_else (value_at outer group groups) (is_eq (outer q group)) u e))

  pub rises_none : (inner : K → K → Ordering) → MarksRise inner outer [] marks
  rises_none inner group e = absurd (cc)

  pub rises_more : (inner : K → K → Ordering) (q : G) (u : Unit {0}) (groups : List (G × Unit {0})) → MarksRise inner outer groups marks → Rises inner outer (value_at outer q marks) → MarksRise inner outer (groups ++ (q, u) ∷ []) marks
  rises_more inner q u groups so_far rises group e = by (is_eq (outer q group)) refl
    where
      by : (b : Bool) → is_eq (outer q group) ≡ b → Rises inner outer (value_at outer group marks)
      by true t = subst (λ k. Rises inner outer (value_at outer k marks)) (tied exact q group t) rises
      by false t = so_far group (sym (some_else (value_at outer group groups) (is_eq (outer q group)) u t) ∙ sym (touched_last group q u groups) ∙ e)
