-- The members of a group, key by key.
use Rattle.std.proofs.Common.{◌≡◌, Bool, true, false, cond, List, [], ◌∷◌, refl, sym, ap, ◌∙◌, subst, None, Some, Option}
use Rattle.std.specs.Prelude.{filter, option_and_then}
use Rattle.std.proofs.lemmas.Map.Lookups.{CmpEqualImpliesEq}
use Rattle.std.specs.Cmp.{IsTotalOrder}
use Rattle.std.specs.List.{AllByRecursion}
use Rattle.std.specs.List.Sorted.{IsStrictlySortedBy}
use Rattle.std.specs.Map.{keys_of}
use Rattle.std.specs.Ordering.{is_eq}
use Rattle.std.specs.declared.cmp.Ordering.{Ordering}
use Rattle.std.specs.declared.cmp.Ordering.TheVariants.{Less}
use Rattle.nv_map.specs.Map.{KeysRise, value_at}
use Rattle.nv_map.proofs.Rising.{rise_head, rise_none, rise_tail}
use Rattle.inc_table.specs.Delta.{after_change}
use Rattle.inc_table.specs.declared.delta.Change.{Change}
use Rattle.inc_table.specs.Nested.{value_in}
use Rattle.inc_table.proofs.Applied.{same_lists, tied}
use Rattle.inc_table.proofs.Ends.{below_none}
use Rattle.inc_group.specs.Group.{IsGrouped, among, members_of, where_any}
use Rattle.inc_group.specs.inner.Moves.{AreWhole, IsMoved, IsRegrouped, IsWhole, groups_in, member_in}

module _ {K V : Type 0} (cmp : K → K → Ordering) where
  all_kept : (P : K → Type 0) (p : K × V → Bool) (l : List (K × V)) → AllByRecursion P (keys_of l) → AllByRecursion P (keys_of (filter p l))
  all_kept P p [] a = tt
  all_kept P p (x ∷ l) a = by (p x) (all_kept P p l a.1)
    where
      by : (b : Bool) → AllByRecursion P (keys_of (filter p l)) → AllByRecursion P (keys_of (cond b (x ∷ filter p l) (filter p l)))
      by true rest = (a.0, rest)
      by false rest = rest

  rise_on : (e : K × V) (l : List (K × V)) → AllByRecursion (λ y. cmp e.0 y ≡ Less) (keys_of l) → KeysRise cmp l → KeysRise cmp (e ∷ l)
  unfolding IsStrictlySortedBy
  rise_on e l a r = (a, r)

  -- what is kept of rising keys rises
  pub rise_kept : (p : K × V → Bool) (l : List (K × V)) → KeysRise cmp l → KeysRise cmp (filter p l)
  rise_kept p [] r = r
  rise_kept p (x ∷ l) r = by (p x) (rise_kept p l (rise_tail cmp x l r))
    where
      by : (b : Bool) → KeysRise cmp (filter p l) → KeysRise cmp (cond b (x ∷ filter p l) (filter p l))
      by true rest = rise_on x (filter p l) (all_kept (λ y. cmp x.0 y ≡ Less) p l (rise_head cmp x l r)) rest
      by false rest = rest

  -- members where there are any, key by key; and they are whole
  pub value_where : (k : K) (l : List (K × V)) → option_and_then (value_at cmp k) (where_any l) ≡ value_at cmp k l
  value_where k [] = refl
  value_where k (x ∷ l) = refl

  pub whole_where : (l : List (K × V)) → KeysRise cmp l → IsWhole cmp (where_any l)
  whole_where [] r = tt
  whole_where (x ∷ l) r = r

-- the value of a key, where it passes
abbrev kept_at : {K V : Type 0} → (K → V → Bool) → K → Option V → Option V
kept_at p k None = None
kept_at p k (Some v) = cond (p k v) (Some v) None

module _ {K V : Type 0} {cmp : K → K → Ordering} (o : IsTotalOrder cmp) (exact : CmpEqualImpliesEq cmp) where
  -- what is kept, key by key
  value_kept : (p : K → V → Bool) (k : K) (l : List (K × V)) → KeysRise cmp l → value_at cmp k (filter (λ e. p e.0 e.1) l) ≡ kept_at p k (value_at cmp k l)
  value_kept p k [] r = refl
  value_kept p k (x ∷ l) r = by (is_eq (cmp k x.0)) refl (p x.0 x.1) refl (value_kept p k l (rise_tail cmp x l r))
    where
      by : (b : Bool) → is_eq (cmp k x.0) ≡ b → (t : Bool) → p x.0 x.1 ≡ t → value_at cmp k (filter (λ e. p e.0 e.1) l) ≡ kept_at p k (value_at cmp k l)
          → value_at cmp k (cond t (x ∷ filter (λ e. p e.0 e.1) l) (filter (λ e. p e.0 e.1) l)) ≡ kept_at p k (cond b (Some x.1) (value_at cmp k l))
      by true e true t rest =
          ap (λ b. cond b (Some x.1) (value_at cmp k (filter (λ e. p e.0 e.1) l))) e
          ∙ sym (ap (λ b. cond b (Some x.1) None) (ap (λ q. p q x.1) (tied exact k x.0 e) ∙ t))
      by true e false t rest =
          let none : value_at cmp k l ≡ None = below_none o k l (subst (λ q. AllByRecursion (λ y. cmp q y ≡ Less) (keys_of l)) (sym (tied exact k x.0 e)) (rise_head cmp x l r)) in
          rest ∙ ap (kept_at p k) none
          ∙ sym (ap (λ b. cond b (Some x.1) None) (ap (λ q. p q x.1) (tied exact k x.0 e) ∙ t))
      by false e true t rest = ap (λ b. cond b (Some x.1) (value_at cmp k (filter (λ e. p e.0 e.1) l))) e ∙ rest
      by false e false t rest = rest

  -- a group has of each key what it has of the input there
  pub value_members : {G : Type 0} (outer : G → G → Ordering) (groups_of : K → V → List G) (group : G) (k : K) (inputs : List (K × V)) → KeysRise cmp inputs → value_at cmp k (members_of outer groups_of group inputs) ≡ member_in outer groups_of group k (value_at cmp k inputs)
  value_members outer groups_of group k inputs r = value_kept (λ q v. among outer group (groups_of q v)) k inputs r ∙ by (value_at cmp k inputs)
    where
      by : (v : Option V) → kept_at (λ q w. among outer group (groups_of q w)) k v ≡ member_in outer groups_of group k v
      by None = refl
      by (Some v) = refl

  -- members that are whole, and have the same value at each key, are those
  whole_members : (members : List (K × V)) (v : Option (List (K × V))) → KeysRise cmp members → IsWhole cmp v → ((k : K) → option_and_then (value_at cmp k) v ≡ value_at cmp k members) → v ≡ where_any members
  whole_members members None r w same = ap where_any (same_lists o exact [] members (rise_none V cmp) r same)
  whole_members members (Some []) r w same = absurd w
  whole_members members (Some (x ∷ l)) r w same = ap where_any (same_lists o exact (x ∷ l) members w r same)

  module _ {G : Type 0} (outer : G → G → Ordering) (groups_of : K → V → List G) where
    pub whole_grouped : (inputs : List (K × V)) (table : List (G × List (K × V))) → KeysRise cmp inputs → IsGrouped outer groups_of inputs table → AreWhole outer cmp table
    whole_grouped inputs table r grouped group = subst (IsWhole cmp) (sym (grouped.1 group)) (whole_where cmp (members_of outer groups_of group inputs) (rise_kept cmp (λ e. among outer group (groups_of e.0 e.1)) inputs r))

    -- a table that has the groups of the old inputs has those of the new ones after the moves that lead there
    pub still_grouped : (first now : List (K × V)) (moves : List (G × List (K × Change V))) (old new : List (G × List (K × V))) → KeysRise cmp first → KeysRise cmp now → IsMoved cmp outer groups_of first now moves → IsRegrouped outer cmp moves old new → AreWhole outer cmp new → KeysRise outer new
        → IsGrouped outer groups_of first old → IsGrouped outer groups_of now new
    still_grouped first now moves old new r s moved regrouped whole rise grouped = (
      rise,
      λ group. whole_members (members_of outer groups_of group now) (value_at outer group new) (rise_kept cmp (λ e. among outer group (groups_of e.0 e.1)) now s) (whole group) (λ k.
          regrouped group k
          ∙ ap (after_change (value_in outer cmp group k moves)) (ap (option_and_then (value_at cmp k)) (grouped.1 group) ∙ value_where cmp k (members_of outer groups_of group first) ∙ value_members outer groups_of group k first r)
          ∙ sym (moved group k)
          ∙ sym (value_members outer groups_of group k now s)),
    )

-- no inputs have no groups
pub grouped_none : {K V G : Type 0} (outer : G → G → Ordering) (groups_of : K → V → List G) (inputs : List (K × V)) (table : List (G × List (K × V))) → inputs ≡ [] → table ≡ [] → IsGrouped outer groups_of inputs table
grouped_none {K} {V} {G} outer groups_of inputs table e f = subst (λ i. IsGrouped outer groups_of i table) (sym e) (subst (λ t. IsGrouped outer groups_of [] t) (sym f) (rise_none (List (K × V)) outer, λ group. refl))

-- two tables that have the same groups are one
pub one_table : {K V G : Type 0} {outer : G → G → Ordering} → IsTotalOrder outer → CmpEqualImpliesEq outer → (groups_of : K → V → List G) (inputs : List (K × V)) (one other : List (G × List (K × V))) → IsGrouped outer groups_of inputs one → IsGrouped outer groups_of inputs other → one ≡ other
one_table o exact groups_of inputs one other a b = same_lists o exact one other a.0 b.0 (λ group. a.1 group ∙ sym (b.1 group))
