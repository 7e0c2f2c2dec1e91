-- Members gone through by rising key: those below a key, and what comes after it.
use Rattle.std.proofs.Common.{◌≡◌, length, arith, Bool, true, false, cond, List, [], ◌∷◌, ◌++◌, append_assoc, append-nil, refl, sym, ap, ◌∙◌, subst, None, Some, Option}
use Rattle.std.proofs.lemmas.Cmp.{eq_by_cmp_equiv}
use Rattle.std.proofs.lemmas.Map.Lookups.{CmpEqualImpliesEq}
use Rattle.std.specs.Cmp.{IsTotalOrder}
use Rattle.std.specs.List.{AllByRecursion}
use Rattle.std.specs.List.Sorted.{IsStrictlySortedBy}
use Rattle.std.specs.Map.{keys_of}
use Rattle.std.specs.Ordering.{is_eq}
use Rattle.std.specs.declared.cmp.Ordering.{Ordering}
use Rattle.std.specs.declared.cmp.Ordering.TheVariants.{Less, Equal, Greater}
use Rattle.nv_map.specs.Map.{KeysRise, value_at}
use Rattle.nv_map.proofs.Rising.{all_turned, rise_back, rise_below, rise_head, turned_back}
use Rattle.inc_table.specs.declared.delta.Change.{Change}
use Rattle.inc_table.specs.declared.delta.Change.TheVariants.{Put, Gone}
use Rattle.inc_table.specs.Delta.{IsAbove, IsApplied, left_by}
use Rattle.inc_table.specs.inner.Walk.{IsBelow, entry_list}
use Rattle.inc_group.specs.inner.Moves.{IsWhole}
use Rattle.inc_table.proofs.Applied.{applied_at, applied_more, tied}
use Rattle.inc_table.proofs.Ends.{above_append, above_more, above_none, below_none, none_either, or_else, or_else_none, value_append}

module _ {K V : Type 0} where
  -- what is copied and what is left are all
  pub all_there : (members more rest after : List (K × V)) (first : K × V) (key : K) (value : V) → rest ≡ first ∷ after → key ≡ first.0 → value ≡ first.1 → more ≡ members ++ (key, value) ∷ [] → more ++ after ≡ members ++ rest
  all_there members more rest after first key value is k v grown =
      ap (λ l. l ++ after) grown ∙ append_assoc members ((key, value) ∷ []) after
      ∙ ap (λ (q : K). members ++ (q, value) ∷ after) k ∙ ap (λ (w : V). members ++ (first.0, w) ∷ after) v ∙ ap (λ l. members ++ l) (sym is)

  -- nothing is left
  pub none_left : (members rest : List (K × V)) → length rest ≡ 0 → members ++ rest ≡ members
  none_left members [] e = append-nil members
  none_left members (x ∷ rest) e = absurd (omega arith)

  module _ (cmp : K → K → Ordering) where
    pub below_empty : (q : K) (rest : List (K × V)) → length rest ≡ 0 → IsBelow cmp q rest
    below_empty q [] e = tt
    below_empty q (x ∷ rest) e = absurd (omega arith)

    -- members of which there are any are whole
    pub whole_some : (l : List (K × V)) → (l ≡ [] → ⊥) → KeysRise cmp l → IsWhole cmp (Some l)
    whole_some [] some r = some refl
    whole_some (x ∷ l) some r = r

    -- the first of what is left is above what is copied
    pub next_above : (members rest after all : List (K × V)) (first : K × V) (key : K) → rest ≡ first ∷ after → key ≡ first.0 → members ++ rest ≡ all → KeysRise cmp all → IsAbove cmp key members
    next_above members rest after all first key is k whole rise =
        subst (λ q. IsAbove cmp q members) (sym k) (rise_below cmp members first after (subst (KeysRise cmp) (sym whole ∙ ap (λ l. members ++ l) is) rise))

    all_without : (P : K → Type 0) (l : List (K × V)) (e : K × V) (r : List (K × V)) → AllByRecursion P (keys_of (l ++ e ∷ r)) → AllByRecursion P (keys_of (l ++ r))
    all_without P [] e r a = a.1
    all_without P (x ∷ l) e r a = (a.0, all_without P l e r a.1)

    pub rise_without : (l : List (K × V)) (e : K × V) (r : List (K × V)) → KeysRise cmp (l ++ e ∷ r) → KeysRise cmp (l ++ r)
    unfolding IsStrictlySortedBy
    rise_without [] e r s = s.1
    rise_without (x ∷ l) e r s = (all_without (λ y. cmp x.0 y ≡ Less) l e r s.0, rise_without l e r s.1)

    all_with : (P : K → Type 0) (l : List (K × V)) (e : K × V) (r : List (K × V)) → P e.0 → AllByRecursion P (keys_of (l ++ r)) → AllByRecursion P (keys_of (l ++ e ∷ r))
    all_with P [] e r p a = (p, a)
    all_with P (x ∷ l) e r p a = (a.0, all_with P l e r p a.1)

    rise_with : (l : List (K × V)) (e : K × V) (r : List (K × V)) → IsAbove cmp e.0 l → IsBelow cmp e.0 r → KeysRise cmp (l ++ r) → KeysRise cmp (l ++ e ∷ r)
    unfolding IsStrictlySortedBy
    rise_with [] e r a b s = (b, s)
    rise_with (x ∷ l) e r a b s = (all_with (λ y. cmp x.0 y ≡ Less) l e r a.0 s.0, rise_with l e r a.1 b s.1)

    -- with what a change puts between them, they rise
    pub rise_between : (l r : List (K × V)) (q : K) (v : Option V) → IsAbove cmp q l → IsBelow cmp q r → KeysRise cmp (l ++ r) → KeysRise cmp ((l ++ entry_list q v) ++ r)
    rise_between l r q None a b s = subst (λ m. KeysRise cmp (m ++ r)) (sym (append-nil l)) s
    rise_between l r q (Some v) a b s = subst (KeysRise cmp) (sym (append_assoc l ((q, v) ∷ []) r)) (rise_with l (q, v) r a b s)

    pub above_between : IsTotalOrder cmp → (l : List (K × V)) (q k : K) (v : Option V) → cmp q k ≡ Less → IsAbove cmp q l → IsAbove cmp k (l ++ entry_list q v)
    above_between o l q k v less a = above_append cmp k l (entry_list q v) (above_more cmp o q k l less a) (by v)
      where
        by : (v : Option V) → IsAbove cmp k (entry_list q v)
        by None = tt
        by (Some v) = (less, tt)

  module _ {cmp : K → K → Ordering} (o : IsTotalOrder cmp) (exact : CmpEqualImpliesEq cmp) where
    -- the key is below all that is left, where it is below the first, or is it
    pub below_first : (members rest after all : List (K × V)) (first : K × V) (q : K) → rest ≡ first ∷ after → members ++ rest ≡ all → KeysRise cmp all → cmp first.0 q ≡ Greater → IsBelow cmp q rest
    below_first members rest after all first q is whole rise c =
        let less = turned_back o first.0 q c in
        let head = rise_head cmp first after (rise_back cmp members (first ∷ after) (subst (KeysRise cmp) (sym whole ∙ ap (λ l. members ++ l) is) rise)) in
        subst (IsBelow cmp q) (sym is) (less, all_turned (λ y. cmp first.0 y ≡ Less) (λ y. cmp q y ≡ Less) (λ y a. o.trans q first.0 y less a) after head)

    pub below_after : (members rest after all : List (K × V)) (first : K × V) (q : K) → rest ≡ first ∷ after → members ++ rest ≡ all → KeysRise cmp all → cmp first.0 q ≡ Equal → IsBelow cmp q after
    below_after members rest after all first q is whole rise c =
        subst (λ k. IsBelow cmp k after) (exact first.0 q c) (rise_head cmp first after (rise_back cmp members (first ∷ after) (subst (KeysRise cmp) (sym whole ∙ ap (λ l. members ++ l) is) rise)))

    -- a key that is above what is copied and below what is left is not there
    between_none : (l r : List (K × V)) (q : K) → IsAbove cmp q l → IsBelow cmp q r → value_at cmp q (l ++ r) ≡ None
    between_none l r q a b = value_append cmp q l r ∙ ap (λ x. or_else x (value_at cmp q r)) (above_none o q l a) ∙ below_none o q r b

    pub gone_nowhere : (members rest all : List (K × V)) (q : K) → members ++ rest ≡ all → IsAbove cmp q members → IsBelow cmp q rest → IsApplied cmp ((q, Gone) ∷ []) all (members ++ rest)
    gone_nowhere members rest all q whole a b k =
        by (is_eq (cmp q k)) refl ∙ ap (λ l. cond (is_eq (cmp q k)) None (value_at cmp k l)) whole ∙ sym (applied_at o k q Gone (value_at cmp k all))
      where
        by : (t : Bool) → is_eq (cmp q k) ≡ t → value_at cmp k (members ++ rest) ≡ cond t None (value_at cmp k (members ++ rest))
        by true e = ap (λ y. value_at cmp y (members ++ rest)) (sym (tied exact q k e)) ∙ between_none members rest q a b
        by false e = refl

    pub gone_here : (members rest after all : List (K × V)) (first : K × V) (q : K) → rest ≡ first ∷ after → members ++ rest ≡ all → KeysRise cmp all → IsAbove cmp q members → cmp first.0 q ≡ Equal → IsApplied cmp ((q, Gone) ∷ []) all (members ++ after)
    gone_here members rest after all first q is whole rise a c k =
        by (is_eq (cmp q k)) refl
        ∙ ap (λ l. cond (is_eq (cmp q k)) None (value_at cmp k l)) (ap (λ l. members ++ l) (sym is) ∙ whole)
        ∙ sym (applied_at o k q Gone (value_at cmp k all))
      where
        by : (t : Bool) → is_eq (cmp q k) ≡ t → value_at cmp k (members ++ after) ≡ cond t None (value_at cmp k (members ++ first ∷ after))
        by true e = ap (λ y. value_at cmp y (members ++ after)) (sym (tied exact q k e)) ∙ between_none members after q a (below_after members rest after all first q is whole rise c)
        by false e =
            let other : is_eq (cmp k first.0) ≡ false = (eq_by_cmp_equiv o).symm k first.0 ∙ ap (λ y. is_eq (cmp y k)) (exact first.0 q c) ∙ e in
            value_append cmp k members after
            ∙ sym (value_append cmp k members (first ∷ after) ∙ ap (λ b. or_else (value_at cmp k members) (cond b (Some first.1) (value_at cmp k after))) other)

    -- what a change leaves, in place of what was there
    replaced : (l r all : List (K × V)) (q : K) (change : Change V) → IsAbove cmp q l → IsBelow cmp q r → IsApplied cmp ((q, Gone) ∷ []) all (l ++ r) → IsApplied cmp ((q, change) ∷ []) all ((l ++ entry_list q (left_by change)) ++ r)
    replaced l r all q change a b gone k =
        value_append cmp k (l ++ entry_list q (left_by change)) r
        ∙ ap (λ x. or_else x (value_at cmp k r)) (value_append cmp k l (entry_list q (left_by change)) ∙ ap (or_else (value_at cmp k l)) (here (left_by change) ∙ ap (λ t. cond t (left_by change) None) ((eq_by_cmp_equiv o).symm k q)))
        ∙ by (is_eq (cmp q k)) refl
        ∙ sym (applied_at o k q change (value_at cmp k all))
      where
        here : (v : Option V) → value_at cmp k (entry_list q v) ≡ cond (is_eq (cmp k q)) v None
        here None = none_either V (is_eq (cmp k q))
        here (Some v) = refl

        at : (v : Option V) → or_else (or_else (value_at cmp q l) v) (value_at cmp q r) ≡ v
        at v = ap (λ x. or_else (or_else x v) (value_at cmp q r)) (above_none o q l a) ∙ ap (or_else v) (below_none o q r b) ∙ or_else_none v

        by : (t : Bool) → is_eq (cmp q k) ≡ t → or_else (or_else (value_at cmp k l) (cond t (left_by change) None)) (value_at cmp k r) ≡ cond t (left_by change) (value_at cmp k all)
        by true e = subst (λ y. or_else (or_else (value_at cmp y l) (left_by change)) (value_at cmp y r) ≡ left_by change) (tied exact q k e) (at (left_by change))
        by false e =
            ap (λ x. or_else x (value_at cmp k r)) (or_else_none (value_at cmp k l)) ∙ sym (value_append cmp k l r)
            ∙ gone k ∙ applied_at o k q Gone (value_at cmp k all) ∙ ap (λ t. cond t None (value_at cmp k all)) e

    -- one change more
    pub merged_more : (changes : List (K × Change V)) (q : K) (change : Change V) (old all members more rest : List (K × V)) → IsAbove cmp q changes → IsApplied cmp changes old all → IsAbove cmp q members → IsBelow cmp q rest → IsApplied cmp ((q, Gone) ∷ []) all (members ++ rest)
        → more ≡ members ++ entry_list q (left_by change) → IsApplied cmp (changes ++ (q, change) ∷ []) old (more ++ rest)
    merged_more changes q change old all members more rest above so_far a b gone grown =
        applied_more o exact changes q change old all (more ++ rest) above so_far (subst (λ l. IsApplied cmp ((q, change) ∷ []) all (l ++ rest)) (sym grown) (replaced members rest all q change a b gone))
