-- Deltas applied: of one change, by each edit of entries, and of one change more; and lists that have the same value at each key.
use Rattle.std.proofs.Common.{◌≡◌, Bool, true, false, cond, List, [], ◌∷◌, ◌++◌, refl, sym, ap, ◌∙◌, subst, None, Some, Option}
use Rattle.std.proofs.lemmas.Option.{same_Some}
use Rattle.std.proofs.lemmas.Cmp.{eq_by_cmp_equiv, tied_itself}
use Rattle.std.proofs.lemmas.Map.Lookups.{CmpEqualImpliesEq}
use Rattle.std.specs.Cmp.{IsTotalOrder, Equal-is}
use Rattle.std.specs.List.{AllByRecursion}
use Rattle.std.specs.Map.{keys_of}
use Rattle.std.specs.Option.{IsSome}
use Rattle.std.specs.Ordering.{is_eq}
use Rattle.std.specs.declared.cmp.Ordering.{Ordering}
use Rattle.std.specs.declared.cmp.Ordering.TheVariants.{Less, Equal, Greater}
use Rattle.nv_map.specs.Map.{KeysRise, value_at, with_entry, with_value, without_key}
use Rattle.nv_map.proofs.Parted.{pair_of}
use Rattle.nv_map.proofs.Rising.{turned_back, rise_head, rise_tail}
use Rattle.nv_map.proofs.Values.{value_with_entry, value_without_key, value_with_value}
use Rattle.inc_table.specs.declared.delta.Change.{Change}
use Rattle.inc_table.specs.declared.delta.Change.TheVariants.{Put, Gone}
use Rattle.inc_table.specs.Delta.{left_by, after_change, IsAbove, IsApplied}
use Rattle.inc_table.proofs.Ends.{or_else, or_else_none, value_append, above_none, below_none}

-- keys that the order does not tell are one
pub tied : {K : Type 0} {cmp : K → K → Ordering} → CmpEqualImpliesEq cmp → (q k : K) → is_eq (cmp q k) ≡ true → q ≡ k
tied {K} {cmp} exact q k e = exact q k ((Equal-is (cmp q k)).0 e)

module _ {K V : Type 0} {cmp : K → K → Ordering} (o : IsTotalOrder cmp) where
  -- one change: at its key what it leaves, and else what was there
  pub applied_at : (k q : K) (change : Change V) (old : Option V) → after_change (value_at cmp k ((q, change) ∷ [])) old ≡ cond (is_eq (cmp q k)) (left_by change) old
  applied_at k q change old = ap (λ b. after_change (cond b (Some change) None) old) ((eq_by_cmp_equiv o).symm k q) ∙ by (is_eq (cmp q k))
    where
      by : (b : Bool) → after_change (cond b (Some change) None) old ≡ cond b (left_by change) old
      by true = refl
      by false = refl

  -- any other key has what it had
  pub applied_other : (q : K) (change : Change V) (l m : List (K × V)) → IsApplied cmp ((q, change) ∷ []) l m → (k : K) → is_eq (cmp q k) ≡ false → value_at cmp k m ≡ value_at cmp k l
  applied_other q change l m done k e = done k ∙ applied_at k q change (value_at cmp k l) ∙ ap (λ b. cond b (left_by change) (value_at cmp k l)) e

  pub applied_put : (e : K × V) (q : K) (v : V) (l m : List (K × V)) → e ≡ (q, v) → m ≡ with_entry cmp e l → IsApplied cmp ((q, Put v) ∷ []) l m
  applied_put e q v l m same is k = ap (value_at cmp k) (is ∙ ap (λ (x : K × V). with_entry cmp x l) same) ∙ value_with_entry o k (q, v) l ∙ sym (applied_at k q (Put v) (value_at cmp k l))

  pub applied_exchanged : (q : K) (v : V) (l m : List (K × V)) → IsSome (value_at cmp q l) → m ≡ with_value cmp q v l → IsApplied cmp ((q, Put v) ∷ []) l m
  applied_exchanged q v l m there is k = ap (value_at cmp k) is ∙ value_with_value o k q v l there ∙ sym (applied_at k q (Put v) (value_at cmp k l))

  pub applied_taken : (q : K) (l m : List (K × V)) → KeysRise cmp l → m ≡ without_key cmp q l → IsApplied cmp ((q, Gone) ∷ []) l m
  applied_taken q l m r is k = ap (value_at cmp k) is ∙ value_without_key o k q l r ∙ sym (applied_at k q Gone (value_at cmp k l))

  pub applied_none : (l : List (K × V)) → IsApplied cmp [] l l
  applied_none l k = refl

  -- keys below one are below those above it
  lower : (q r : K) → cmp q r ≡ Less → (l : List (K × V)) → AllByRecursion (λ y. cmp r y ≡ Less) (keys_of l) → AllByRecursion (λ y. cmp q y ≡ Less) (keys_of l)
  lower q r e [] a = tt
  lower q r e (x ∷ l) a = (o.trans q r x.0 e a.0, lower q r e l a.1)

  module _ (exact : CmpEqualImpliesEq cmp) where
    -- a change of what is there already
    pub applied_same : (q : K) (v : V) (l : List (K × V)) → value_at cmp q l ≡ Some v → IsApplied cmp ((q, Put v) ∷ []) l l
    applied_same q v l there k = by (is_eq (cmp q k)) refl ∙ sym (applied_at k q (Put v) (value_at cmp k l))
      where
        by : (b : Bool) → is_eq (cmp q k) ≡ b → value_at cmp k l ≡ cond b (Some v) (value_at cmp k l)
        by true e = ap (λ x. value_at cmp x l) (sym (tied exact q k e)) ∙ there
        by false e = refl

    -- one change more, above the others
    pub applied_more : (delta : List (K × Change V)) (q : K) (change : Change V) (a b c : List (K × V)) → IsAbove cmp q delta → IsApplied cmp delta a b → IsApplied cmp ((q, change) ∷ []) b c → IsApplied cmp (delta ++ (q, change) ∷ []) a c
    applied_more delta q change a b c above first second k =
        second k
        ∙ applied_at k q change (value_at cmp k b)
        ∙ ap (cond (is_eq (cmp q k)) (left_by change)) (first k)
        ∙ by (is_eq (cmp q k)) refl
        ∙ ap (λ (x : Option (Change V)). after_change x (value_at cmp k a)) (ap (λ b. or_else (value_at cmp k delta) (cond b (Some change) None)) ((eq_by_cmp_equiv o).symm q k) ∙ sym (value_append cmp k delta ((q, change) ∷ [])))
      where
        by : (b : Bool) → is_eq (cmp q k) ≡ b → cond b (left_by change) (after_change (value_at cmp k delta) (value_at cmp k a)) ≡ after_change (or_else (value_at cmp k delta) (cond b (Some change) None)) (value_at cmp k a)
        by true e = sym (ap (λ x. after_change (or_else x (Some change)) (value_at cmp k a)) (ap (λ x. value_at cmp x delta) (sym (tied exact q k e)) ∙ above_none o q delta above))
        by false e = sym (ap (λ x. after_change x (value_at cmp k a)) (or_else_none (value_at cmp k delta)))

    -- lists whose keys rise, and that have the same value at each key, are one
    pub same_lists : (a b : List (K × V)) → KeysRise cmp a → KeysRise cmp b → ((k : K) → value_at cmp k a ≡ value_at cmp k b) → a ≡ b
    same_lists [] [] r s same = refl
    same_lists [] (y ∷ b) r s same = let here = same y.0 ∙ ap (λ c. cond (is_eq c) (Some y.1) (value_at cmp y.0 b)) (tied_itself o y.0) in absurd (cc)
    same_lists (x ∷ a) [] r s same = let here = sym (same x.0) ∙ ap (λ c. cond (is_eq c) (Some x.1) (value_at cmp x.0 a)) (tied_itself o x.0) in absurd (cc)
    same_lists (x ∷ a) (y ∷ b) r s same = by (cmp x.0 y.0) refl (λ t. same_lists a b (rise_tail cmp x a r) (rise_tail cmp y b s) t)
      where
        at_x : value_at cmp x.0 (x ∷ a) ≡ Some x.1
        at_x = ap (λ c. cond (is_eq c) (Some x.1) (value_at cmp x.0 a)) (tied_itself o x.0)

        at_y : value_at cmp y.0 (y ∷ b) ≡ Some y.1
        at_y = ap (λ c. cond (is_eq c) (Some y.1) (value_at cmp y.0 b)) (tied_itself o y.0)

        rest : x.0 ≡ y.0 → (k : K) → (t : Bool) → is_eq (cmp k x.0) ≡ t → value_at cmp k a ≡ value_at cmp k b
        rest e k true t =
            let is = tied exact k x.0 t in
            let first : value_at cmp k a ≡ None = below_none o k a (subst (λ z. AllByRecursion (λ w. cmp z w ≡ Less) (keys_of a)) (sym is) (rise_head cmp x a r)) in
            let second : value_at cmp k b ≡ None = below_none o k b (subst (λ z. AllByRecursion (λ w. cmp z w ≡ Less) (keys_of b)) (sym (is ∙ e)) (rise_head cmp y b s)) in
            first ∙ sym second
        rest e k false t =
            sym (ap (λ c. cond c (Some x.1) (value_at cmp k a)) t)
            ∙ same k
            ∙ ap (λ c. cond c (Some y.1) (value_at cmp k b)) (ap (λ z. is_eq (cmp k z)) (sym e) ∙ t)

        by : (c : Ordering) → cmp x.0 y.0 ≡ c → (((k : K) → value_at cmp k a ≡ value_at cmp k b) → a ≡ b) → x ∷ a ≡ y ∷ b
        by Less c tails =
            let none : value_at cmp x.0 b ≡ None = below_none o x.0 b (lower x.0 y.0 c b (rise_head cmp y b s)) in
            let here : Some x.1 ≡ None = sym at_x ∙ same x.0 ∙ ap (λ t. cond (is_eq t) (Some y.1) (value_at cmp x.0 b)) c ∙ none in
            absurd (cc)
        by Greater c tails =
            let none : value_at cmp y.0 a ≡ None = below_none o y.0 a (lower y.0 x.0 (turned_back o x.0 y.0 c) a (rise_head cmp x a r)) in
            let here : Some y.1 ≡ None = sym at_y ∙ sym (same y.0) ∙ ap (λ t. cond (is_eq t) (Some x.1) (value_at cmp y.0 a)) (turned_back o x.0 y.0 c) ∙ none in
            absurd (cc)
        by Equal c tails =
            let keys = exact x.0 y.0 c in
            let values : Some x.1 ≡ Some y.1 = sym at_x ∙ same x.0 ∙ ap (λ z. value_at cmp z (y ∷ b)) keys ∙ at_y in
            ap (λ (e : K × V). e ∷ a) (pair_of keys (same_Some x.1 y.1 values)) ∙ ap (λ l. y ∷ l) (tails (λ k. rest keys k (is_eq (cmp k x.0)) refl))
