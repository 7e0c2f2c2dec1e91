-- Left entries joined anew where what they name changed.
use Rattle.std.proofs.Common.{◌≡◌, Bool, true, false, cond, List, [], ◌∷◌, ◌++◌, refl, sym, ap, ◌∙◌, subst, None, Some, Option}
use Rattle.std.specs.Prelude.{is_some, option_and_then}
use Rattle.std.proofs.lemmas.Cmp.{eq_by_cmp_equiv}
use Rattle.std.proofs.lemmas.Map.Lookups.{CmpEqualImpliesEq}
use Rattle.std.specs.Cmp.{IsTotalOrder}
use Rattle.std.specs.List.{AllByRecursion}
use Rattle.std.specs.Map.{keys_of}
use Rattle.std.specs.Option.{option_map}
use Rattle.std.specs.Ordering.{is_eq}
use Rattle.std.specs.declared.cmp.Ordering.{Ordering}
use Rattle.nv_map.specs.Map.{KeysRise, value_at}
use Rattle.inc_table.specs.declared.delta.Change.{Change}
use Rattle.inc_table.specs.declared.delta.Change.TheVariants.{Put}
use Rattle.inc_table.specs.Delta.{after_change, change_to, IsAbove, IsApplied}
use Rattle.inc_table.proofs.Applied.{applied_at, same_lists, tied}
use Rattle.inc_table.proofs.Ends.{above_none, or_else, value_append}
use Rattle.inc_table.proofs.Outputs.{left_to}
use Rattle.inc_join.specs.Join.{joined, lefts_of, with_right}
use Rattle.inc_join.specs.inner.Index.{Covers, IsIndexed, IsRejoined, IsTouched, again_at, named_at}
use Rattle.inc_join.proofs.Joined.{joined_by, rise_lefts, value_joined, value_lefts}

-- what holds of all keys, and of one more
pub all_more : {K V : Type 0} (P : K → Type 0) (l : List (K × V)) (e : K × V) → AllByRecursion P (keys_of l) → P e.0 → AllByRecursion P (keys_of (l ++ e ∷ []))
all_more P [] e a p = (p, tt)
all_more P (x ∷ l) e a p = (a.0, all_more P l e a.1 p)

pub all_by : {K V : Type 0} (P Q : K → Type 0) → ((k : K) → P k → Q k) → (l : List (K × V)) → AllByRecursion P (keys_of l) → AllByRecursion Q (keys_of l)
all_by P Q turn [] a = tt
all_by P Q turn (x ∷ l) a = (turn x.0 a.0, all_by P Q turn l a.1)

-- what holds of all keys holds of one that has a value
all_at : {K V : Type 0} {cmp : K → K → Ordering} → CmpEqualImpliesEq cmp → (P : K → Type 0) (q : K) (v : V) (l : List (K × V)) → AllByRecursion P (keys_of l) → value_at cmp q l ≡ Some v → P q
all_at exact P q v [] a e = absurd (cc)
all_at {K} {V} {cmp} exact P q v (x ∷ l) a e = by (is_eq (cmp q x.0)) refl e (all_at exact P q v l a.1)
  where
    by : (b : Bool) → is_eq (cmp q x.0) ≡ b → cond b (Some x.1) (value_at cmp q l) ≡ Some v → (value_at cmp q l ≡ Some v → P q) → P q
    by true t e rest = subst P (sym (tied exact q x.0 t)) a.0
    by false t e rest = rest e

-- keys added
pub covers_self : {K : Type 0} (cmp : K → K → Ordering) (l : List (K × Unit {0})) → Covers cmp l l
covers_self cmp l k e = e

pub covers_none : {K : Type 0} (cmp : K → K → Ordering) (l : List (K × Unit {0})) → Covers cmp [] l
covers_none cmp l k e = absurd (cc)

pub touched_more : {K Q : Type 0} (inner : K → K → Ordering) (outer : Q → Q → Ordering) (index : List (Q × List (K × Unit {0}))) (old new : List (K × Unit {0})) → Covers inner old new → (right : Q) → IsTouched inner outer index old right → IsTouched inner outer index new right
touched_more inner outer index old new covers right touched k e = covers k (touched k e)

module _ {K : Type 0} {cmp : K → K → Ordering} (o : IsTotalOrder cmp) (exact : CmpEqualImpliesEq cmp) where
  pub covers_more : (q : K) (keys old new : List (K × Unit {0})) → IsApplied cmp ((q, Put tt) ∷ []) old new → Covers cmp keys old → Covers cmp keys new
  covers_more q keys old new applied covers k e = applied k ∙ applied_at o k q (Put tt) (value_at cmp k old) ∙ by (is_eq (cmp q k))
    where
      by : (b : Bool) → cond b (Some tt) (value_at cmp k old) ≡ Some tt
      by true = refl
      by false = covers k e

  pub covers_last : (q : K) (keys old new : List (K × Unit {0})) → IsApplied cmp ((q, Put tt) ∷ []) old new → Covers cmp keys old → Covers cmp (keys ++ (q, tt) ∷ []) new
  covers_last q keys old new applied covers k e = applied k ∙ applied_at o k q (Put tt) (value_at cmp k old) ∙ by (is_eq (cmp q k)) refl
    where
      left : (v : Option (Unit {0})) → value_at cmp k keys ≡ v → is_eq (cmp q k) ≡ false → or_else v (cond (is_eq (cmp k q)) (Some tt) None) ≡ Some tt → value_at cmp k keys ≡ Some tt
      left None is t f = absurd (let g : cond false (Some tt) None ≡ Some tt = subst (λ b. cond b (Some tt) None ≡ Some tt) ((eq_by_cmp_equiv o).symm k q ∙ t) f in cc)
      left (Some u) is t f = is ∙ f

      by : (b : Bool) → is_eq (cmp q k) ≡ b → cond b (Some tt) (value_at cmp k old) ≡ Some tt
      by true t = refl
      by false t = covers k (left (value_at cmp k keys) refl t (sym (value_append cmp k keys ((q, tt) ∷ [])) ∙ e))

-- left values joined anew, one key more
module _ {K L R : Type 0} {cmp : K → K → Ordering} (o : IsTotalOrder cmp) (exact : CmpEqualImpliesEq cmp) (join : L → L × Option R) where
  pub rejoined_none : (table : List (K × (L × Option R))) → IsRejoined cmp join [] table table
  rejoined_none table k = refl

  pub rejoined_more : (q : K) (u : Unit {0}) (keys : List (K × Unit {0})) (entry : Option (L × Option R)) (first old new : List (K × (L × Option R))) → IsAbove cmp q keys → entry ≡ again_at join (value_at cmp q old)
      → IsRejoined cmp join keys first old → IsApplied cmp ((q, change_to entry) ∷ []) old new → IsRejoined cmp join (keys ++ (q, u) ∷ []) first new
  rejoined_more q u keys entry first old new above is so_far applied k =
      applied k ∙ applied_at o k q (change_to entry) (value_at cmp k old) ∙ ap (λ x. cond (is_eq (cmp q k)) x (value_at cmp k old)) (left_to entry)
      ∙ by (is_eq (cmp q k)) refl
      ∙ ap (λ x. cond (is_some x) (again_at join (value_at cmp k first)) (value_at cmp k first)) (sym (value_append cmp k keys ((q, u) ∷ []) ∙ ap (λ b. or_else (value_at cmp k keys) (cond b (Some u) None)) ((eq_by_cmp_equiv o).symm k q)))
    where
      here : q ≡ k → entry ≡ cond (is_some (or_else (value_at cmp k keys) (Some u))) (again_at join (value_at cmp k first)) (value_at cmp k first)
      here e =
          let none : value_at cmp k keys ≡ None = subst (λ y. value_at cmp y keys ≡ None) e (above_none o q keys above) in
          let same : value_at cmp k old ≡ value_at cmp k first = so_far k ∙ ap (λ x. cond (is_some x) (again_at join (value_at cmp k first)) (value_at cmp k first)) none in
          is ∙ ap (λ y. again_at join (value_at cmp y old)) e ∙ ap (again_at join) same
          ∙ sym (ap (λ x. cond (is_some (or_else x (Some u))) (again_at join (value_at cmp k first)) (value_at cmp k first)) none)

      rest : (v : Option (Unit {0})) → is_some (or_else v None) ≡ is_some v
      rest None = refl
      rest (Some v) = refl

      by : (b : Bool) → is_eq (cmp q k) ≡ b → cond b entry (value_at cmp k old) ≡ cond (is_some (or_else (value_at cmp k keys) (cond b (Some u) None))) (again_at join (value_at cmp k first)) (value_at cmp k first)
      by true t = here (tied exact q k t)
      by false t = so_far k ∙ ap (λ b. cond b (again_at join (value_at cmp k first)) (value_at cmp k first)) (sym (rest (value_at cmp k keys)))

module _ {K L Q R : Type 0} {cmp : K → K → Ordering} (o : IsTotalOrder cmp) (exact : CmpEqualImpliesEq cmp) {right_cmp : Q → Q → Ordering} (right_exact : CmpEqualImpliesEq right_cmp) (link_of : L → Option Q) where
  -- the left values stay
  pub same_lefts : (rights : List (Q × R)) (touched : List (K × Unit {0})) (old new : List (K × (L × Option R))) → KeysRise cmp old → KeysRise cmp new → IsRejoined cmp (with_right right_cmp link_of rights) touched old new → lefts_of new ≡ lefts_of old
  same_lefts rights touched old new r s rejoined =
      same_lists o exact (lefts_of new) (lefts_of old) (rise_lefts o exact new s) (rise_lefts o exact old r)
      (λ k. value_lefts o exact k new ∙ ap (option_map (λ (e : L × Option R). e.0)) (rejoined k) ∙ by k (is_some (value_at cmp k touched)) (value_at cmp k old) ∙ sym (value_lefts o exact k old))
    where
      by : (k : K) (b : Bool) (v : Option (L × Option R)) → option_map (λ (e : L × Option R). e.0) (cond b (again_at (with_right right_cmp link_of rights) v) v) ≡ option_map (λ (e : L × Option R). e.0) v
      by k true None = refl
      by k true (Some e) = refl
      by k false v = refl

  -- a left value that names nothing that changed is joined as before
  unnamed : (delta : List (Q × Change R)) (before after : List (Q × R)) → IsApplied right_cmp delta before after → (left : L) → ((right : Q) (change : Change R) → link_of left ≡ Some right → value_at right_cmp right delta ≡ Some change → ⊥) → with_right right_cmp link_of before left ≡ with_right right_cmp link_of after left
  unnamed delta before after applied left never = ap (λ (r : Option R). (left, r)) (by (link_of left) refl)
    where
      at : (right : Q) → link_of left ≡ Some right → (c : Option (Change R)) → value_at right_cmp right delta ≡ c → value_at right_cmp right before ≡ value_at right_cmp right after
      at right e None f = sym (applied right ∙ ap (λ c. after_change c (value_at right_cmp right before)) f)
      at right e (Some change) f = absurd (never right change e f)

      by : (n : Option Q) → link_of left ≡ n → option_and_then (λ key. value_at right_cmp key before) n ≡ option_and_then (λ key. value_at right_cmp key after) n
      by None e = refl
      by (Some right) e = at right e (value_at right_cmp right delta) refl

  -- so all is joined
  pub all_joined : (delta : List (Q × Change R)) (before after : List (Q × R)) (index : List (Q × List (K × Unit {0}))) (touched : List (K × Unit {0})) (old new : List (K × (L × Option R))) → KeysRise cmp old → KeysRise cmp new
      → IsRejoined cmp (with_right right_cmp link_of after) touched old new → IsApplied right_cmp delta before after → AllByRecursion (IsTouched cmp right_cmp index touched) (keys_of delta) → IsIndexed cmp right_cmp link_of old index
      → old ≡ joined right_cmp link_of (lefts_of old) before → new ≡ joined right_cmp link_of (lefts_of new) after
  all_joined delta before after index touched old new r s rejoined applied all indexed is =
      joined_by o exact right_cmp link_of after new s (λ k.
      rejoined k
      ∙ by k (value_at cmp k touched) refl (value_at cmp k old) refl
      ∙ ap (λ l. option_map (with_right right_cmp link_of after) (value_at cmp k l)) (sym (same_lefts after touched old new r s rejoined)))
    where
      again : (k : K) (v : Option (L × Option R)) → value_at cmp k old ≡ v → again_at (with_right right_cmp link_of after) v ≡ option_map (with_right right_cmp link_of after) (value_at cmp k (lefts_of old))
      again k None e = sym (ap (option_map (with_right right_cmp link_of after)) (value_lefts o exact k old ∙ ap (option_map (λ (x : L × Option R). x.0)) e))
      again k (Some v) e = sym (ap (option_map (with_right right_cmp link_of after)) (value_lefts o exact k old ∙ ap (option_map (λ (x : L × Option R). x.0)) e))

      stays : (k : K) → value_at cmp k touched ≡ None → (v : Option (L × Option R)) → value_at cmp k old ≡ v → value_at cmp k old ≡ option_map (with_right right_cmp link_of after) (option_map (λ (x : L × Option R). x.0) v)
      stays k none None e = e
      stays k none (Some v) e =
          value_joined o exact right_cmp link_of before old is k
          ∙ ap (option_map (with_right right_cmp link_of before)) (value_lefts o exact k old ∙ ap (option_map (λ (x : L × Option R). x.0)) e)
          ∙ ap Some (unnamed delta before after applied v.0 (λ right change names f.
          let there = all_at right_exact (IsTouched cmp right_cmp index touched) right change delta all f k (indexed k right (ap (named_at link_of) e ∙ names)) in
          absurd (cc)))

      by : (k : K) (t : Option (Unit {0})) → value_at cmp k touched ≡ t → (v : Option (L × Option R)) → value_at cmp k old ≡ v → cond (is_some (value_at cmp k touched)) (again_at (with_right right_cmp link_of after) (value_at cmp k old)) (value_at cmp k old) ≡ option_map (with_right right_cmp link_of after) (value_at cmp k (lefts_of old))
      by k None t v e =
          ap (λ x. cond (is_some x) (again_at (with_right right_cmp link_of after) (value_at cmp k old)) (value_at cmp k old)) t
          ∙ stays k t v e
          ∙ ap (option_map (with_right right_cmp link_of after)) (sym (value_lefts o exact k old ∙ ap (option_map (λ (x : L × Option R). x.0)) e))
      by k (Some u) t v e =
          ap (λ x. cond (is_some x) (again_at (with_right right_cmp link_of after) (value_at cmp k old)) (value_at cmp k old)) t
          ∙ ap (again_at (with_right right_cmp link_of after)) e ∙ again k v e

  -- the index stays that of the table, where the left values stay
  pub still_indexed : (index : List (Q × List (K × Unit {0}))) (old new : List (K × (L × Option R))) → lefts_of new ≡ lefts_of old → IsIndexed cmp right_cmp link_of old index → IsIndexed cmp right_cmp link_of new index
  still_indexed index old new same indexed k right e = indexed k right (names old ∙ ap (λ l. option_and_then link_of (value_at cmp k l)) (sym same) ∙ sym (names new) ∙ e)
    where
      of : (v : Option (L × Option R)) → named_at link_of v ≡ option_and_then link_of (option_map (λ (x : L × Option R). x.0) v)
      of None = refl
      of (Some v) = refl

      names : (table : List (K × (L × Option R))) → named_at link_of (value_at cmp k table) ≡ option_and_then link_of (value_at cmp k (lefts_of table))
      names table = of (value_at cmp k table) ∙ ap (option_and_then link_of) (sym (value_lefts o exact k table))
