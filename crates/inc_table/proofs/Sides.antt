-- Two lots of entries gone through side by side, by rising key.
use Rattle.std.proofs.Common.{◌≡◌, ℕ, ◌+◌, ◌<◌, Bool, true, false, cond, List, [], ◌∷◌, ◌++◌, length, append_assoc, append-nil, arith, refl, sym, ap, ◌∙◌, subst, None, Some, Option, Bor}
use Rattle.std.proofs.lemmas.Bool.{true≢false}
use Rattle.std.proofs.lemmas.Cmp.{eq_by_cmp_equiv, tied_itself}
use Rattle.std.proofs.lemmas.Map.Lookups.{CmpEqualImpliesEq}
use Rattle.std.specs.Cmp.{IsTotalOrder}
use Rattle.std.specs.List.{AllByRecursion}
use Rattle.std.specs.Map.{keys_of}
use Rattle.std.specs.Map.Iter.{TakesFirst, deref_pair}
use Rattle.std.specs.Option.{option_map}
use Rattle.std.specs.Ordering.{is_eq, is_gt}
use Rattle.std.specs.declared.cmp.Ordering.{Ordering}
use Rattle.std.specs.declared.cmp.Ordering.TheVariants.{Less, Equal, Greater}
use Rattle.nv_map.specs.Map.{KeysRise, value_at}
use Rattle.nv_map.proofs.Rising.{turned_back, rise_head, rise_tail}
use Rattle.inc_table.specs.declared.delta.Change.{Change}
use Rattle.inc_table.specs.Delta.{IsAbove, IsDifference, change_between, told_at}
use Rattle.inc_table.specs.Maker.{more_made}
use Rattle.inc_table.specs.Node.{outputs_of}
use Rattle.inc_table.specs.inner.Walk.{IsBelow, IsUpTo, entries_ahead, entry_list, first_key, least, made_one}
use Rattle.inc_table.proofs.Applied.{tied}
use Rattle.inc_table.proofs.Told.{difference_more}
use Rattle.inc_table.proofs.Ends.{or_else, value_append, above_append, above_more, above_none, below_none}

-- the entries after the one at hand, as an iterator gives them
pub ahead_next : {K V : Type 0} (s t : List (K × V)) (r : Option (Bor K × Bor V)) → TakesFirst deref_pair s r t → entries_ahead r t ≡ s
ahead_next s t None step = sym step.0
ahead_next s t (Some x) step = sym step

pub ahead_rises : {K V : Type 0} (cmp : K → K → Ordering) (all s t : List (K × V)) (r : Option (Bor K × Bor V)) → KeysRise cmp all → s ≡ all → TakesFirst deref_pair s r t → KeysRise cmp (entries_ahead r t)
ahead_rises cmp all s t r rise is step = subst (KeysRise cmp) (sym (ahead_next s t r step ∙ is)) rise

module _ {K : Type 0} {cmp : K → K → Ordering} (o : IsTotalOrder cmp) where
  -- a key below one is below those above it
  pub below_all : {V : Type 0} (q r : K) → cmp q r ≡ Less → (l : List (K × V)) → IsBelow cmp r l → IsBelow cmp q l
  below_all q r e [] a = tt
  below_all q r e (x ∷ l) a = (o.trans q r x.0 e a.0, below_all q r e l a.1)

  less_is : (q x : K) → is_gt (cmp q x) ≡ false → is_eq (cmp q x) ≡ false → cmp q x ≡ Less
  less_is q x g e = by (cmp q x) refl g e
    where
      by : (c : Ordering) → cmp q x ≡ c → is_gt c ≡ false → is_eq c ≡ false → cmp q x ≡ Less
      by Less c g e = c
      by Equal c g e = absurd (true≢false e)
      by Greater c g e = absurd (true≢false g)

  -- a key that is not there is below all that it is not above
  pub below_ahead : {V : Type 0} (q : K) (x : K × V) (l : List (K × V)) → KeysRise cmp (x ∷ l) → is_gt (cmp q x.0) ≡ false → is_eq (cmp q x.0) ≡ false → IsBelow cmp q (x ∷ l)
  below_ahead q x l r g e = let less = less_is q x.0 g e in (less, below_all q x.0 less l (rise_head cmp x l r))

  -- the entry at hand is not of this key
  pub not_taken : {V : Type 0} (entry : Option (Bor K × Bor V)) (rest all : List (K × V)) (x : Bor K × Bor V) (q : K) → entry ≡ Some x → entries_ahead entry rest ≡ all → KeysRise cmp (entries_ahead entry rest) → IsUpTo cmp q all → is_eq (cmp q x.0.now) ≡ false → IsBelow cmp q all
  not_taken entry rest all x q is view r up e =
      let split : deref_pair x ∷ rest ≡ all = sym (ap (λ y. entries_ahead y rest) is) ∙ view in
      subst (λ l. IsBelow cmp q l) split (below_ahead q (deref_pair x) rest (subst (λ y. KeysRise cmp (entries_ahead y rest)) is r) (subst (λ l. IsUpTo cmp q l) (sym split) up) e)

  -- it is
  pub taken_rises : {V : Type 0} (entry : Option (Bor K × Bor V)) (rest t : List (K × V)) (x : Bor K × Bor V) (r : Option (Bor K × Bor V)) → entry ≡ Some x → KeysRise cmp (entries_ahead entry rest) → TakesFirst deref_pair rest r t → KeysRise cmp (entries_ahead r t)
  taken_rises entry rest t x r is rise step = subst (λ l. KeysRise cmp l) (sym (ahead_next rest t r step)) (rise_tail cmp (deref_pair x) rest (subst (λ y. KeysRise cmp (entries_ahead y rest)) is rise))

  pub taken_below : CmpEqualImpliesEq cmp → {V : Type 0} (entry : Option (Bor K × Bor V)) (rest t : List (K × V)) (x : Bor K × Bor V) (r : Option (Bor K × Bor V)) (q : K) → entry ≡ Some x → KeysRise cmp (entries_ahead entry rest) → TakesFirst deref_pair rest r t → is_eq (cmp q x.0.now) ≡ true → IsBelow cmp q (entries_ahead r t)
  taken_below exact entry rest t x r q is rise step e =
      subst (λ k. IsBelow cmp k (entries_ahead r t)) (sym (tied exact q x.0.now e)) (subst (λ l. IsBelow cmp x.0.now l) (sym (ahead_next rest t r step)) (rise_head cmp (deref_pair x) rest (subst (λ y. KeysRise cmp (entries_ahead y rest)) is rise)))

  -- what holds of all keys holds of the lesser of the first ones
  pub at_least : {A B : Type 0} (P : K → Type 0) (one : List (K × A)) (other : List (K × B)) (q : K) → AllByRecursion P (keys_of one) → AllByRecursion P (keys_of other) → least cmp (first_key one) (first_key other) ≡ Some q → P q
  at_least P [] [] q a b e = absurd (cc)
  at_least P [] (y ∷ other) q a b e = let is : y.0 ≡ q = cc in subst P is b.0
  at_least P (x ∷ one) [] q a b e = let is : x.0 ≡ q = cc in subst P is a.0
  at_least P (x ∷ one) (y ∷ other) q a b e = by (is_gt (cmp x.0 y.0)) e
    where
      by : (t : Bool) → cond t (Some y.0) (Some x.0) ≡ Some q → P q
      by true e = let is : y.0 ≡ q = cc in subst P is b.0
      by false e = let is : x.0 ≡ q = cc in subst P is a.0

  itself : (q : K) → is_gt (cmp q q) ≡ false
  itself q = ap is_gt (tied_itself o q)

  -- it is not above either of these
  pub up_to_both : {A B : Type 0} (one : List (K × A)) (other : List (K × B)) (q : K) → least cmp (first_key one) (first_key other) ≡ Some q → IsUpTo cmp q one × IsUpTo cmp q other
  up_to_both [] [] q e = (tt, tt)
  up_to_both [] (y ∷ other) q e = let is : y.0 ≡ q = cc in (tt, subst (λ k. is_gt (cmp k y.0) ≡ false) is (itself y.0))
  up_to_both (x ∷ one) [] q e = let is : x.0 ≡ q = cc in (subst (λ k. is_gt (cmp k x.0) ≡ false) is (itself x.0), tt)
  up_to_both (x ∷ one) (y ∷ other) q e = by (cmp x.0 y.0) refl e
    where
      first : x.0 ≡ q → is_gt (cmp x.0 y.0) ≡ false → (is_gt (cmp q x.0) ≡ false) × (is_gt (cmp q y.0) ≡ false)
      first is g = (subst (λ k. is_gt (cmp k x.0) ≡ false) is (itself x.0), subst (λ k. is_gt (cmp k y.0) ≡ false) is g)

      by : (c : Ordering) → cmp x.0 y.0 ≡ c → cond (is_gt c) (Some y.0) (Some x.0) ≡ Some q → (is_gt (cmp q x.0) ≡ false) × (is_gt (cmp q y.0) ≡ false)
      by Less c e = let is : x.0 ≡ q = cc in first is (ap is_gt c)
      by Equal c e = let is : x.0 ≡ q = cc in first is (ap is_gt c)
      by Greater c e = let is : y.0 ≡ q = cc in (subst (λ k. is_gt (cmp k x.0) ≡ false) is (ap is_gt (turned_back o x.0 y.0 c)), subst (λ k. is_gt (cmp k y.0) ≡ false) is (itself y.0))

  -- one of them is gone through
  gone_first : {A : Type 0} (x : K × A) (rest l : List (K × A)) (q : K) (a : Option A) → x.0 ≡ q → x ∷ rest ≡ entry_list q a ++ l → IsBelow cmp q l → length l < length (x ∷ rest)
  gone_first x rest l q (Some a) is e below = let n : length (x ∷ rest) ≡ length ((q, a) ∷ l) = ap length e in omega (arith, n)
  gone_first x rest [] q None is e below = absurd (cc)
  gone_first x rest (y ∷ l) q None is e below =
      let same : x ≡ y = cc in
      let less : cmp q q ≡ Less = subst (λ k. cmp q k ≡ Less) (sym (ap (λ (z : K × _). z.0) same) ∙ is) below.0 in
      let equal = tied_itself o q in
      absurd (cc)

  no_more : {A : Type 0} (l m : List (K × A)) (q : K) (a : Option A) → l ≡ entry_list q a ++ m → length m < length l + 1
  no_more l m q None e = let n = ap length e in omega (arith, n)
  no_more l m q (Some a) e = let n : length l ≡ length ((q, a) ∷ m) = ap length e in omega (arith, n)

  pub fewer : {A B : Type 0} (one one' : List (K × A)) (other other' : List (K × B)) (q : K) (a : Option A) (b : Option B) → least cmp (first_key one) (first_key other) ≡ Some q
      → one ≡ entry_list q a ++ one' → other ≡ entry_list q b ++ other' → IsBelow cmp q one' → IsBelow cmp q other' → length one' + length other' < length one + length other
  fewer [] one' [] other' q a b e is is' below below' = absurd (cc)
  fewer [] one' (y ∷ other) other' q a b e is is' below below' =
      let same : y.0 ≡ q = cc in
      let n = gone_first y other other' q b same is' below' in
      let m = no_more [] one' q a is in
      omega (arith, n, m)
  fewer (x ∷ one) one' [] other' q a b e is is' below below' =
      let same : x.0 ≡ q = cc in
      let n = gone_first x one one' q a same is below in
      let m = no_more [] other' q b is' in
      omega (arith, n, m)
  fewer (x ∷ one) one' (y ∷ other) other' q a b e is is' below below' = by (is_gt (cmp x.0 y.0)) e
    where
      by : (t : Bool) → cond t (Some y.0) (Some x.0) ≡ Some q → length one' + length other' < length (x ∷ one) + length (y ∷ other)
      by true e =
          let same : y.0 ≡ q = cc in
          let n = gone_first y other other' q b same is' below' in
          let m = no_more (x ∷ one) one' q a is in
          omega (arith, n, m)
      by false e =
          let same : x.0 ≡ q = cc in
          let n = gone_first x one one' q a same is below in
          let m = no_more (y ∷ other) other' q b is' in
          omega (arith, n, m)

-- all that is done is below all that is to come
abbrev pub IsPast : {K A B : Type 0} → (K → K → Ordering) → List (K × A) → List (K × B) → Type 0
IsPast cmp done coming = AllByRecursion (λ k. IsAbove cmp k done) (keys_of coming)

pub past_none : {K A B : Type 0} (cmp : K → K → Ordering) (done : List (K × A)) (coming : List (K × B)) → done ≡ [] → IsPast cmp done coming
past_none cmp done [] is = tt
past_none cmp done (x ∷ coming) is = (subst (λ l. IsAbove cmp x.0 l) (sym is) tt, past_none cmp done coming is)

pub entry_above : {K V : Type 0} (cmp : K → K → Ordering) (q r : K) (v : Option V) → cmp q r ≡ Less → IsAbove cmp r (entry_list q v)
entry_above cmp q r None e = tt
entry_above cmp q r (Some v) e = (e, tt)

pub told_is : {K V : Type 0} (q : K) (t : Option (Change V)) → told_at q t ≡ entry_list q t
told_is q None = refl
told_is q (Some t) = refl

module _ {K A B : Type 0} {cmp : K → K → Ordering} (o : IsTotalOrder cmp) where
  -- with the entry of a key that is below all to come
  pub past_more : (q : K) (done new : List (K × A)) (v : Option A) (coming : List (K × B)) → IsAbove cmp q done → new ≡ done ++ entry_list q v → IsBelow cmp q coming → IsPast cmp new coming
  past_more q done new v [] above is below = tt
  past_more q done new v (x ∷ coming) above is below =
      (subst (λ l. IsAbove cmp x.0 l) (sym is) (above_append cmp x.0 done (entry_list q v) (above_more cmp o q x.0 done below.0 above) (entry_above cmp q x.0 v below.0)), past_more q done new v coming above is below.1)

module _ {K V : Type 0} {cmp : K → K → Ordering} (o : IsTotalOrder cmp) where
  entry_value : (k q : K) (v : Option V) → value_at cmp k (entry_list q v) ≡ cond (is_eq (cmp q k)) v None
  entry_value k q None = by (is_eq (cmp q k))
    where
      by : (b : Bool) → ◌≡◌ {A = Option V} None (cond b None None)
      by true = refl
      by false = refl
  entry_value k q (Some v) = ap (λ b. cond b (Some v) None) ((eq_by_cmp_equiv o).symm k q)

  module _ (exact : CmpEqualImpliesEq cmp) where
    -- an entry between those done and those to come
    pub value_between : (k q : K) (done coming : List (K × V)) (v : Option V) → IsAbove cmp q done → IsBelow cmp q coming → value_at cmp k (done ++ entry_list q v ++ coming) ≡ cond (is_eq (cmp q k)) v (or_else (value_at cmp k done) (value_at cmp k coming))
    value_between k q done coming v above below =
        value_append cmp k (done ++ entry_list q v) coming
        ∙ ap (λ x. or_else x (value_at cmp k coming)) (value_append cmp k done (entry_list q v) ∙ ap (or_else (value_at cmp k done)) (entry_value k q v))
        ∙ by (is_eq (cmp q k)) refl
      where
        here : q ≡ k → or_else (or_else (value_at cmp k done) v) (value_at cmp k coming) ≡ v
        here is =
            ap (λ x. or_else (or_else x v) (value_at cmp k coming)) (subst (λ y. value_at cmp y done ≡ None) is (above_none o q done above))
            ∙ ap (λ x. or_else v x) (subst (λ y. value_at cmp y coming ≡ None) is (below_none o q coming below))
            ∙ left v
          where
            left : (x : Option V) → or_else x None ≡ x
            left None = refl
            left (Some x) = refl

        none : (x y : Option V) → or_else (or_else x None) y ≡ or_else x y
        none None y = refl
        none (Some x) y = refl

        by : (b : Bool) → is_eq (cmp q k) ≡ b → or_else (or_else (value_at cmp k done) (cond b v None)) (value_at cmp k coming) ≡ cond b v (or_else (value_at cmp k done) (value_at cmp k coming))
        by true e = here (tied exact q k e)
        by false e = none (value_at cmp k done) (value_at cmp k coming)

    -- what is there of a key, and what becomes of the entries where it is exchanged
    pub value_here : (q : K) (done coming : List (K × V)) (v : Option V) → IsAbove cmp q done → IsBelow cmp q coming → value_at cmp q (done ++ entry_list q v ++ coming) ≡ v
    value_here q done coming v above below = value_between q q done coming v above below ∙ ap (λ c. cond (is_eq c) v (or_else (value_at cmp q done) (value_at cmp q coming))) (tied_itself o q)

    pub value_exchanged : (k q : K) (done coming : List (K × V)) (v w : Option V) → IsAbove cmp q done → IsBelow cmp q coming → value_at cmp k (done ++ entry_list q w ++ coming) ≡ cond (is_eq (cmp q k)) w (value_at cmp k (done ++ entry_list q v ++ coming))
    value_exchanged k q done coming v w above below =
        value_between k q done coming w above below
        ∙ by (is_eq (cmp q k))
        ∙ ap (cond (is_eq (cmp q k)) w) (sym (value_between k q done coming v above below))
      where
        by : (b : Bool) → cond b w (or_else (value_at cmp k done) (value_at cmp k coming)) ≡ cond b w (cond b v (or_else (value_at cmp k done) (value_at cmp k coming)))
        by true = refl
        by false = refl

    -- what is told of the key, where the entries done and those to come are told already
    pub told_next : (eq : V → V → Bool) → ((a b : V) → eq a b ≡ true → a ≡ b) → (old done new coming after : List (K × V)) (q : K) (v w : Option V) (told more : List (K × Change V)) → IsAbove cmp q done → IsAbove cmp q told → IsBelow cmp q after
        → coming ≡ entry_list q v ++ after → new ≡ done ++ entry_list q w → more ≡ told ++ told_at q (change_between eq v w) → IsDifference cmp eq old (done ++ coming) told → IsDifference cmp eq old (new ++ after) more
    told_next eq tells old done new coming after q v w told more above above' below is becomes tells_it so_far =
        let now : done ++ coming ≡ done ++ entry_list q v ++ after = ap (λ l. done ++ l) is ∙ sym (append_assoc done (entry_list q v) after) in
        let here : value_at cmp q (done ++ coming) ≡ v = ap (value_at cmp q) now ∙ value_here q done after v above below in
        subst (λ d. IsDifference cmp eq old (new ++ after) d) (ap (λ x. told ++ told_at q (change_between eq x w)) here ∙ sym tells_it)
        (difference_more o eq exact tells told q w old (done ++ coming) (new ++ after) above' so_far
        (λ k. ap (λ l. value_at cmp k (l ++ after)) becomes ∙ value_exchanged k q done after v w above below ∙ ap (λ l. cond (is_eq (cmp q k)) w (value_at cmp k l)) (sym now)))

-- outputs made so far, and those to come
pub outputs_next : {K I O : Type 0} (out_of : K → I → O) (inputs coming after : List (K × I)) (made new : List (K × O)) (q : K) (input : Option I)
    → outputs_of out_of inputs ≡ made ++ outputs_of out_of coming → coming ≡ entry_list q input ++ after → new ≡ made ++ entry_list q (option_map (out_of q) input) → outputs_of out_of inputs ≡ new ++ outputs_of out_of after
outputs_next out_of inputs coming after made new q None so_far is more = so_far ∙ ap (λ l. made ++ outputs_of out_of l) is ∙ ap (λ l. l ++ outputs_of out_of after) (sym (more ∙ append-nil made))
outputs_next out_of inputs coming after made new q (Some input) so_far is more =
    so_far ∙ ap (λ l. made ++ outputs_of out_of l) is ∙ sym (append_assoc made ((q, out_of q input) ∷ []) (outputs_of out_of after)) ∙ ap (λ l. l ++ outputs_of out_of after) (sym more)

-- makes of the entry of a key, and of those to come
pub made_entry : {K I : Type 0} (q : K) (v : Option I) (rest : List (K × I)) (made : ℕ) → more_made (length (entry_list q v ++ rest)) made ≡ more_made (length rest) (made_one v made)
made_entry q None rest made = refl
made_entry q (Some v) rest made = refl

-- the least key of two that are those of the first entries
pub least_of : {K A B : Type 0} (cmp : K → K → Ordering) (a b r : Option K) (one : List (K × A)) (other : List (K × B)) → r ≡ least cmp a b → a ≡ first_key one → b ≡ first_key other → least cmp (first_key one) (first_key other) ≡ r
least_of cmp a b r one other is first second = ap (λ x. least cmp x (first_key other)) (sym first) ∙ ap (least cmp a) (sym second) ∙ sym is

-- with no least key none is to come
pub none_ahead : {K A B : Type 0} (cmp : K → K → Ordering) (one : List (K × A)) (other : List (K × B)) → least cmp (first_key one) (first_key other) ≡ None → (one ≡ []) × (other ≡ [])
none_ahead cmp [] [] e = (refl, refl)
none_ahead cmp [] (y ∷ other) e = absurd (cc)
none_ahead cmp (x ∷ one) [] e = absurd (cc)
none_ahead cmp (x ∷ one) (y ∷ other) e = by (is_gt (cmp x.0 y.0)) e
  where
    by : (t : Bool) → cond t (Some y.0) (Some x.0) ≡ None → (x ∷ one ≡ []) × (y ∷ other ≡ [])
    by true e = absurd (cc)
    by false e = absurd (cc)
