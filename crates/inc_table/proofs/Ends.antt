-- Entries with one more above all of them, and the value at a key where two lists are joined.
use Rattle.std.proofs.Common.{◌≡◌, suc, ◌<◌, length, map, map-id, take, drop, get_or, slice_get, ◌-◌, arith, rules, IsTrue, ◌↔◌, Bool, true, false, cond, List, [], ◌∷◌, ◌++◌, refl, sym, ap, ◌∙◌, subst, None, Some, Option}
use Rattle.std.proofs.Math.Seq.{drop-cons}
use Rattle.std.proofs.lemmas.Bool.{false≢true}
use Rattle.std.proofs.lemmas.List.{take-append-drop}
use Rattle.std.specs.Cmp.{IsTotalOrder}
use Rattle.std.specs.List.{AllByRecursion}
use Rattle.std.specs.Map.{keys_of}
use Rattle.std.specs.Ordering.{is_eq, is_lt, match_ordering}
use Rattle.std.specs.declared.cmp.Ordering.{Ordering}
use Rattle.std.specs.declared.cmp.Ordering.TheVariants.{Less, Equal, Greater}
use Rattle.nv_map.specs.Map.{KeysRise, value_at, with_entry}
use Rattle.nv_map.proofs.Changes.{rise_with_entry}
use Rattle.nv_map.proofs.Rising.{turned, rise_below, rise_head, rise_tail}
use Rattle.inc_table.specs.Delta.{IsAbove}

-- the first of two values that is there
abbrev pub or_else : {V : Type 0} → Option V → Option V → Option V
or_else None other = other
or_else (Some value) other = Some value

pub value_append : {K V : Type 0} (cmp : K → K → Ordering) (k : K) (l m : List (K × V)) → value_at cmp k (l ++ m) ≡ or_else (value_at cmp k l) (value_at cmp k m)
value_append cmp k [] m = refl
value_append {K} {V} cmp k (x ∷ l) m = by (is_eq (cmp k x.0)) (value_append cmp k l m)
  where
    by : (b : Bool) → value_at cmp k (l ++ m) ≡ or_else (value_at cmp k l) (value_at cmp k m) → cond b (Some x.1) (value_at cmp k (l ++ m)) ≡ or_else (cond b (Some x.1) (value_at cmp k l)) (value_at cmp k m)
    by true rest = refl
    by false rest = rest

pub none_either : (V : Type 0) (b : Bool) → ◌≡◌ {A = Option V} None (cond b None None)
none_either V true = refl
none_either V false = refl

pub Lt-is : (r : Ordering) → is_lt r ≡ true → r ≡ Less
Lt-is Less e = refl
Lt-is Equal e = absurd (false≢true e)
Lt-is Greater e = absurd (false≢true e)

pub or_else_none : {V : Type 0} (v : Option V) → or_else v None ≡ v
or_else_none None = refl
or_else_none (Some v) = refl

module _ {K V : Type 0} {cmp : K → K → Ordering} (o : IsTotalOrder cmp) where
  -- a key above all is not there
  pub above_none : (q : K) (l : List (K × V)) → IsAbove cmp q l → value_at cmp q l ≡ None
  above_none q [] a = refl
  above_none q (x ∷ l) a = ap (λ r. cond (is_eq r) (Some x.1) (value_at cmp q l)) (turned o x.0 q a.0) ∙ above_none q l a.1

  -- nor is one below all
  pub below_none : (q : K) (l : List (K × V)) → AllByRecursion (λ y. cmp q y ≡ Less) (keys_of l) → value_at cmp q l ≡ None
  below_none q [] a = refl
  below_none q (x ∷ l) a = ap (λ r. cond (is_eq r) (Some x.1) (value_at cmp q l)) a.0 ∙ below_none q l a.1

  -- its entry goes last, and the keys rise
  pub above_last : (e : K × V) (l : List (K × V)) → IsAbove cmp e.0 l → with_entry cmp e l ≡ l ++ e ∷ []
  above_last e [] a = refl
  above_last e (x ∷ l) a = ap (λ r. match_ordering r (e ∷ x ∷ l) ((x.0, e.1) ∷ l) (x ∷ with_entry cmp e l)) (turned o x.0 e.0 a.0) ∙ ap (λ m. x ∷ m) (above_last e l a.1)

  pub rise_last : (e : K × V) (l : List (K × V)) → KeysRise cmp l → IsAbove cmp e.0 l → KeysRise cmp (l ++ e ∷ [])
  rise_last e l r a = subst (λ m. KeysRise cmp m) (above_last e l a) (rise_with_entry o e l r)

module _ {K : Type 0} (cmp : K → K → Ordering) where
  -- a key above all of two lists is above all of them joined, and one above those of the second is one above those of the first
  pub above_append : {V : Type 0} (q : K) (l m : List (K × V)) → IsAbove cmp q l → IsAbove cmp q m → IsAbove cmp q (l ++ m)
  above_append q [] m a b = b
  above_append q (x ∷ l) m a b = (a.0, above_append q l m a.1 b)

  pub above_front : {V : Type 0} (q : K) (l m : List (K × V)) → IsAbove cmp q (l ++ m) → IsAbove cmp q l
  above_front q [] m a = tt
  above_front q (x ∷ l) m a = (a.0, above_front q l m a.1)

  pub above_end : {V : Type 0} (q : K) (l : List (K × V)) (e : K × V) → IsAbove cmp q (l ++ e ∷ []) → cmp e.0 q ≡ Less
  above_end q [] e a = a.0
  above_end q (x ∷ l) e a = above_end q l e a.1

  pub above_more : IsTotalOrder cmp → {V : Type 0} (q r : K) (l : List (K × V)) → cmp q r ≡ Less → IsAbove cmp q l → IsAbove cmp r l
  above_more o q r [] e a = tt
  above_more o q r (x ∷ l) e a = (o.trans x.0 q r a.0 e, above_more o q r l e a.1)

  -- The item that a loop over the whole list comes to is above those before it.
  pub above_turn : {V : Type 0} (all xs : List (K × V)) (x : K × V) → KeysRise cmp all → map (λ y. y) xs ≡ take (length xs) all → (length xs < length all) × (x ≡ get_or all (length xs) x) → IsAbove cmp x.0 xs
  above_turn {V} all xs x r so_far turn =
      let is : xs ≡ take (length xs) all = sym (map-id xs) ∙ so_far in
      let split : all ≡ take (length xs) all ++ x ∷ drop (suc (length xs)) all = sym (take-append-drop (length xs) all) ∙ ap (λ m. take (length xs) all ++ m) (drop-cons all (length xs) x turn.0 ∙ ap (λ y. y ∷ drop (suc (length xs)) all) (sym turn.1)) in
      subst (λ m. IsAbove cmp x.0 m) (sym is) (rise_below cmp (take (length xs) all) x (drop (suc (length xs)) all) (subst (λ m. KeysRise cmp m) split r))

  -- A list ends with none where it is empty. A key above its last entry is above all.
  pub ends_empty : {V : Type 0} (l : List (K × V)) → slice_get l (length l - 1) ≡ None → l ≡ []
  ends_empty [] e = refl
  ends_empty (x ∷ []) e = absurd (cc)
  ends_empty (x ∷ y ∷ l) e =
      let at : length (x ∷ y ∷ l) - 1 ≡ suc (length (y ∷ l) - 1) = omega arith in
      let none : y ∷ l ≡ [] = ends_empty (y ∷ l) (ap (slice_get (x ∷ y ∷ l)) (sym at) ∙ e) in
      absurd (cc)

  pub last_below : IsTotalOrder cmp → {V : Type 0} (l : List (K × V)) (e : K × V) (k : K) → KeysRise cmp l → slice_get l (length l - 1) ≡ Some e → cmp e.0 k ≡ Less → IsAbove cmp k l
  last_below o [] e k r f c = tt
  last_below o {V} (x ∷ []) e k r f c = let same : x ≡ e = cc in (sym (ap (λ z. cmp z k) (ap (λ (z : K × V). z.0) (sym same))) ∙ c, tt)
  last_below o {V} (x ∷ y ∷ l) e k r f c =
      let at : length (x ∷ y ∷ l) - 1 ≡ suc (length (y ∷ l) - 1) = omega arith in
      let rest = last_below o (y ∷ l) e k (rise_tail cmp x (y ∷ l) r) (ap (slice_get (x ∷ y ∷ l)) (sym at) ∙ f) c in
      (o.trans x.0 y.0 k (rise_head cmp x (y ∷ l) r).0 rest.0, rest)

  pub below_last : {V : Type 0} (l : List (K × V)) (e : K × V) (k : K) → slice_get l (length l - 1) ≡ Some e → IsAbove cmp k l → cmp e.0 k ≡ Less
  below_last [] e k f a = absurd (cc)
  below_last {V} (x ∷ []) e k f a = let same : x ≡ e = cc in sym (ap (λ (z : K × V). cmp z.0 k) same) ∙ a.0
  below_last (x ∷ y ∷ l) e k f a =
      let at : length (x ∷ y ∷ l) - 1 ≡ suc (length (y ∷ l) - 1) = omega arith in
      below_last (y ∷ l) e k (ap (slice_get (x ∷ y ∷ l)) (sym at) ∙ f) a.1

  pub fits_is : IsTotalOrder cmp → {V : Type 0} (l : List (K × V)) (e : K × V) (k : K) (b : Bool) → KeysRise cmp l → Some e ≡ slice_get l (length l - 1) → b ≡ is_lt (cmp e.0 k) → IsTrue b ↔ IsAbove cmp k l
  fits_is o l e k true r f c = (λ h. last_below o l e k r (sym f) (Lt-is (cmp e.0 k) (sym c)), λ a. search rules)
  fits_is o l e k false r f c = (λ h. absurd (search rules), λ a. absurd (false≢true (c ∙ ap is_lt (below_last l e k (sym f) a))))

  pub empty_fits : {V : Type 0} (l : List (K × V)) (k : K) → None ≡ slice_get l (length l - 1) → IsTrue true ↔ IsAbove cmp k l
  empty_fits l k f = (λ h. subst (λ m. IsAbove cmp k m) (sym (ends_empty l (sym f))) tt, λ a. search rules)
