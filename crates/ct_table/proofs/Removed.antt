-- What is left when the entries of a zone are taken out.
use Rattle.std.proofs.Common.{◌≡◌, Bool, true, false, cond, not, ◌&&◌, ◌||◌, List, [], ◌∷◌, filter, Option, None, Some, refl, sym, ap, ◌∙◌}
use Rattle.std.proofs.lemmas.Bool.{true≢false, and_parts}
use Rattle.std.proofs.lemmas.Fn.{filter_same}
use Rattle.std.specs.List.{list_any}
use Rattle.std.specs.List.Retain.{IsFiltered}
use Rattle.std.specs.Map.{lookup}
use Rattle.pkt_core.specs.declared.tuple.Tuple.{Tuple}
use Rattle.ct_core.specs.declared.entry.Entry.{Entry}
use Rattle.ct_core.specs.declared.look.Side.{Side}
use Rattle.ct_core.specs.declared.zone.Zone.{Zone}
use Rattle.ct_core.specs.Changes.{without_zone}
use Rattle.ct_core.specs.Entry.{same_zone, is_in, has}
use Rattle.ct_core.specs.inner.Exact.{zones_equal}
use Rattle.ct_core.proofs.Found.{zone_is, zones_agree}
use Rattle.ct_table.specs.declared.key.Key.{Key}
use Rattle.ct_table.specs.inner.Key.{keys_equal, key_exact}

-- ---- of a map

same_either : {T : Type 0} (b : Bool) (x : T) → x ≡ cond b x x
same_either true x = refl
same_either false x = refl

module _ {X : Type 0} (t : Key → Bool) (k : Key) where
  front : (b : Bool) (e : Key × X) (es : List (Key × X)) → lookup (keys_equal k) (cond b (e ∷ es) es) ≡ cond b (cond (keys_equal k e.0) (Some e.1) (lookup (keys_equal k) es)) (lookup (keys_equal k) es)
  front true e es = refl
  front false e es = refl

  step : (b c : Bool) (key : Key) (v : X) (rest full : Option X) → rest ≡ cond (t k) full None → t key ≡ b → keys_equal k key ≡ c → cond b (cond c (Some v) rest) rest ≡ cond (t k) (cond c (Some v) full) None
  step true true key v rest full left passes same = sym (ap (λ z. cond z (Some v) None) (ap t (key_exact k key same) ∙ passes))
  step true false key v rest full left passes same = left
  step false true key v rest full left passes same =
      let fails : t k ≡ false = ap t (key_exact k key same) ∙ passes in
      left ∙ ap (λ z. cond z full None) fails ∙ sym (ap (λ z. cond z (Some v) None) fails)
  step false false key v rest full left passes same = left

  -- the value at a key is left where the key passes
  pub lookup-filter : (es : List (Key × X)) → lookup (keys_equal k) (filter (λ e. t e.0) es) ≡ cond (t k) (lookup (keys_equal k) es) None
  lookup-filter [] = same_either (t k) None
  lookup-filter (e ∷ es) = front (t e.0) e (filter (λ x. t x.0) es) ∙ step (t e.0) (keys_equal k e.0) e.0 e.1 (lookup (keys_equal k) (filter (λ x. t x.0) es)) (lookup (keys_equal k) es) (lookup-filter es) refl refl

-- the other way round
pub turned : {X : Type 0} (b : Bool) (x : Option X) → cond (not b) x None ≡ cond b None x
turned true x = refl
turned false x = refl

-- ---- of the list

and_true : (b : Bool) → (b && true) ≡ b
and_true true = refl
and_true false = refl

and_false : (b : Bool) → (b && false) ≡ false
and_false true = refl
and_false false = refl

module _ {X : Type 0} (p q : X → Bool) where
  any_step : (b : Bool) (x : X) (xs : List X) (rest : Bool) → list_any p xs ≡ rest → list_any p (cond b (x ∷ xs) xs) ≡ ((p x && b) || rest)
  any_step true x xs rest e = (λ i. sym (and_true (p x)) i || e i)
  any_step false x xs rest e = e ∙ sym (ap (λ b. b || rest) (and_false (p x)))

  any-filter : (xs : List X) → list_any p (filter q xs) ≡ list_any (λ x. p x && q x) xs
  any-filter [] = refl
  any-filter (x ∷ xs) = any_step (q x) x (filter q xs) (list_any (λ y. p y && q y) xs) (any-filter xs)

none_passes : {X : Type 0} (xs : List X) → list_any (λ (x : X). false) xs ≡ false
none_passes [] = refl
none_passes (x ∷ xs) = none_passes xs

any_cond : {X : Type 0} (c : Bool) (p : X → Bool) (xs : List X) → list_any (λ x. cond c false (p x)) xs ≡ cond c false (list_any p xs)
any_cond true p xs = none_passes xs
any_cond false p xs = refl

false_either : (c : Bool) → false ≡ cond c false false
false_either true = refl
false_either false = refl

not_cond : (c : Bool) → not c ≡ cond c false true
not_cond true = refl
not_cond false = refl

module _ (p : Entry → Bool) (z zone : Zone) (of_zone : (e : Entry) → p e ≡ true → e.zone ≡ z) where
  one : (e : Entry) (b : Bool) → p e ≡ b → (b && not (is_in zone e)) ≡ cond (same_zone z zone) false b
  one e true is = ap (λ y. not (same_zone y zone)) (of_zone e is) ∙ not_cond (same_zone z zone)
  one e false is = false_either (same_zone z zone)

  -- of the entries that a test of one zone takes none are left where that is the zone that goes, and else all
  pub any-without : (conns : List Entry) → list_any p (without_zone zone conns) ≡ cond (same_zone z zone) false (list_any p conns)
  any-without conns =
      any-filter p (λ e. not (is_in zone e)) conns
      ∙ (λ i. list_any (λ e. one e (p e) refl i) conns)
      ∙ any_cond (same_zone z zone) p conns

-- those that have a tuple
pub has-without : (side : Side) (z : Zone) (t : Tuple) (zone : Zone) (conns : List Entry) → list_any (has side z t) (without_zone zone conns) ≡ cond (same_zone z zone) false (list_any (has side z t) conns)
has-without side z t zone conns = any-without (has side z t) z zone (λ e is. zone_is e.zone z (and_parts _ _ is).0) conns

-- those of a zone
pub in-without : (z zone : Zone) (conns : List Entry) → list_any (is_in z) (without_zone zone conns) ≡ cond (same_zone z zone) false (list_any (is_in z) conns)
in-without z zone conns = any-without (is_in z) z zone (λ e is. zone_is e.zone z is) conns

kept_step : {X : Type 0} (p : X → Bool) (b : Bool) (x : X) (xs ys : List X) → (b || list_any p xs) ≡ false → (list_any p xs ≡ false → ys ≡ xs) → cond (not b) (x ∷ ys) ys ≡ x ∷ xs
kept_step p true x xs ys none rest = absurd (true≢false none)
kept_step p false x xs ys none rest = ap (λ l. x ∷ l) (rest none)

kept : {X : Type 0} (p : X → Bool) (xs : List X) → list_any p xs ≡ false → filter (λ x. not (p x)) xs ≡ xs
kept p [] none = refl
kept p (x ∷ xs) none = kept_step p (p x) x xs (filter (λ y. not (p y)) xs) none (kept p xs)

-- where the zone has no entry, all stay
pub without-none : (zone : Zone) (conns : List Entry) → list_any (is_in zone) conns ≡ false → without_zone zone conns ≡ conns
without-none zone conns none = kept (is_in zone) conns none

-- which zone is named first does not matter
pub same_zone-sym : (a b : Zone) → same_zone a b ≡ same_zone b a
same_zone-sym a b = by (same_zone a b) (same_zone b a) refl refl
  where
    along : (x y : Zone) → same_zone x y ≡ true → same_zone y x ≡ true
    along x y e =
        let is : x ≡ y = zone_is x y e in
        ap (λ z. same_zone z x) (sym is) ∙ ap (same_zone x) is ∙ e

    by : (p q : Bool) → same_zone a b ≡ p → same_zone b a ≡ q → p ≡ q
    by true true e f = refl
    by true false e f = sym (along a b e) ∙ f
    by false true e f = sym e ∙ along b a f
    by false false e f = refl

-- what `retain` leaves
pub left_by : {F : Type 0} (R : F → Entry → Bool → F → Type 0) (f : F) (zone : Zone) → ((e : Entry) (b : Bool) (g : F) → R f e b g → (b ≡ not (zones_equal e.zone zone)) × (g ≡ f)) → (conns left : List Entry)
    → IsFiltered R f conns left → left ≡ without_zone zone conns
left_by R f zone says conns left filtered =
    filter_same R (λ e. not (zones_equal e.zone zone)) f says conns left filtered
    ∙ (λ i. filter (λ e. not (zones_agree e.zone zone i)) conns)
