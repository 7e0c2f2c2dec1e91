-- Keys that rise: the parts of such a list, what is below and above a key in it, and two such lists joined.
use Rattle.std.proofs.Common.{◌≡◌, false, List, [], ◌∷◌, ◌++◌, refl, sym, ap, ◌∙◌}
use Rattle.std.proofs.lemmas.Bool.{true≢false}
use Rattle.std.specs.Cmp.{IsTotalOrder}
use Rattle.std.specs.List.{AllByRecursion}
use Rattle.std.specs.List.Sorted.{IsStrictlySortedBy}
use Rattle.std.specs.Map.{keys_of}
use Rattle.std.specs.Ordering.{is_lt, is_gt, ordering_reverse}
use Rattle.std.specs.declared.cmp.Ordering.{Ordering}
use Rattle.std.specs.declared.cmp.Ordering.TheVariants.{Less, Equal, Greater}
use Rattle.nv_map.specs.Map.{KeysRise, PartsKeys}

module _ {K : Type 0} {cmp : K → K → Ordering} (o : IsTotalOrder cmp) where
  pub turned : (x y : K) → cmp x y ≡ Less → cmp y x ≡ Greater
  turned x y e = o.antisymm y x ∙ ap ordering_reverse e

  pub turned_back : (x y : K) → cmp x y ≡ Greater → cmp y x ≡ Less
  turned_back x y e = o.antisymm y x ∙ ap ordering_reverse e

module _ {K : Type 0} {cmp : K → K → Ordering} {order : K → Ordering} (p : PartsKeys cmp order) where
  past_by : (x : K) → is_lt (order x) ≡ false → (y : K) → cmp y x ≡ Less → order y ≡ Greater
  past_by x h y below = by (order y) refl
    where
      by : (r : Ordering) → order y ≡ r → r ≡ Greater
      by Less e = absurd (true≢false (sym (ap is_lt (p.below y x below (ap is_gt e))) ∙ h))
      by Equal e = absurd (true≢false (sym (ap is_lt (p.below y x below (ap is_gt e))) ∙ h))
      by Greater e = refl

  short_by : (x : K) → is_gt (order x) ≡ false → (y : K) → cmp x y ≡ Less → order y ≡ Less
  short_by x h y above = p.below x y above h

pub rise_none : {K : Type 0} (V : Type 0) (cmp : K → K → Ordering) → KeysRise {V = V} cmp []
unfolding IsStrictlySortedBy
rise_none V cmp = tt

module _ {K V : Type 0} where
  -- what holds of each key holds of those in front, of those after, and of one between
  all_front : (P : K → Type 0) (l r : List (K × V)) → AllByRecursion P (keys_of (l ++ r)) → AllByRecursion P (keys_of l)
  all_front P [] r a = tt
  all_front P (x ∷ l) r a = (a.0, all_front P l r a.1)

  all_middle : (P : K → Type 0) (l : List (K × V)) (e : K × V) (r : List (K × V)) → AllByRecursion P (keys_of (l ++ e ∷ r)) → P e.0
  all_middle P [] e r a = a.0
  all_middle P (x ∷ l) e r a = all_middle P l e r a.1

  all_joined : (P : K → Type 0) (l r : List (K × V)) → AllByRecursion P (keys_of l) → AllByRecursion P (keys_of r) → AllByRecursion P (keys_of (l ++ r))
  all_joined P [] r a b = b
  all_joined P (x ∷ l) r a b = (a.0, all_joined P l r a.1 b)

  pub all_turned : (P Q : K → Type 0) (turn : (k : K) → P k → Q k) (l : List (K × V)) → AllByRecursion P (keys_of l) → AllByRecursion Q (keys_of l)
  all_turned P Q turn [] a = tt
  all_turned P Q turn (x ∷ l) a = (turn x.0 a.0, all_turned P Q turn l a.1)

  -- a probe is below each key; it is above each key
  abbrev pub Under : (K → Ordering) → List (K × V) → Type 0
  Under order l = AllByRecursion (λ x. order x ≡ Less) (keys_of l)

  abbrev pub Over : (K → Ordering) → List (K × V) → Type 0
  Over order l = AllByRecursion (λ x. order x ≡ Greater) (keys_of l)

  module _ (cmp : K → K → Ordering) where
    -- each key is below this one; this one is below each key
    abbrev pub AllBelow : K → List (K × V) → Type 0
    AllBelow k l = AllByRecursion (λ x. cmp x k ≡ Less) (keys_of l)

    abbrev pub Below : K → List (K × V) → Type 0
    Below k l = Under (cmp k) l

    pub rise_front : (l r : List (K × V)) → KeysRise cmp (l ++ r) → KeysRise cmp l
    unfolding IsStrictlySortedBy
    rise_front [] r s = tt
    rise_front (x ∷ l) r s = (all_front _ l r s.0, rise_front l r s.1)

    pub rise_back : (l r : List (K × V)) → KeysRise cmp (l ++ r) → KeysRise cmp r
    unfolding IsStrictlySortedBy
    rise_back [] r s = s
    rise_back (x ∷ l) r s = rise_back l r s.1

    pub rise_head : (e : K × V) (r : List (K × V)) → KeysRise cmp (e ∷ r) → Below e.0 r
    unfolding IsStrictlySortedBy
    rise_head e r s = s.0

    pub rise_tail : (e : K × V) (r : List (K × V)) → KeysRise cmp (e ∷ r) → KeysRise cmp r
    unfolding IsStrictlySortedBy
    rise_tail e r s = s.1

    pub rise_below : (l : List (K × V)) (e : K × V) (r : List (K × V)) → KeysRise cmp (l ++ e ∷ r) → AllBelow e.0 l
    unfolding IsStrictlySortedBy
    rise_below [] e r s = tt
    rise_below (x ∷ l) e r s = (all_middle _ l e r s.0, rise_below l e r s.1)

    pub rise_high : (l : List (K × V)) (e : K × V) (r : List (K × V)) → KeysRise cmp (l ++ e ∷ r) → KeysRise cmp r
    rise_high l e r s = rise_tail e r (rise_back l (e ∷ r) s)

  module _ {cmp : K → K → Ordering} {order : K → Ordering} (p : PartsKeys cmp order) where
    -- a probe that is not below a key is above those below it, and one that is not above a key is below those above it
    pub past : (l : List (K × V)) (e : K × V) (r : List (K × V)) → KeysRise cmp (l ++ e ∷ r) → is_lt (order e.0) ≡ false → Over order l
    past l e r s h = all_turned _ _ (past_by p e.0 h) l (rise_below cmp l e r s)

    pub short : (l : List (K × V)) (e : K × V) (r : List (K × V)) → KeysRise cmp (l ++ e ∷ r) → is_gt (order e.0) ≡ false → Under order r
    short l e r s h = all_turned _ _ (short_by p e.0 h) r (rise_head cmp e r (rise_back cmp l (e ∷ r) s))
