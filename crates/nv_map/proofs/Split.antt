-- What is at a key, or after it, in a list whose keys rise, split at one of its entries.
use Rattle.std.proofs.Common.{◌≡◌, Bool, true, false, cond, List, [], ◌∷◌, ◌++◌, refl, ap, ◌∙◌, None, Some, Option}
use Rattle.std.specs.Cmp.{IsTotalOrder}
use Rattle.std.specs.List.{AllByRecursion}
use Rattle.std.specs.Option.{option_or, option_map}
use Rattle.std.specs.Map.{keys_of, lookup, lookup_entry, remove_entry, set_value}
use Rattle.std.specs.BTreeMap.{is_at}
use Rattle.std.specs.Ordering.{is_lt, is_gt, is_eq, match_ordering}
use Rattle.std.specs.declared.cmp.Ordering.{Ordering}
use Rattle.std.specs.declared.cmp.Ordering.TheVariants.{Less, Equal, Greater}
use Rattle.nv_map.specs.Map.{KeysRise, PartsKeys, with_entry, value_by, entry_by, without_by, first_entry, entry_above}
use Rattle.nv_map.specs.inner.Keys.{keys_part}
use Rattle.nv_map.proofs.Rising.{Under, Over, all_turned, past, short}

by_cond : {A : Type 0} (b : Bool) (x : A) (f g : Option A) → cond b (Some x) (option_or f g) ≡ option_or (cond b (Some x) f) g
by_cond true x f g = refl
by_cond false x f g = refl

right_none : {A : Type 0} (a : Option A) → option_or a None ≡ a
right_none None = refl
right_none (Some a) = refl

pub mapped_or : {A B : Type 0} (f : A → B) (r : Option A) (b : Option B) → (r ≡ None → ⊥) → option_or (option_map f r) b ≡ option_map f r
mapped_or f None b n = absurd (n refl)
mapped_or f (Some a) b n = refl

pub first_or : {K V : Type 0} (l : List (K × V)) (m : K × V) (r : List (K × V)) → first_entry (l ++ m ∷ r) ≡ option_or (first_entry l) (Some m)
first_or [] m r = refl
first_or (x ∷ l) m r = refl

-- Where no key of one part passes the test, all happens in the other.
module _ {K V : Type 0} (test : K → Bool) where
  abbrev pub NoneOf : List (K × V) → Type 0
  NoneOf l = AllByRecursion (λ k. test k ≡ false) (keys_of l)

  pub first_of_both : (l r : List (K × V)) → lookup_entry test (l ++ r) ≡ option_or (lookup_entry test l) (lookup_entry test r)
  first_of_both [] r = refl
  first_of_both (x ∷ l) r = ap (cond (test x.0) (Some x)) (first_of_both l r) ∙ by_cond (test x.0) x (lookup_entry test l) (lookup_entry test r)

  pub no_value : (l : List (K × V)) → NoneOf l → lookup test l ≡ None
  no_value [] n = refl
  no_value (x ∷ l) n = ap (λ b. cond b (Some x.1) (lookup test l)) n.0 ∙ no_value l n.1

  pub no_entry : (l : List (K × V)) → NoneOf l → lookup_entry test l ≡ None
  no_entry [] n = refl
  no_entry (x ∷ l) n = ap (λ b. cond b (Some x) (lookup_entry test l)) n.0 ∙ no_entry l n.1

  pub none_gone : (l : List (K × V)) → NoneOf l → remove_entry test l ≡ l
  none_gone [] n = refl
  none_gone (x ∷ l) n = ap (λ b. cond b l (x ∷ remove_entry test l)) n.0 ∙ ap (λ m. x ∷ m) (none_gone l n.1)

  pub none_set : (v : V) (l : List (K × V)) → NoneOf l → set_value test l v ≡ l
  none_set v [] n = refl
  none_set v (x ∷ l) n = ap (λ b. cond b ((x.0, v) ∷ l) (x ∷ set_value test l v)) n.0 ∙ ap (λ m. x ∷ m) (none_set v l n.1)

  pub value_back : (l r : List (K × V)) → NoneOf l → lookup test (l ++ r) ≡ lookup test r
  value_back [] r n = refl
  value_back (x ∷ l) r n = ap (λ b. cond b (Some x.1) (lookup test (l ++ r))) n.0 ∙ value_back l r n.1

  pub value_front : (l r : List (K × V)) → NoneOf r → lookup test (l ++ r) ≡ lookup test l
  value_front [] r n = no_value r n
  value_front (x ∷ l) r n = ap (cond (test x.0) (Some x.1)) (value_front l r n)

  pub entry_back : (l r : List (K × V)) → NoneOf l → lookup_entry test (l ++ r) ≡ lookup_entry test r
  entry_back l r n = first_of_both l r ∙ ap (λ a. option_or a (lookup_entry test r)) (no_entry l n)

  pub entry_front : (l r : List (K × V)) → NoneOf r → lookup_entry test (l ++ r) ≡ lookup_entry test l
  entry_front l r n = first_of_both l r ∙ ap (option_or (lookup_entry test l)) (no_entry r n) ∙ right_none (lookup_entry test l)

  pub gone_back : (l r : List (K × V)) → NoneOf l → remove_entry test (l ++ r) ≡ l ++ remove_entry test r
  gone_back [] r n = refl
  gone_back (x ∷ l) r n = ap (λ b. cond b (l ++ r) (x ∷ remove_entry test (l ++ r))) n.0 ∙ ap (λ m. x ∷ m) (gone_back l r n.1)

  over_gone : (b : Bool) (x : K × V) (l m r : List (K × V)) → cond b (l ++ r) (x ∷ (m ++ r)) ≡ cond b l (x ∷ m) ++ r
  over_gone true x l m r = refl
  over_gone false x l m r = refl

  pub gone_front : (l r : List (K × V)) → NoneOf r → remove_entry test (l ++ r) ≡ remove_entry test l ++ r
  gone_front [] r n = none_gone r n
  gone_front (x ∷ l) r n = ap (λ m. cond (test x.0) (l ++ r) (x ∷ m)) (gone_front l r n) ∙ over_gone (test x.0) x l (remove_entry test l) r

  pub set_back : (v : V) (l r : List (K × V)) → NoneOf l → set_value test (l ++ r) v ≡ l ++ set_value test r v
  set_back v [] r n = refl
  set_back v (x ∷ l) r n = ap (λ b. cond b ((x.0, v) ∷ (l ++ r)) (x ∷ set_value test (l ++ r) v)) n.0 ∙ ap (λ m. x ∷ m) (set_back v l r n.1)

  over_set : (b : Bool) (y x : K × V) (l m r : List (K × V)) → cond b (y ∷ (l ++ r)) (x ∷ (m ++ r)) ≡ cond b (y ∷ l) (x ∷ m) ++ r
  over_set true y x l m r = refl
  over_set false y x l m r = refl

  pub set_front : (v : V) (l r : List (K × V)) → NoneOf r → set_value test (l ++ r) v ≡ set_value test l v ++ r
  set_front v [] r n = none_set v r n
  set_front v (x ∷ l) r n = ap (λ m. cond (test x.0) ((x.0, v) ∷ (l ++ r)) (x ∷ m)) (set_front v l r n) ∙ over_set (test x.0) (x.0, v) x l (set_value test l v) r

module _ {K V : Type 0} {cmp : K → K → Ordering} {order : K → Ordering} (p : PartsKeys cmp order) where
  -- with another value at the key that the probe is equal to
  abbrev pub set_by : V → List (K × V) → List (K × V)
  set_by v l = set_value (is_at order) l v

  -- no key of a part is equal to one that is above, or below, all of it
  none_above : (l : List (K × V)) → Over order l → NoneOf (is_at order) l
  none_above l a = all_turned _ _ (λ x e. ap is_eq e) l a

  none_below : (l : List (K × V)) → Under order l → NoneOf (is_at order) l
  none_below l a = all_turned _ _ (λ x e. ap is_eq e) l a

  none_after : (l : List (K × V)) → Over order l → NoneOf (λ x. is_lt (order x)) l
  none_after l a = all_turned _ _ (λ x e. ap is_lt e) l a

  module _ (l : List (K × V)) (m : K × V) (r : List (K × V)) (s : KeysRise cmp (l ++ m ∷ r)) where
    abbrev all : List (K × V)
    all = l ++ m ∷ r

    -- where the probe is below the key of the entry
    module _ (less : order m.0 ≡ Less) where
      none_high : NoneOf (is_at order) (m ∷ r)
      none_high = (ap is_eq less, none_below r (short p l m r s (ap is_gt less)))

      pub value_low : value_by order all ≡ value_by order l
      value_low = value_front (is_at order) l (m ∷ r) none_high

      pub entry_low : entry_by order all ≡ entry_by order l
      entry_low = entry_front (is_at order) l (m ∷ r) none_high

      pub without_low : without_by order all ≡ without_by order l ++ m ∷ r
      without_low = gone_front (is_at order) l (m ∷ r) none_high

      pub with_value_low : (v : V) → set_by v all ≡ set_by v l ++ m ∷ r
      with_value_low v = set_front (is_at order) v l (m ∷ r) none_high

    -- where it is equal to it
    module _ (equal : order m.0 ≡ Equal) where
      none_front : NoneOf (is_at order) l
      none_front = none_above l (past p l m r s (ap is_lt equal))

      pub value_own : value_by order all ≡ Some m.1
      value_own = value_back (is_at order) l (m ∷ r) none_front ∙ ap (λ q. cond (is_eq q) (Some m.1) (value_by order r)) equal

      pub entry_own : entry_by order all ≡ Some m
      entry_own = entry_back (is_at order) l (m ∷ r) none_front ∙ ap (λ q. cond (is_eq q) (Some m) (entry_by order r)) equal

      pub without_own : without_by order all ≡ l ++ r
      without_own = gone_back (is_at order) l (m ∷ r) none_front ∙ ap (λ q. l ++ cond (is_eq q) r (m ∷ without_by order r)) equal

      pub with_value_own : (v : V) → set_by v all ≡ l ++ (m.0, v) ∷ r
      with_value_own v = set_back (is_at order) v l (m ∷ r) none_front ∙ ap (λ q. l ++ cond (is_eq q) ((m.0, v) ∷ r) (m ∷ set_by v r)) equal

    -- where it is above
    module _ (greater : order m.0 ≡ Greater) where
      none_low : NoneOf (is_at order) l
      none_low = none_above l (past p l m r s (ap is_lt greater))

      pub value_high : value_by order all ≡ value_by order r
      value_high = value_back (is_at order) l (m ∷ r) none_low ∙ ap (λ q. cond (is_eq q) (Some m.1) (value_by order r)) greater

      pub entry_high : entry_by order all ≡ entry_by order r
      entry_high = entry_back (is_at order) l (m ∷ r) none_low ∙ ap (λ q. cond (is_eq q) (Some m) (entry_by order r)) greater

      pub without_high : without_by order all ≡ l ++ m ∷ without_by order r
      without_high = gone_back (is_at order) l (m ∷ r) none_low ∙ ap (λ q. l ++ cond (is_eq q) r (m ∷ without_by order r)) greater

      pub with_value_high : (v : V) → set_by v all ≡ l ++ m ∷ set_by v r
      with_value_high v = set_back (is_at order) v l (m ∷ r) none_low ∙ ap (λ q. l ++ cond (is_eq q) ((m.0, v) ∷ r) (m ∷ set_by v r)) greater

    -- where it is below, what comes after it is below the entry or the entry, and else above it
    pub after_low : is_lt (order m.0) ≡ true → entry_above order all ≡ option_or (entry_above order l) (Some m)
    after_low h = first_of_both (λ x. is_lt (order x)) l (m ∷ r) ∙ ap (λ b. option_or (entry_above order l) (cond b (Some m) (entry_above order r))) h

    pub after_high : is_lt (order m.0) ≡ false → entry_above order all ≡ entry_above order r
    after_high h = entry_back (λ x. is_lt (order x)) l (m ∷ r) (none_after l (past p l m r s h)) ∙ ap (λ b. cond b (Some m) (entry_above order r)) h

module _ {K V : Type 0} {cmp : K → K → Ordering} (o : IsTotalOrder cmp) where
  -- an entry put in
  module _ (e : K × V) where
    over : (q : Ordering) (a b c r : List (K × V)) → match_ordering q (a ++ r) (b ++ r) (c ++ r) ≡ match_ordering q a b c ++ r
    over Less a b c r = refl
    over Equal a b c r = refl
    over Greater a b c r = refl

    pub with_low : (l : List (K × V)) (m : K × V) (r : List (K × V)) → cmp e.0 m.0 ≡ Less → with_entry cmp e (l ++ m ∷ r) ≡ with_entry cmp e l ++ m ∷ r
    with_low [] m r less = ap (λ q. match_ordering q (e ∷ m ∷ r) ((m.0, e.1) ∷ r) (m ∷ with_entry cmp e r)) less
    with_low (x ∷ l) m r less =
        ap (λ t. match_ordering (cmp e.0 x.0) (e ∷ x ∷ (l ++ m ∷ r)) ((x.0, e.1) ∷ (l ++ m ∷ r)) (x ∷ t)) (with_low l m r less)
        ∙ over (cmp e.0 x.0) (e ∷ x ∷ l) ((x.0, e.1) ∷ l) (x ∷ with_entry cmp e l) (m ∷ r)

    with_back : (l r : List (K × V)) → Over (cmp e.0) l → with_entry cmp e (l ++ r) ≡ l ++ with_entry cmp e r
    with_back [] r a = refl
    with_back (x ∷ l) r a =
        ap (λ q. match_ordering q (e ∷ x ∷ (l ++ r)) ((x.0, e.1) ∷ (l ++ r)) (x ∷ with_entry cmp e (l ++ r))) a.0 ∙ ap (λ t. x ∷ t) (with_back l r a.1)

    pub with_high : (l : List (K × V)) (m : K × V) (r : List (K × V)) → KeysRise cmp (l ++ m ∷ r) → cmp e.0 m.0 ≡ Greater → with_entry cmp e (l ++ m ∷ r) ≡ l ++ m ∷ with_entry cmp e r
    with_high l m r s greater =
        with_back l (m ∷ r) (past (keys_part o e.0) l m r s (ap is_lt greater))
        ∙ ap (λ q. l ++ match_ordering q (e ∷ m ∷ r) ((m.0, e.1) ∷ r) (m ∷ with_entry cmp e r)) greater
