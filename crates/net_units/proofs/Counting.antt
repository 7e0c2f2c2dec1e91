-- Counts of entries in lists in which no key stands twice: they depend on the values at each key alone.
use Rattle.std.proofs.Common.{◌≡◌, suc, ◌+◌, Bool, true, false, not, cond, nat_lt, count_by, length, List, [], ◌∷◌, Option, Some, None, refl, sym, ap, ◌∙◌, subst}
use Rattle.std.specs.Prelude.{◌||◌, is_none}
use Rattle.std.specs.Cmp.{IsTotalOrder}
use Rattle.std.specs.List.{AllByRecursion, filter}
use Rattle.std.specs.Map.{keys_of}
use Rattle.std.specs.Option.{option_map_or}
use Rattle.std.specs.Ordering.{eq_by_cmp, is_eq}
use Rattle.std.specs.Set.{is_member}
use Rattle.std.specs.declared.cmp.Ordering.{Ordering}
use Rattle.std.proofs.lemmas.Cmp.{eq_by_cmp_equiv, tied_itself}
use Rattle.std.proofs.lemmas.List.{length-map}
use Rattle.std.proofs.lemmas.List.Filters.{length-filter_both}
use Rattle.std.proofs.lemmas.List.Sums.{length-filter}
use Rattle.std.proofs.lemmas.Map.Keys.{IsDistinct-from_sorted, IsDistinct-head, IsDistinct-tail}
use Rattle.std.proofs.lemmas.Map.Lookups.{CmpEqualImpliesEq}
use Rattle.std.proofs.lemmas.Map.Made.{IsDistinct-keys_filter, length-from_same_keys}
use Rattle.nv_map.specs.Map.{KeysRise, value_at}
use Rattle.inc_table.specs.declared.delta.Change.{Change}
use Rattle.inc_table.specs.declared.delta.Change.TheVariants.{Put}
use Rattle.inc_table.specs.Delta.{IsDifference, change_between}
use Rattle.inc_table.specs.Node.{is_put, made_by}
use Rattle.inc_table.proofs.Applied.{tied}
use Rattle.net_units.specs.Counts.{gone, is_as_before, makes, moved}
use Rattle.net_units.specs.Keys.{KeysStandOnce}

-- whether a value is there that passes a test
abbrev at_value : {V : Type 0} → (V → Bool) → Option V → Bool
at_value test value = option_map_or test value false

-- a key that is told apart from all of these has no value there
none_apart : {K V : Type 0} (cmp : K → K → Ordering) (k : K) (l : List (K × V)) → AllByRecursion (λ y. eq_by_cmp cmp k y ≡ false) (keys_of l) → value_at cmp k l ≡ None
none_apart cmp k [] all = refl
none_apart {K} {V} cmp k (x ∷ l) all = ap (λ b. cond b (Some x.1) (value_at cmp k l)) all.0 ∙ none_apart cmp k l all.1

module _ {K : Type 0} {cmp : K → K → Ordering} (o : IsTotalOrder cmp) (exact : CmpEqualImpliesEq cmp) where
  module _ {V : Type 0} (p : K × V → Bool) where
    -- a key is among those of the entries that pass, where its entry passes
    abbrev TellsPasses : List (K × V) → Type 0
    TellsPasses l = (k : K) → is_member (eq_by_cmp cmp) (keys_of (filter p l)) k ≡ at_value (λ v. p (k, v)) (value_at cmp k l)

    member_passes : (l : List (K × V)) → KeysStandOnce cmp l → TellsPasses l
    member_passes [] once k = refl
    member_passes (x ∷ l) once k = by (is_eq (cmp k x.0)) refl (member_passes l (IsDistinct-tail (eq_by_cmp cmp) x.0 (keys_of l) once))
      where
        -- the first key is there where its entry passes
        first : TellsPasses l → (b : Bool) → is_member (eq_by_cmp cmp) (keys_of (cond b (x ∷ filter p l) (filter p l))) x.0 ≡ b
        first rest true = ap (λ r. is_eq r || is_member (eq_by_cmp cmp) (keys_of (filter p l)) x.0) (tied_itself o x.0)
        first rest false = rest x.0 ∙ ap (at_value (λ v. p (x.0, v))) (none_apart cmp x.0 l (IsDistinct-head (eq_by_cmp cmp) x.0 (keys_of l) once))

        -- any other where it is among the others
        other : (b : Bool) → is_eq (cmp k x.0) ≡ false → is_member (eq_by_cmp cmp) (keys_of (cond b (x ∷ filter p l) (filter p l))) k ≡ is_member (eq_by_cmp cmp) (keys_of (filter p l)) k
        other true e = ap (λ c. c || is_member (eq_by_cmp cmp) (keys_of (filter p l)) k) e
        other false e = refl

        by : (c : Bool) → is_eq (cmp k x.0) ≡ c → TellsPasses l → is_member (eq_by_cmp cmp) (keys_of (filter p (x ∷ l))) k ≡ at_value (λ v. p (k, v)) (cond c (Some x.1) (value_at cmp k l))
        by true e rest = subst (λ q. is_member (eq_by_cmp cmp) (keys_of (filter p (x ∷ l))) q ≡ p (q, x.1)) (sym (tied exact k x.0 e)) (first rest (p x))
        by false e rest = other (p x) e ∙ rest k

    count_is : (l : List (K × V)) → count_by p l ≡ length (keys_of (filter p l))
    count_is l = sym (length-map (filter p l) (λ (x : K × V). x.0) ∙ length-filter p l)

  -- counts are one where the same keys have values that pass
  pub same_count : {A B : Type 0} (p : K × A → Bool) (q : K × B → Bool) (l : List (K × A)) (m : List (K × B)) → KeysStandOnce cmp l → KeysStandOnce cmp m
      → ((k : K) → at_value (λ a. p (k, a)) (value_at cmp k l) ≡ at_value (λ b. q (k, b)) (value_at cmp k m)) → count_by p l ≡ count_by q m
  same_count p q l m once_l once_m same =
      count_is p l
      ∙ length-from_same_keys (eq_by_cmp_equiv o) (keys_of (filter p l)) (keys_of (filter q m)) (IsDistinct-keys_filter (eq_by_cmp cmp) p l once_l) (IsDistinct-keys_filter (eq_by_cmp cmp) q m once_m)
      (λ k. member_passes p l once_l k ∙ same k ∙ sym (member_passes q m once_m k))
      ∙ sym (count_is q m)

-- all are counted, or none
count_all : {X : Type 0} (xs : List X) → count_by (λ x. true) xs ≡ length xs
count_all {X} xs = sym (length-filter (λ (x : X). true) xs) ∙ all xs
  where
    all : (ys : List X) → length (filter (λ (x : X). true) ys) ≡ length ys
    all [] = refl
    all (y ∷ ys) = ap suc (all ys)

count_none : {X : Type 0} (xs : List X) → count_by (λ x. false) xs ≡ 0
count_none {X} xs = sym (length-filter (λ (x : X). false) xs) ∙ none xs
  where
    none : (ys : List X) → length (filter (λ (x : X). false) ys) ≡ 0
    none [] = refl
    none (y ∷ ys) = none ys

-- those that pass and those that do not
count_both : {X : Type 0} (p : X → Bool) (xs : List X) → length xs ≡ count_by p xs + count_by (λ x. not (p x)) xs
count_both {X} p xs =
    sym (length-filter_both p (λ (x : X). not (p x)) (λ x. refl) xs)
    ∙ ap (λ n. n + length (filter (λ (x : X). not (p x)) xs)) (length-filter p xs)
    ∙ ap (λ n. count_by p xs + n) (length-filter (λ (x : X). not (p x)) xs)

module _ {I : Type 0} (eq : I → I → Bool) where
  -- what a change between two values puts, and what it takes
  puts : (old new : Option I) → at_value is_put (change_between eq old new) ≡ at_value (λ input. not (at_value (λ before. eq before input) old)) new
  puts None None = refl
  puts None (Some new) = refl
  puts (Some old) None = refl
  puts (Some old) (Some new) = by (eq old new)
    where
      by : (b : Bool) → at_value is_put (cond b None (Some (Put new))) ≡ not b
      by true = refl
      by false = refl

  takes : (old new : Option I) → at_value (λ change. not (is_put change)) (change_between eq old new) ≡ at_value (λ input. is_none new) old
  takes None None = refl
  takes None (Some new) = refl
  takes (Some old) None = refl
  takes (Some old) (Some new) = by (eq old new)
    where
      by : (b : Bool) → at_value (λ change. not (is_put change)) (cond b None (Some (Put new))) ≡ false
      by true = refl
      by false = refl

module _ {K I : Type 0} {cmp : K → K → Ordering} (o : IsTotalOrder cmp) (exact : CmpEqualImpliesEq cmp) (eq : I → I → Bool) where
  -- a difference makes what is new or has another input, and has as many keys as these and those that are gone
  pub counts_of_difference : (old new : List (K × I)) (delta : List (K × Change I)) → KeysStandOnce cmp old → KeysStandOnce cmp new → KeysRise cmp delta → IsDifference cmp eq old new delta → made_by 1024 delta new ≡ makes cmp eq old new
  counts_of_difference old new delta once_old once_new rise differs =
      ap (λ n. cond (nat_lt 1024 n) (length new) (count_by put delta)) (count_both put delta ∙ ap (λ n. n + count_by (λ change. not (put change)) delta) made ∙ ap (λ n. moved cmp eq old new + n) taken)
      ∙ ap (λ n. cond (nat_lt 1024 (moved cmp eq old new + gone cmp eq old new)) (length new) n) made
    where
      put : K × Change I → Bool
      put change = is_put change.1

      once : KeysStandOnce cmp delta
      once = IsDistinct-from_sorted cmp (keys_of delta) rise

      made : count_by put delta ≡ moved cmp eq old new
      made = same_count o exact put (λ unit. not (is_as_before cmp eq old unit)) delta new once once_new (λ k. ap (at_value is_put) (differs k) ∙ puts eq (value_at cmp k old) (value_at cmp k new))

      taken : count_by (λ change. not (put change)) delta ≡ gone cmp eq old new
      taken =
          same_count o exact (λ change. not (put change)) (λ unit. is_none (value_at cmp unit.0 new)) delta old once once_old
          (λ k. ap (at_value (λ change. not (is_put change))) (differs k) ∙ takes eq (value_at cmp k old) (value_at cmp k new))

  -- lists with the same value at each key
  abbrev pub Same : List (K × I) → List (K × I) → Type 0
  Same one other = (k : K) → value_at cmp k one ≡ value_at cmp k other

  pub counts_alike : (old old' new new' : List (K × I)) → KeysStandOnce cmp old → KeysStandOnce cmp old' → KeysStandOnce cmp new → KeysStandOnce cmp new' → Same old old' → Same new new' → makes cmp eq old new ≡ makes cmp eq old' new'
  counts_alike old old' new new' once_old once_old' once_new once_new' same_old same_new =
      ap (λ n. cond (nat_lt 1024 (n + gone cmp eq old new)) (length new) n) moved_alike
      ∙ ap (λ n. cond (nat_lt 1024 (moved cmp eq old' new' + n)) (length new) (moved cmp eq old' new')) gone_alike
      ∙ ap (λ n. cond (nat_lt 1024 (moved cmp eq old' new' + gone cmp eq old' new')) n (moved cmp eq old' new')) length_alike
    where
      moved_alike : moved cmp eq old new ≡ moved cmp eq old' new'
      moved_alike =
          same_count o exact (λ unit. not (is_as_before cmp eq old unit)) (λ unit. not (is_as_before cmp eq old' unit)) new new' once_new once_new'
          (λ k. ap (λ before. at_value (λ input. not (at_value (λ i. eq i input) before)) (value_at cmp k new)) (same_old k) ∙ ap (at_value (λ input. not (at_value (λ i. eq i input) (value_at cmp k old')))) (same_new k))

      gone_alike : gone cmp eq old new ≡ gone cmp eq old' new'
      gone_alike =
          same_count o exact (λ unit. is_none (value_at cmp unit.0 new)) (λ unit. is_none (value_at cmp unit.0 new')) old old' once_old once_old'
          (λ k. ap (λ after. at_value (λ input. is_none after) (value_at cmp k old)) (same_new k) ∙ ap (at_value (λ input. is_none (value_at cmp k new'))) (same_old k))

      length_alike : length new ≡ length new'
      length_alike = sym (count_all new) ∙ same_count o exact (λ unit. true) (λ unit. true) new new' once_new once_new' (λ k. ap (at_value (λ input. true)) (same_new k)) ∙ count_all new'

  -- where nothing changes nothing is made
  pub nothing_made : ((i : I) → eq i i ≡ true) → (units : List (K × I)) → KeysStandOnce cmp units → makes cmp eq units units ≡ 0
  nothing_made itself units once = ap (λ n. cond (nat_lt 1024 (n + gone cmp eq units units)) (length units) n) none_moved ∙ ap (λ n. cond (nat_lt 1024 (0 + n)) (length units) 0) none_gone
    where
      as_before : (value : Option I) → at_value (λ input. not (at_value (λ before. eq before input) value)) value ≡ at_value (λ input. false) value
      as_before None = refl
      as_before (Some input) = ap not (itself input)

      there : (value : Option I) → at_value (λ input. is_none value) value ≡ at_value (λ input. false) value
      there None = refl
      there (Some input) = refl

      none_moved : moved cmp eq units units ≡ 0
      none_moved = same_count o exact (λ unit. not (is_as_before cmp eq units unit)) (λ unit. false) units units once once (λ k. as_before (value_at cmp k units)) ∙ count_none units

      none_gone : gone cmp eq units units ≡ 0
      none_gone = same_count o exact (λ unit. is_none (value_at cmp unit.0 units)) (λ unit. false) units units once once (λ k. there (value_at cmp k units)) ∙ count_none units
