-- Deltas that are made at some keys, one key more; and what they lead to.
use Rattle.std.proofs.Common.{◌≡◌, ℕ, ◌+◌, ◌<◌, Bool, true, false, cond, not, ◌&&◌, ◌||◌, List, [], ◌∷◌, ◌++◌, length, take, get_or, append-nil, refl, sym, ap, ◌∙◌, subst, None, Some, Option}
use Rattle.std.proofs.lemmas.List.Folds.{list_any_more}
use Rattle.std.proofs.lemmas.Map.Lookups.{CmpEqualImpliesEq}
use Rattle.std.specs.Cmp.{IsTotalOrder}
use Rattle.std.specs.List.{AllByRecursion, Contains, list_all}
use Rattle.std.specs.Ordering.{is_eq}
use Rattle.std.specs.declared.cmp.Ordering.{Ordering}
use Rattle.std.specs.declared.cmp.Ordering.TheVariants.{Less}
use Rattle.nv_map.specs.Map.{KeysRise, value_at}
use Rattle.nv_map.proofs.Members.{here, member_value, there as later}
use Rattle.inc_table.specs.declared.delta.Change.{Change}
use Rattle.inc_table.specs.declared.delta.Change.TheVariants.{Put, Gone}
use Rattle.inc_table.specs.Delta.{IsAbove, after_change, alters, alters_each, change_between, told_at}
use Rattle.inc_table.proofs.Applied.{tied}
use Rattle.inc_table.proofs.Ends.{above_append, above_more, above_none, none_either, or_else, or_else_none, rise_last, value_append}
use Rattle.inc_table.proofs.Told.{told_above}
use Rattle.inc_feed.specs.Feed.{IsFeed, LeadsTo, TellsChange, has_key}

-- what is told of a key, at that key and at others
told_value : {K V : Type 0} (cmp : K → K → Ordering) (k q : K) (t : Option (Change V)) → value_at cmp k (told_at q t) ≡ cond (is_eq (cmp k q)) t None
told_value {K} {V} cmp k q None = none_either (Change V) (is_eq (cmp k q))
told_value cmp k q (Some change) = refl

-- The key is above each of these.
abbrev pub IsAboveAll : {K : Type 0} → (K → K → Ordering) → K → List K → Type 0
IsAboveAll cmp key keys = AllByRecursion (λ other. cmp other key ≡ Less) keys

pub above_end : {K : Type 0} (cmp : K → K → Ordering) (k q : K) (l : List K) → IsAboveAll cmp k (l ++ q ∷ []) → cmp q k ≡ Less
above_end cmp k q [] a = a.0
above_end cmp k q (x ∷ l) a = above_end cmp k q l a.1

module _ {K V : Type 0} {cmp : K → K → Ordering} (o : IsTotalOrder cmp) where
  -- with what is told of a key above all that was told, the keys rise still, and a key above that one is above all
  pub rise_told : (told more : List (K × Change V)) (q : K) (change : Option (Change V)) → KeysRise cmp told → IsAbove cmp q told → more ≡ told ++ told_at q change → KeysRise cmp more
  rise_told told more q None r a is = subst (λ l. KeysRise cmp l) (sym (is ∙ append-nil told)) r
  rise_told told more q (Some change) r a is = subst (λ l. KeysRise cmp l) (sym is) (rise_last o (q, change) told r a)

  pub above_told : (told more : List (K × Change V)) (q next : K) (change : Option (Change V)) → IsAbove cmp q told → more ≡ told ++ told_at q change → cmp q next ≡ Less → IsAbove cmp next more
  above_told told more q next change above is less = subst (λ d. IsAbove cmp next d) (sym is) (above_append cmp next told (told_at q change) (above_more cmp o q next told less above) (told_above cmp q next change less))

  module _ (exact : CmpEqualImpliesEq cmp) (eq : V → V → Bool) (there : List (K × V)) (wanted : K → Option V) where
    pub feed_none : (delta : List (K × Change V)) → delta ≡ [] → IsFeed cmp eq [] there wanted delta
    feed_none delta is k = ap (value_at cmp k) is

    -- one key more
    pub feed_more : (keys : List K) (i : ℕ) (q : K) (new : Option V) (old more : List (K × Change V)) → i < length keys → q ≡ get_or keys i q → new ≡ wanted q → IsAbove cmp q old → more ≡ old ++ told_at q (change_between eq (value_at cmp q there) new) → IsFeed cmp eq (take i keys) there wanted old
        → IsFeed cmp eq (take (i + 1) keys) there wanted more
    feed_more keys i q new old more within at asked above is so_far k =
        ap (value_at cmp k) is
        ∙ value_append cmp k old (told_at q change)
        ∙ ap (or_else (value_at cmp k old)) (told_value cmp k q change)
        ∙ by (is_eq (cmp k q)) refl
        ∙ ap (λ b. cond b (change_between eq (value_at cmp k there) (wanted k)) None) (sym (list_any_more (λ other. is_eq (cmp k other)) keys i q within ∙ ap (λ x. has_key cmp k (take i keys) || is_eq (cmp k x)) (sym at)))
      where
        change : Option (Change V)
        change = change_between eq (value_at cmp q there) new

        last : (b : Bool) (x : Option (Change V)) → x ≡ cond (b || true) x None
        last true x = refl
        last false x = refl

        else : (b : Bool) (x : Option (Change V)) → cond b x None ≡ cond (b || false) x None
        else true x = refl
        else false x = refl

        by : (b : Bool) → is_eq (cmp k q) ≡ b → or_else (value_at cmp k old) (cond b change None) ≡ cond (has_key cmp k (take i keys) || b) (change_between eq (value_at cmp k there) (wanted k)) None
        by true e =
            ap (λ x. or_else x change) (ap (λ x. value_at cmp x old) (tied exact k q e) ∙ above_none o q old above)
            ∙ ap (change_between eq (value_at cmp q there)) asked
            ∙ ap (λ x. change_between eq (value_at cmp x there) (wanted x)) (sym (tied exact k q e))
            ∙ last (has_key cmp k (take i keys)) (change_between eq (value_at cmp k there) (wanted k))
        by false e = or_else_none (value_at cmp k old) ∙ so_far k ∙ else (has_key cmp k (take i keys)) (change_between eq (value_at cmp k there) (wanted k))

module _ {V : Type 0} (eq : V → V → Bool) where
  between_leads : ((a b : V) → eq a b ≡ true → a ≡ b) → (old new : Option V) → after_change (change_between eq old new) old ≡ new
  between_leads tells None None = refl
  between_leads tells None (Some b) = refl
  between_leads tells (Some a) None = refl
  between_leads tells (Some a) (Some b) = by (eq a b) refl
    where
      by : (t : Bool) → eq a b ≡ t → after_change (cond t None (Some (Put b))) (Some a) ≡ Some b
      by true e = ap Some (tells a b e)
      by false e = refl

  between_alters : (old new : Option V) (change : Change V) → change_between eq old new ≡ Some change → alters eq change old ≡ true
  between_alters None None change e = absurd (cc)
  between_alters None (Some b) (Put v) e = refl
  between_alters None (Some b) Gone e = absurd (cc)
  between_alters (Some a) None (Put v) e = absurd (cc)
  between_alters (Some a) None Gone e = refl
  between_alters (Some a) (Some b) change e = by (eq a b) refl e
    where
      by : (t : Bool) → eq a b ≡ t → cond t None (Some (Put b)) ≡ Some change → alters eq change (Some a) ≡ true
      by true t e = absurd (cc)
      by false t e = let same : Put b ≡ change = cc in sym (ap (λ (c : Change V). alters eq c (Some a)) same) ∙ ap not t

module _ {K V : Type 0} {cmp : K → K → Ordering} (o : IsTotalOrder cmp) (eq : V → V → Bool) (keys : List K) (there : List (K × V)) (wanted : K → Option V) where
  -- such a delta leads to what is wanted
  pub feed_leads : ((a b : V) → eq a b ≡ true → a ≡ b) → (delta : List (K × Change V)) → IsFeed cmp eq keys there wanted delta → LeadsTo cmp keys there wanted delta
  feed_leads tells delta feed new applied k = applied k ∙ ap (λ c. after_change c (value_at cmp k there)) (feed k) ∙ by (has_key cmp k keys)
    where
      by : (b : Bool) → after_change (cond b (change_between eq (value_at cmp k there) (wanted k)) None) (value_at cmp k there) ≡ cond b (wanted k) (value_at cmp k there)
      by true = between_leads eq tells (value_at cmp k there) (wanted k)
      by false = refl

  -- and each of its changes changes something
  fed_alters : (k : K) (change : Change V) (b : Bool) → cond b (change_between eq (value_at cmp k there) (wanted k)) None ≡ Some change → alters eq change (value_at cmp k there) ≡ true
  fed_alters k change true e = between_alters eq (value_at cmp k there) (wanted k) change e
  fed_alters k change false e = absurd (cc)

  all_alter : (delta part : List (K × Change V)) → KeysRise cmp delta → IsFeed cmp eq keys there wanted delta → ((x : K × Change V) → Contains part x → Contains delta x) → list_all (λ (x : K × Change V). alters eq x.1 (value_at cmp x.0 there)) part ≡ true
  all_alter delta [] r feed inside = refl
  all_alter delta (x ∷ part) r feed inside =
      let first = fed_alters x.0 x.1 (has_key cmp x.0 keys) (sym (feed x.0) ∙ member_value o delta x r (inside x (here x part))) in
      ap (λ b. b && list_all (λ (y : K × Change V). alters eq y.1 (value_at cmp y.0 there)) part) first ∙ all_alter delta part r feed (λ y c. inside y (later x part y c))

  pub feed_alters : (delta : List (K × Change V)) → KeysRise cmp delta → IsFeed cmp eq keys there wanted delta → alters_each cmp eq delta there ≡ true
  feed_alters delta r feed = all_alter delta delta r feed (λ x c. c)

  -- and it tells what changes to entries that have what is wanted
  pub feed_tells : ((v : V) → eq v v ≡ true) → (delta : List (K × Change V)) → IsFeed cmp eq keys there wanted delta → TellsChange cmp eq keys there wanted delta
  feed_tells itself delta feed new led k = feed k ∙ by (has_key cmp k keys) ∙ ap (change_between eq (value_at cmp k there)) (sym (led k))
    where
      none : (v : Option V) → None ≡ change_between eq v v
      none None = refl
      none (Some v) = ap (λ b. cond b None (Some (Put v))) (sym (itself v))

      by : (b : Bool) → cond b (change_between eq (value_at cmp k there) (wanted k)) None ≡ change_between eq (value_at cmp k there) (cond b (wanted k) (value_at cmp k there))
      by true = refl
      by false = none (value_at cmp k there)
