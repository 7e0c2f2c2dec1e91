-- The index after the last entry is taken out.
use Rattle.std.proofs.Common.{◌≡◌, ℕ, ◌<◌, ◌==◌, nat_eq, Bool, true, false, cond, ◌&&◌, ◌||◌, List, [], ◌∷◌, ◌++◌, length, Option, None, Some, refl, sym, ap, ◌∙◌, arith}
use Rattle.std.proofs.lemmas.Bool.{eqb-true, eq-eqb}
use Rattle.std.proofs.lemmas.List.{length_push}
use Rattle.std.proofs.lemmas.List.Folds.{list_any-append}
use Rattle.std.specs.List.{AllByRecursion, position}
use Rattle.std.specs.Option.{option_eq, option_or}
use Rattle.indexmap.specs.IndexMap.{IndexMap, get}
use Rattle.indexmap.specs.IndexSet.{IndexSet}
use Rattle.ct_core.specs.declared.entry.Entry.{Entry}
use Rattle.ct_core.specs.declared.look.Side.{Side}
use Rattle.ct_core.specs.declared.look.Side.TheVariants.{Orig, Reply}
use Rattle.ct_core.specs.Changes.{AreConnections, IsEntry}
use Rattle.ct_core.specs.Entry.{has, is_in}
use Rattle.ct_core.proofs.Positions.{position-is, position-last}
use Rattle.ct_table.specs.declared.key.Key.{Key}
use Rattle.ct_table.specs.inner.Index.{IsIndexed, Places, Zones, is_place}
use Rattle.ct_table.specs.inner.Key.{key_exact, key_on, keys_equal}
use Rattle.ct_table.proofs.Numbered.{has_key}

-- ---- of lists

-- what is true of each item is true of each but the last
all_but_last : {X : Type 0} (P : X → Type 0) (xs : List X) (x : X) → AllByRecursion P (xs ++ x ∷ []) → AllByRecursion P xs
all_but_last P [] x all = tt
all_but_last P (y ∷ ys) x all = (all.0, all_but_last P ys x all.1)

-- a list without its last item is still one of connections
keeps_first : (conns : List Entry) (e : Entry) → AreConnections (conns ++ e ∷ []) → AreConnections conns
keeps_first conns e are = record { few = omega (arith, length_push conns e, are.few); fit = all_but_last IsEntry conns e are.fit }

-- ---- of a map

-- the test whether a place was found
pub found_place : (found : Option ℕ) (place : ℕ) → is_place place found ≡ option_eq nat_eq found (Some place)
found_place (Some i) place = refl
found_place None place = refl

-- another place is not this one
other_place : (i n : ℕ) → i < n → (i == n) ≡ false
other_place i n less = by (i == n) refl
  where
    by : (b : Bool) → (i == n) ≡ b → b ≡ false
    by true e = absurd (omega (arith, less, eqb-true i n e))
    by false e = refl

-- the first place of a key is that without the last entry, if the last entry's place goes
first_left : (b : Bool) (o : Option ℕ) (n m : ℕ) → n ≡ m → ((i : ℕ) → o ≡ Some i → i < m)
    → cond (b && is_place n (option_or o (cond b (Some m) None))) None (option_or o (cond b (Some m) None)) ≡ o
first_left true (Some i) n m same before = ap (λ c. cond c None (Some i)) (other_place i n (omega (arith, same, before i refl)))
first_left true None n m same before = ap (λ c. cond c None (Some m)) (eq-eqb m n (sym same))
first_left false (Some i) n m same before = refl
first_left false None n m same before = refl

module _ {S : Type 0} where
  places_first : (side : Side) (conns : List Entry) (e : Entry) (n : ℕ) (map new : IndexMap Key ℕ S) → Places side (conns ++ e ∷ []) map → n ≡ length conns
      → ((k : Key) → get keys_equal new k ≡ cond (keys_equal (key_on side e) k && is_place n (get keys_equal map k)) None (get keys_equal map k)) → Places side conns new
  places_first side conns e n map new places last taken k =
      let p : Entry → Bool = has side k.zone k.tuple in
      let found : get keys_equal map k ≡ option_or (position p conns) (cond (p e) (Some (length conns)) None) = places k ∙ position-last p conns e in
      taken k
      ∙ (λ i. cond (has_key side e k i && is_place n (found i)) None (found i))
      ∙ first_left (p e) (position p conns) n (length conns) last (λ i is. (position-is p conns i is).3)

  zones_first : (conns : List Entry) (e : Entry) (zones : IndexSet _ S) → Zones (conns ++ e ∷ []) zones → Zones conns zones
  zones_first conns e zones all z there = all z (list_any-append (is_in z) conns (e ∷ []) ∙ ap (λ b. b || (is_in z e || false)) there)

  -- the index without the last entry
  pub indexed_first : (conns : List Entry) (e : Entry) (n : ℕ) (origs origs1 replies replies1 : IndexMap Key ℕ S) (zones : IndexSet _ S) → IsIndexed (conns ++ e ∷ []) origs replies zones → n ≡ length conns
      → ((k : Key) → get keys_equal origs1 k ≡ cond (keys_equal (key_on Orig e) k && is_place n (get keys_equal origs k)) None (get keys_equal origs k))
      → ((k : Key) → get keys_equal replies1 k ≡ cond (keys_equal (key_on Reply e) k && is_place n (get keys_equal replies k)) None (get keys_equal replies k))
      → IsIndexed conns origs1 replies1 zones
  indexed_first conns e n origs origs1 replies replies1 zones old last taken_orig taken_reply = record {
    are = keeps_first conns e old.are;
    by_orig = places_first Orig conns e n origs origs1 old.by_orig last taken_orig;
    by_reply = places_first Reply conns e n replies replies1 old.by_reply last taken_reply;
    by_zone = zones_first conns e zones old.by_zone;
  }

  -- ---- a key is taken out

  -- it was at the place
  pub taken_there : (key : Key) (place : ℕ) (map new : IndexMap Key ℕ S) → is_place place (get keys_equal map key) ≡ true → ((k : Key) → get keys_equal new k ≡ cond (keys_equal key k) None (get keys_equal map k))
      → (k : Key) → get keys_equal new k ≡ cond (keys_equal key k && is_place place (get keys_equal map k)) None (get keys_equal map k)
  taken_there key place map new there taken k = taken k ∙ by (keys_equal key k) refl
    where
      by : (b : Bool) → keys_equal key k ≡ b → cond b None (get keys_equal map k) ≡ cond (b && is_place place (get keys_equal map k)) None (get keys_equal map k)
      by true e = sym (ap (λ c. cond c None (get keys_equal map k)) (ap (λ x. is_place place (get keys_equal map x)) (sym (key_exact key k e)) ∙ there))
      by false e = refl

  -- it was not
  pub taken_elsewhere : (key : Key) (place : ℕ) (map : IndexMap Key ℕ S) → is_place place (get keys_equal map key) ≡ false
      → (k : Key) → get keys_equal map k ≡ cond (keys_equal key k && is_place place (get keys_equal map k)) None (get keys_equal map k)
  taken_elsewhere key place map elsewhere k = by (keys_equal key k) refl
    where
      by : (b : Bool) → keys_equal key k ≡ b → get keys_equal map k ≡ cond (b && is_place place (get keys_equal map k)) None (get keys_equal map k)
      by true e = sym (ap (λ c. cond c None (get keys_equal map k)) (ap (λ x. is_place place (get keys_equal map x)) (sym (key_exact key k e)) ∙ elsewhere))
      by false e = refl
