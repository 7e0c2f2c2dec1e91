-- The index after each change of the list.
use Rattle.std.proofs.Common.{◌≡◌, ℕ, zero, suc, ◌<◌, Bool, true, false, cond, ◌||◌, List, [], ◌∷◌, ◌++◌, length, get_or, slice_set, Option, None, Some, is_some, refl, sym, ap, ◌∙◌}
use Rattle.std.proofs.lemmas.Bool.{true≢false, false≢true}
use Rattle.std.proofs.lemmas.List.Folds.{list_any-append}
use Rattle.std.specs.List.{list_any, position}
use Rattle.std.specs.Map.{lookup}
use Rattle.std.specs.Option.{option_or}
use Rattle.indexmap.specs.IndexMap.{IndexMap, get}
use Rattle.indexmap.specs.IndexSet.{IndexSet, contains}
use Rattle.pkt_core.specs.declared.tuple.Tuple.{Tuple}
use Rattle.ct_core.specs.declared.entry.Entry.{Entry}
use Rattle.ct_core.specs.declared.look.Side.{Side}
use Rattle.ct_core.specs.declared.look.Side.TheVariants.{Orig, Reply}
use Rattle.ct_core.specs.declared.zone.Zone.{Zone}
use Rattle.ct_core.specs.Changes.{AreConnections, IsEntry, connection_limit, marked, without_zone}
use Rattle.ct_core.specs.Entry.{same_zone, is_in, has}
use Rattle.ct_core.specs.inner.Exact.{zones_equal}
use Rattle.ct_core.proofs.Changed.{keeps_marked, keeps_without, with_one}
use Rattle.ct_core.proofs.Found.{zones_agree}
use Rattle.ct_core.proofs.Positions.{later, position-any, position-cons, position-last}
use Rattle.ct_table.specs.declared.key.Key.{Key}
use Rattle.ct_table.specs.inner.Index.{IsIndexed, Places, Zones}
use Rattle.ct_table.specs.inner.Key.{key_on, keys_equal}
use Rattle.ct_table.proofs.Numbered.{has_key}
use Rattle.ct_table.proofs.Removed.{has-without, in-without, same_zone-sym}

-- what is among the others is there, and so is the last
either : (b any there : Bool) → (any ≡ true → there ≡ true) → (any || (b || false)) ≡ true → cond b true there ≡ true
either true any there others e = refl
either false true there others e = others refl
either false false there others e = absurd (false≢true e)

-- a zone that is not there has no entry
pub not_there : (any there : Bool) → (any ≡ true → there ≡ true) → there ≡ false → any ≡ false
not_there true there all e = absurd (true≢false (sym (all refl) ∙ e))
not_there false there all e = refl

-- what is there and is not that which goes stays
others : (b any there : Bool) → (any ≡ true → there ≡ true) → cond b false any ≡ true → cond b false there ≡ true
others true any there all e = absurd (false≢true e)
others false any there all e = all e

has_mark : (side : Side) (z : Zone) (t : Tuple) (e : Entry) (b : Bool) → has side z t (record e { blocked = b }) ≡ has side z t e
has_mark Orig z t e b = refl
has_mark Reply z t e b = refl

position-marked : (p : Entry → Bool) → ((e : Entry) (b : Bool) → p (record e { blocked = b }) ≡ p e) → (place : ℕ) (b : Bool) (conns : List Entry) → position p (marked place b conns) ≡ position p conns
position-marked p same place b [] = refl
position-marked p same zero b (e ∷ conns) = position-cons p (record e { blocked = b }) conns ∙ ap (λ c. cond c (Some 0) (later (position p conns))) (same e b) ∙ sym (position-cons p e conns)
position-marked p same (suc place) b (e ∷ conns) = position-cons p e (marked place b conns) ∙ ap (λ o. cond (p e) (Some 0) (later o)) (position-marked p same place b conns) ∙ sym (position-cons p e conns)

any-marked : (z : Zone) (place : ℕ) (b : Bool) (conns : List Entry) → list_any (is_in z) (marked place b conns) ≡ list_any (is_in z) conns
any-marked z place b conns = sym (position-any (is_in z) (marked place b conns)) ∙ ap is_some (position-marked (is_in z) (λ e c. refl) place b conns) ∙ position-any (is_in z) conns

module _ {S : Type 0} where
  -- ---- an entry more

  places_last : (side : Side) (conns : List Entry) (e : Entry) (n : ℕ) (map kept new : IndexMap Key ℕ S) → Places side conns map → kept.entries ≡ map.entries → n ≡ length conns
      → ((k : Key) → get keys_equal new k ≡ option_or (get keys_equal kept k) (cond (keys_equal (key_on side e) k) (Some n) None)) → Places side (conns ++ e ∷ []) new
  places_last side conns e n map kept new places same last put k =
      put k
      ∙ ap (λ o. option_or o (cond (keys_equal (key_on side e) k) (Some n) None)) (ap (lookup (keys_equal k)) same ∙ places k)
      ∙ (λ i. option_or (position (has side k.zone k.tuple) conns) (cond (has_key side e k i) (Some (last i)) None))
      ∙ sym (position-last (has side k.zone k.tuple) conns e)

  zones_last : (conns : List Entry) (e : Entry) (zones kept new : IndexSet Zone S) → Zones conns zones → kept.keys ≡ zones.keys
      → ((z : Zone) → contains zones_equal new z ≡ cond (zones_equal e.zone z) true (contains zones_equal kept z)) → Zones (conns ++ e ∷ []) new
  zones_last conns e zones kept new all same put z there =
      put z
      ∙ (λ i. cond (zones_agree e.zone z i) true (list_any (zones_equal z) (same i)))
      ∙ either (same_zone e.zone z) (list_any (is_in z) conns) (contains zones_equal zones z) (all z) (sym (list_any-append (is_in z) conns (e ∷ [])) ∙ there)

  pub indexed_last : (conns : List Entry) (e : Entry) (n : ℕ) (origs origs1 origs2 replies replies1 replies2 : IndexMap Key ℕ S) (zones zones1 zones2 : IndexSet Zone S)
      → IsIndexed conns origs replies zones → length conns < connection_limit → IsEntry e → n ≡ length conns
      → origs1.entries ≡ origs.entries → replies1.entries ≡ replies.entries → zones1.keys ≡ zones.keys
      → ((k : Key) → get keys_equal origs2 k ≡ option_or (get keys_equal origs1 k) (cond (keys_equal (key_on Orig e) k) (Some n) None))
      → ((k : Key) → get keys_equal replies2 k ≡ option_or (get keys_equal replies1 k) (cond (keys_equal (key_on Reply e) k) (Some n) None))
      → ((z : Zone) → contains zones_equal zones2 z ≡ cond (zones_equal e.zone z) true (contains zones_equal zones1 z))
      → IsIndexed (conns ++ e ∷ []) origs2 replies2 zones2
  indexed_last conns e n origs origs1 origs2 replies replies1 replies2 zones zones1 zones2 old room fits last same_origs same_replies same_zones put_orig put_reply put_zone = record {
    are = with_one e conns old.are fits room;
    by_orig = places_last Orig conns e n origs origs1 origs2 old.by_orig same_origs last put_orig;
    by_reply = places_last Reply conns e n replies replies1 replies2 old.by_reply same_replies last put_reply;
    by_zone = zones_last conns e zones zones1 zones2 old.by_zone same_zones put_zone;
  }

  -- ---- another mark

  pub indexed_marked : (place : ℕ) (b : Bool) (conns : List Entry) (origs replies : IndexMap Key ℕ S) (zones : IndexSet Zone S) → IsIndexed conns origs replies zones → IsIndexed (marked place b conns) origs replies zones
  indexed_marked place b conns origs replies zones old = record {
    are = keeps_marked place b conns old.are;
    by_orig = λ k. old.by_orig k ∙ sym (position-marked (has Orig k.zone k.tuple) (has_mark Orig k.zone k.tuple) place b conns);
    by_reply = λ k. old.by_reply k ∙ sym (position-marked (has Reply k.zone k.tuple) (has_mark Reply k.zone k.tuple) place b conns);
    by_zone = λ z there. old.by_zone z (sym (any-marked z place b conns) ∙ there);
  }

  -- ---- without a zone

  -- the keys that are left are those of the entries that are left
  pub keys_left : (side : Side) (conns : List Entry) (zone : Zone) (map new : IndexMap Key ℕ S) → Places side conns map
      → ((k : Key) → get keys_equal new k ≡ cond (zones_equal k.zone zone) None (get keys_equal map k))
      → (k : Key) → is_some (get keys_equal new k) ≡ list_any (has side k.zone k.tuple) (without_zone zone conns)
  keys_left side conns zone map new places taken k =
      ap is_some (taken k)
      ∙ some_cond (zones_equal k.zone zone) (get keys_equal map k)
      ∙ (λ i. cond (zones_agree k.zone zone i) false ((ap is_some (places k) ∙ position-any (has side k.zone k.tuple) conns) i))
      ∙ sym (has-without side k.zone k.tuple zone conns)
    where
      some_cond : (b : Bool) (o : Option ℕ) → is_some (cond b None o) ≡ cond b false (is_some o)
      some_cond true o = refl
      some_cond false o = refl

  pub indexed_without : (conns : List Entry) (zone : Zone) (origs replies : IndexMap Key ℕ S) (zones left : IndexSet Zone S) → AreConnections conns → Zones conns zones
      → Places Orig (without_zone zone conns) origs → Places Reply (without_zone zone conns) replies
      → ((z : Zone) → contains zones_equal left z ≡ cond (zones_equal zone z) false (contains zones_equal zones z))
      → IsIndexed (without_zone zone conns) origs replies left
  indexed_without conns zone origs replies zones left are all by_orig by_reply taken =
      record {
        are = keeps_without zone conns are;
        by_orig = by_orig;
        by_reply = by_reply;
        by_zone = λ z there. taken z ∙ (λ i. cond ((zones_agree zone z ∙ same_zone-sym zone z) i) false (contains zones_equal zones z))
            ∙ others (same_zone z zone) (list_any (is_in z) conns) (contains zones_equal zones z) (all z) (sym (in-without z zone conns) ∙ there);
      }

-- a mark that is written is that of the list
pub marked_is_set : (conns : List Entry) (place : ℕ) (b : Bool) (x : Entry) → x ≡ get_or conns place x → slice_set conns place (record x { blocked = b }) ≡ marked place b conns
marked_is_set [] place b x is = refl
marked_is_set (e ∷ conns) zero b x is = let with_mark : (y : Entry) → Entry = λ y. record y { blocked = b } in ap (λ y. with_mark y ∷ conns) is
marked_is_set (e ∷ conns) (suc place) b x is = ap (λ l. e ∷ l) (marked_is_set conns place b x is)
