-- The places of keys are written from the last entry to the first.
use Rattle.std.proofs.Common.{◌≡◌, ℕ, ◌+◌, ◌<◌, ◌≤◌, Bool, true, false, cond, ◌&&◌, List, [], length, drop, get_or, Option, None, Some, is_some, refl, sym, ap, ◌∙◌, arith}
use Rattle.std.proofs.lemmas.Bool.{true≢false, and_from, eq-eqb}
use Rattle.std.proofs.lemmas.List.{drop_all, drop_more}
use Rattle.std.proofs.lemmas.List.Folds.{list_any_at}
use Rattle.std.specs.List.{list_any, position}
use Rattle.std.specs.Option.{unwrap_or}
use Rattle.indexmap.specs.IndexMap.{IndexMap, get}
use Rattle.ct_core.specs.declared.entry.Entry.{Entry}
use Rattle.ct_core.specs.declared.look.Side.{Side}
use Rattle.ct_core.specs.declared.zone.Zone.{Zone}
use Rattle.ct_core.specs.declared.zone.Zone.TheVariants.{Port, Dnat, Snat}
use Rattle.ct_core.specs.inner.Exact.{zones_equal}
use Rattle.ct_core.specs.Entry.{same_tuple, tuple_on, has}
use Rattle.ct_core.proofs.Found.{zones_agree}
use Rattle.ct_core.proofs.Positions.{later, position-cons, position-any}
use Rattle.ct_table.specs.declared.key.Key.{Key}
use Rattle.ct_table.specs.inner.Index.{Places}
use Rattle.ct_table.specs.inner.Key.{key_on, keys_equal}

-- an entry has a key where its own is equal to it
pub has_key : (side : Side) (e : Entry) (k : Key) → keys_equal (key_on side e) k ≡ has side k.zone k.tuple e
has_key side e k = ap (λ b. b && same_tuple (tuple_on side e) k.tuple) (zones_agree e.zone k.zone)

zone_same : (z : Zone) → zones_equal z z ≡ true
zone_same (Port n) = eq-eqb n.0 n.0 refl
zone_same (Dnat n) = eq-eqb n.0 n.0 refl
zone_same (Snat n) = eq-eqb n.0 n.0 refl

-- its own is equal to itself
keys_same : (side : Side) (e : Entry) → keys_equal (key_on side e) (key_on side e) ≡ true
keys_same side e =
    let own = tuple_on side e in
    and_from _ _ (zone_same e.zone) (and_from _ _ (eq-eqb own.proto own.proto refl) (and_from _ _ (eq-eqb own.src.0 own.src.0 refl) (and_from _ _ (eq-eqb own.sport own.sport refl)
    (and_from _ _ (eq-eqb own.dst.0 own.dst.0 refl) (eq-eqb own.dport own.dport refl)))))

no_place : {X : Type 0} (x : X) (o : Option X) → o ≡ None → o ≡ Some x → ⊥
no_place x o none some = true≢false (sym (ap is_some some) ∙ ap is_some none)

some_is : (m n : ℕ) → Some m ≡ Some n → m ≡ n
some_is m n e = ap (λ o. unwrap_or o 0) e

keys_step : (b : Bool) (p : ℕ) (o : Option ℕ) (any : Bool) → is_some o ≡ any → (b ≡ true → any ≡ true) → is_some (cond b (Some p) o) ≡ any
keys_step true p o any e there = sym (there refl)
keys_step false p o any e there = e

places_step : (b : Bool) (p n : ℕ) (found : Option ℕ) (o : Option ℕ) → cond b (Some 0) (later found) ≡ Some n → ((m : ℕ) → found ≡ Some m → o ≡ Some (p + 1 + m)) → cond b (Some p) o ≡ Some (p + n)
places_step true p n found o is rest = let zero_is : 0 ≡ n = some_is 0 n is in ap Some (omega (arith, zero_is))
places_step false p n None o is rest = absurd (no_place n None refl is)
places_step false p n (Some m) o is rest = let one_more : m + 1 ≡ n = some_is (m + 1) n is in rest m refl ∙ ap Some (omega (arith, one_more))

end_by : (o place : Option ℕ) (any : Bool) → is_some o ≡ any → is_some place ≡ any → ((n : ℕ) → place ≡ Some n → o ≡ Some (0 + n)) → o ≡ place
end_by o (Some n) any e f there = there n refl ∙ ap Some (omega arith)
end_by None None any e f there = refl
end_by (Some m) None any e f there = absurd (true≢false (e ∙ sym f))

module _ {S : Type 0} (side : Side) (conns : List Entry) where
  -- the map has the keys of all entries, and of those from a place on the first places
  pub record Numbered (map : IndexMap Key ℕ S) (from : ℕ) : Type 0 where
    pub within : from ≤ length conns
    pub keys : (k : Key) → is_some (get keys_equal map k) ≡ list_any (has side k.zone k.tuple) conns
    pub places : (k : Key) (n : ℕ) → position (has side k.zone k.tuple) (drop from conns) ≡ Some n → get keys_equal map k ≡ Some (from + n)

  -- before the first is written
  pub begun : (map : IndexMap Key ℕ S) → ((k : Key) → is_some (get keys_equal map k) ≡ list_any (has side k.zone k.tuple) conns) → Numbered map (length conns)
  begun map keys = record {
    within = omega arith;
    keys = keys;
    places = λ k n is. absurd (no_place n (position (has side k.zone k.tuple) []) refl (sym (ap (position (has side k.zone k.tuple)) (drop_all (length conns) conns (omega arith))) ∙ is));
  }

  -- one more is written
  pub written : (map new : IndexMap Key ℕ S) (from p : ℕ) (key : Key) (d : Entry) → Numbered map from → p + 1 ≡ from → key ≡ key_on side (get_or conns p d)
      → ((k : Key) → get keys_equal new k ≡ cond (keys_equal key k) (Some p) (get keys_equal map k)) → Numbered new p
  written map new from p key d so_far next at is =
      let e = get_or conns p d in
      let inside : p < length conns = omega (arith, next, so_far.within) in
      let own : (k : Key) → get keys_equal new k ≡ cond (has side k.zone k.tuple e) (Some p) (get keys_equal map k) = λ k. is k ∙ ap (λ b. cond b (Some p) (get keys_equal map k)) (ap (λ x. keys_equal x k) at ∙ has_key side e k) in
      let first : (k : Key) → position (has side k.zone k.tuple) (drop p conns) ≡ cond (has side k.zone k.tuple e) (Some 0) (later (position (has side k.zone k.tuple) (drop from conns))) =
      λ k. ap (position (has side k.zone k.tuple)) (drop_more conns p d inside)
      ∙ position-cons (has side k.zone k.tuple) (get_or conns p d) (drop (p + 1) conns)
      ∙ ap (λ n. cond (has side k.zone k.tuple e) (Some 0) (later (position (has side k.zone k.tuple) (drop n conns)))) next in
      record {
        within = omega (arith, inside);
        keys = λ k. ap is_some (own k) ∙ keys_step (has side k.zone k.tuple e) p (get keys_equal map k) (list_any (has side k.zone k.tuple) conns) (so_far.keys k)
            (list_any_at (has side k.zone k.tuple) conns p d inside);
        places = λ k n found. own k ∙ places_step (has side k.zone k.tuple e) p n (position (has side k.zone k.tuple) (drop from conns)) (get keys_equal map k) (sym (first k) ∙ found)
            (λ m m_is. so_far.places k m m_is ∙ ap (λ r. Some (r + m)) (sym next));
      }

  -- the key of an entry is there
  pub key_there : (map : IndexMap Key ℕ S) (from p : ℕ) (e d : Entry) → Numbered map from → p < length conns → get_or conns p d ≡ e → get keys_equal map (key_on side e) ≡ None → ⊥
  key_there map from p e d so_far inside at none =
      let own : has side e.zone (tuple_on side e) e ≡ true = sym (has_key side e (key_on side e)) ∙ keys_same side e in
      true≢false (sym (list_any_at (has side e.zone (tuple_on side e)) conns p d inside (ap (has side e.zone (tuple_on side e)) at ∙ own)) ∙ sym (so_far.keys (key_on side e)) ∙ ap is_some none)

  -- all are written
  pub ended : (map : IndexMap Key ℕ S) → Numbered map 0 → Places side conns map
  ended map done k = end_by (get keys_equal map k) (position (has side k.zone k.tuple) conns) (list_any (has side k.zone k.tuple) conns) (done.keys k) (position-any (has side k.zone k.tuple) conns) (done.places k)
