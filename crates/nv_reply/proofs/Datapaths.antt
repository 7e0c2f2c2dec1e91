-- The datapaths of a network, gone through by rising number.
use Rattle.std.proofs.Common.{◌≡◌, ◌<◌, ◌≤◌, Bool, true, false, cond, nat_lt, ℕ, List, [], ◌∷◌, map, arith, refl, sym, ap, ◌∙◌, subst}
use Rattle.std.proofs.lemmas.Bool.{false≢true, ltb-true, lt-ltb}
use Rattle.std.proofs.lemmas.Bool.Decides.{nat_tests}
use Rattle.std.proofs.lemmas.Option.{same_Some}
use Rattle.std.specs.Prelude.{Option, Some, None}
use Rattle.std.specs.List.{AllByRecursion, Contains}
use Rattle.nv_base.specs.declared.object.ObjId.{ObjId}
use Rattle.nb_records.specs.declared.router.Router.{Router}
use Rattle.nb_records.specs.declared.switch.Switch.{Switch}
use Rattle.nb_model.specs.Network.{Network}
use Rattle.nb_model.specs.Sound.{IsSound}
use Rattle.net_rows.proofs.Elements.{one_first, one_later, Contains-map}
use Rattle.lr_units.proofs.Numbers.{switch_is_no_router}
use Rattle.nv_table.specs.Table.{NumbersRise, is_after, record_after, with_record}
use Rattle.nv_table.proofs.Through as through
use Rattle.nv_table.proofs.Through.{left_after, none_left, one_left}
use Rattle.nv_reply.specs.Reply.{datapaths}
use Rattle.nv_reply.specs.inner.Left.{left}

-- a datapath's number and name
abbrev Datapath : Type 0
Datapath = ObjId × List ℕ

-- each has a number above this one
abbrev Above : {R : Type 0} → (R → ObjId) → ObjId → List R → Type 0
Above number n rs = AllByRecursion (λ r. n.0 < (number r).0) rs

abbrev id_of : Datapath → ObjId
id_of d = d.0

-- ---- lists of records

module _ {R : Type 0} (number : R → ObjId) where
  -- those after a number are above it
  after_above : (n : ObjId) (rs : List R) → Above number n (left_after number (Some n) rs)
  after_above n [] = tt
  after_above n (r ∷ rs) = by (nat_lt n.0 (number r).0) refl (after_above n rs)
    where
      by : (b : Bool) → nat_lt n.0 (number r).0 ≡ b → Above number n (left_after number (Some n) rs) → Above number n (cond b (r ∷ left_after number (Some n) rs) (left_after number (Some n) rs))
      by true is rest = (ltb-true n.0 (number r).0 is, rest)
      by false is rest = rest

  -- above one number, and so above a lesser one
  above_less : (n m : ObjId) (rs : List R) → n.0 < m.0 → Above number m rs → Above number n rs
  above_less n m [] less all = tt
  above_less n m (r ∷ rs) less all = (omega (arith, less, all.0), above_less n m rs less all.1)

  -- a record that is found is after the number
  found_after : (last : Option ObjId) (rs : List R) (x : R) → record_after number last rs ≡ Some x → is_after last (number x) ≡ true
  found_after last [] x found = absurd (cc)
  found_after last (r ∷ rs) x found = by (is_after last (number r)) refl found (found_after last rs x)
    where
      by : (b : Bool) → is_after last (number r) ≡ b → cond b (Some r) (record_after number last rs) ≡ Some x → (record_after number last rs ≡ Some x → is_after last (number x) ≡ true) → is_after last (number x) ≡ true
      by true is there rest = ap (λ (y : R). is_after last (number y)) (sym (same_Some r x there)) ∙ is
      by false is there rest = rest there

  -- and is one of them
  found_there : (last : Option ObjId) (rs : List R) (x : R) → record_after number last rs ≡ Some x → Contains rs x
  found_there last [] x found = absurd (cc)
  found_there last (r ∷ rs) x found = by (is_after last (number r)) found (found_there last rs x)
    where
      by : (b : Bool) → cond b (Some r) (record_after number last rs) ≡ Some x → (record_after number last rs ≡ Some x → Contains rs x) → Contains (r ∷ rs) x
      by true there rest = one_first r rs x (same_Some r x there)
      by false there rest = one_later r rs x (rest there)

  -- a number above one that is after another is after it
  after_greater : (last : Option ObjId) (n m : ObjId) → n.0 < m.0 → is_after last n ≡ true → is_after last m ≡ true
  after_greater None n m above is = refl
  after_greater (Some low) n m above is = lt-ltb low.0 m.0 (omega (arith, above, ltb-true low.0 n.0 is))

  -- where all that are left are above a number, they are those after it
  left_above : (last : Option ObjId) (n : ObjId) (rs : List R) → is_after last n ≡ true → Above number n (left_after number last rs) → left_after number (Some n) rs ≡ left_after number last rs
  left_above last n [] after all = refl
  left_above last n (r ∷ rs) after all = by (is_after last (number r)) refl all (left_above last n rs after)
    where
      none : is_after last (number r) ≡ false → nat_lt n.0 (number r).0 ≡ false
      none is = cases (nat_lt n.0 (number r).0) refl
        where
          cases : (b : Bool) → nat_lt n.0 (number r).0 ≡ b → nat_lt n.0 (number r).0 ≡ false
          cases false below = below
          cases true above = absurd (false≢true (sym is ∙ after_greater last n (number r) (ltb-true n.0 (number r).0 above) after))

      by : (b : Bool) → is_after last (number r) ≡ b → Above number n (cond b (r ∷ left_after number last rs) (left_after number last rs))
          → (Above number n (left_after number last rs) → left_after number (Some n) rs ≡ left_after number last rs)
          → cond (nat_lt n.0 (number r).0) (r ∷ left_after number (Some n) rs) (left_after number (Some n) rs) ≡ cond b (r ∷ left_after number last rs) (left_after number last rs)
      by true is above rest = rw (lt-ltb n.0 (number r).0 above.0) (ap (λ more. r ∷ more) (rest above.1))
      by false is above rest = rw (none is) (rest above)

-- ---- datapaths

with_above : (n : ObjId) (d : Datapath) (ds : List Datapath) → n.0 < d.0.0 → Above id_of n ds → Above id_of n (with_record id_of d ds)
with_above n d [] less all = (less, tt)
with_above n d (e ∷ ds) less all = by (nat_lt d.0.0 e.0.0) (with_above n d ds less all.1)
  where
    by : (b : Bool) → Above id_of n (with_record id_of d ds) → Above id_of n (cond b (d ∷ e ∷ ds) (e ∷ with_record id_of d ds))
    by true rest = (less, all)
    by false rest = (all.0, rest)

module _ (n : ObjId) where
  switches_above : (switches : List Switch) → Above (λ (s : Switch). s.id) n switches → Above id_of n (map (λ (s : Switch). (s.id, s.name)) switches)
  switches_above [] all = tt
  switches_above (s ∷ switches) all = (all.0, switches_above switches all.1)

  all_above : (switches : List Switch) (routers : List Router) → Above (λ (s : Switch). s.id) n switches → Above (λ (r : Router). r.id) n routers → Above id_of n (datapaths switches routers)
  all_above switches [] all none = switches_above switches all
  all_above switches (r ∷ routers) all more = with_above n (r.id, r.name) (datapaths switches routers) more.0 (all_above switches routers all more.1)

-- a datapath whose number is below those of all comes first
put_first : (d : Datapath) (ds : List Datapath) → Above id_of d.0 ds → with_record id_of d ds ≡ d ∷ ds
put_first d [] all = refl
put_first d (e ∷ ds) all = rw (lt-ltb d.0.0 e.0.0 all.0) refl

not_below : (n m : ObjId) → n.0 < m.0 → nat_lt m.0 n.0 ≡ false
not_below n m less = grind (arith, nat_tests, less)

first_switch : (s : Switch) (switches : List Switch) (routers : List Router) → Above (λ (r : Router). r.id) s.id routers → datapaths (s ∷ switches) routers ≡ (s.id, s.name) ∷ datapaths switches routers
first_switch s switches [] all = refl
first_switch s switches (r ∷ routers) all =
    ap (with_record id_of (r.id, r.name)) (first_switch s switches routers all.1)
    ∙ rw (not_below s.id r.id all.0) refl

first_router : (r : Router) (switches : List Switch) (routers : List Router) → Above (λ (s : Switch). s.id) r.id switches → Above (λ (other : Router). other.id) r.id routers
    → datapaths switches (r ∷ routers) ≡ (r.id, r.name) ∷ datapaths switches routers
first_router r switches routers all others = put_first (r.id, r.name) (datapaths switches routers) (all_above r.id switches routers all others)

module _ (switches : List Switch) (routers : List Router) (last : Option ObjId) where
  abbrev switches_left : Option ObjId → List Switch
  switches_left after = left_after (λ (s : Switch). s.id) after switches

  abbrev routers_left : Option ObjId → List Router
  routers_left after = left_after (λ (r : Router). r.id) after routers

  abbrev all_left : Option ObjId → List Datapath
  all_left after = datapaths (switches_left after) (routers_left after)

  -- none is left
  pub no_more : record_after (λ (s : Switch). s.id) last switches ≡ None → record_after (λ (r : Router). r.id) last routers ≡ None → all_left last ≡ []
  no_more none nothing = ap (λ rest. datapaths (switches_left last) rest) (none_left (λ (r : Router). r.id) last routers nothing) ∙ ap (λ rest. datapaths rest []) (none_left (λ (s : Switch). s.id) last switches none)

  -- the routers that are left are above a number
  routers_above : (n : ObjId) (next : Option Router) → NumbersRise (λ (r : Router). r.id) routers → record_after (λ (r : Router). r.id) last routers ≡ next
      → ((r : Router) → next ≡ Some r → n.0 < r.id.0) → Above (λ (r : Router). r.id) n (routers_left last)
  routers_above n None rise found less = subst (Above (λ (r : Router). r.id) n) (sym (none_left (λ (r : Router). r.id) last routers found)) tt
  routers_above n (Some r) rise found less =
      subst (Above (λ (x : Router). x.id) n) (sym (one_left (λ (x : Router). x.id) last routers r rise found))
      (less r refl, above_less (λ (x : Router). x.id) n r.id (routers_left (Some r.id)) (less r refl) (after_above (λ (x : Router). x.id) r.id routers))

  switches_are_above : (n : ObjId) (next : Option Switch) → NumbersRise (λ (s : Switch). s.id) switches → record_after (λ (s : Switch). s.id) last switches ≡ next
      → ((s : Switch) → next ≡ Some s → n.0 < s.id.0) → Above (λ (s : Switch). s.id) n (switches_left last)
  switches_are_above n None rise found less = subst (Above (λ (s : Switch). s.id) n) (sym (none_left (λ (s : Switch). s.id) last switches found)) tt
  switches_are_above n (Some s) rise found less =
      subst (Above (λ (x : Switch). x.id) n) (sym (one_left (λ (x : Switch). x.id) last switches s rise found))
      (less s refl, above_less (λ (x : Switch). x.id) n s.id (switches_left (Some s.id)) (less s refl) (after_above (λ (x : Switch). x.id) s.id switches))

  module _ (rise : NumbersRise (λ (s : Switch). s.id) switches) (mount : NumbersRise (λ (r : Router). r.id) routers) where
    -- a switch is next
    pub switch_next : (s : Switch) → record_after (λ (x : Switch). x.id) last switches ≡ Some s
        → ((r : Router) → record_after (λ (x : Router). x.id) last routers ≡ Some r → s.id.0 < r.id.0)
        → all_left last ≡ (s.id, s.name) ∷ all_left (Some s.id)
    switch_next s found less =
        let above = routers_above s.id (record_after (λ (x : Router). x.id) last routers) mount refl less in
        ap (λ rest. datapaths rest (routers_left last)) (one_left (λ (x : Switch). x.id) last switches s rise found)
        ∙ first_switch s (switches_left (Some s.id)) (routers_left last) above
        ∙ ap (λ rest. (s.id, s.name) ∷ datapaths (switches_left (Some s.id)) rest) (sym (left_above (λ (x : Router). x.id) last s.id routers (found_after (λ (x : Switch). x.id) last switches s found) above))

    -- a router is next
    pub router_next : (r : Router) → record_after (λ (x : Router). x.id) last routers ≡ Some r
        → ((s : Switch) → record_after (λ (x : Switch). x.id) last switches ≡ Some s → r.id.0 < s.id.0)
        → all_left last ≡ (r.id, r.name) ∷ all_left (Some r.id)
    router_next r found less =
        let above = switches_are_above r.id (record_after (λ (x : Switch). x.id) last switches) rise refl less in
        ap (λ rest. datapaths (switches_left last) rest) (one_left (λ (x : Router). x.id) last routers r mount found)
        ∙ first_router r (switches_left last) (routers_left (Some r.id)) above (after_above (λ (x : Router). x.id) r.id routers)
        ∙ ap (λ rest. (r.id, r.name) ∷ datapaths rest (routers_left (Some r.id))) (sym (left_above (λ (x : Switch). x.id) last r.id switches (found_after (λ (x : Router). x.id) last routers r found) above))

-- of a switch and a router whose number is not the greater one, the router's is the lesser
pub other_router : (net : Network) → IsSound net → (last : Option ObjId) (s : Switch) (r : Router) → record_after (λ (x : Switch). x.id) last net.switches ≡ Some s
    → record_after (λ (x : Router). x.id) last net.routers ≡ Some r → r.id.0 ≤ s.id.0 → r.id.0 < s.id.0
other_router net sound last s r switch router not_more =
    let in_switches = Contains-map (λ (x : Switch). x.id) net.switches s (found_there (λ (x : Switch). x.id) last net.switches s switch) in
    let in_routers = Contains-map (λ (x : Router). x.id) net.routers r (found_there (λ (x : Router). x.id) last net.routers r router) in
    let differ = switch_is_no_router net sound s.id r.id in_switches in_routers in
    lesser s.id.0 r.id.0 not_more differ
  where
    lesser : (a b : ℕ) → b ≤ a → (a ≡ b → ⊥) → b < a
    lesser a b not_more differ = omega (arith, not_more, differ)

-- ---- the whole list

module _ (net : Network) where
  -- at the beginning all are left
  pub all_at_first : left None net ≡ datapaths net.switches net.routers
  all_at_first =
      ap (λ rest. datapaths rest (left_after (λ (r : Router). r.id) None net.routers)) (through.all_left (λ (s : Switch). s.id) net.switches)
      ∙ ap (datapaths net.switches) (through.all_left (λ (r : Router). r.id) net.routers)
