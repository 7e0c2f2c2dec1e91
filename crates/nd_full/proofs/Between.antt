-- The routers between two numbers, and the rows of datapaths one after the other by rising number.
use Rattle.std.proofs.Common.{◌≡◌, ◌≢◌, ◌<◌, ◌≤◌, Bool, true, false, nat_lt, ◌&&◌, List, [], ◌∷◌, ◌++◌, append_assoc, refl, sym, ap, ◌∙◌, ◌⊎◌, inl, inr, arith}
use Rattle.std.specs.Prelude.{Option, Some, None, filter, find}
use Rattle.std.specs.List.{Contains, flat_map}
use Rattle.std.proofs.lemmas.Bool.{cases_lt, lt-ltb}
use Rattle.std.proofs.lemmas.Bool.Decides.{nat_tests}
use Rattle.std.proofs.lemmas.List.Elements.{Contains-append_cases, Contains-append_left, Contains-append_right}
use Rattle.nv_base.specs.declared.object.ObjId.{ObjId}
use Rattle.nb_records.specs.declared.router.Router.{Router}
use Rattle.nb_records.specs.declared.switch.Switch.{Switch}
use Rattle.nb_model.specs.Network.{Network}
use Rattle.nb_model.specs.Sound.{IsSound}
use Rattle.nb_store.proofs.Found.{first_found}
use Rattle.nv_table.specs.Table.{NumbersRise, is_after, record_after}
use Rattle.nv_table.proofs.Found.{found_least, found_there, none_passes}
use Rattle.nv_table.proofs.Tagged.{find_none}
use Rattle.nv_table.proofs.Through.{left_after, none_left, one_left}
use Rattle.sb_model.specs.declared.row.Row.{Row}
use Rattle.net_rows.proofs.Elements.{Contains-filter, Contains-flat_map, Contains-from_filter, Contains-from_flat_map, Contains-map}
use Rattle.lr_units.proofs.Numbers.{switch_is_no_router}
use Rattle.nd_router.specs.Members.{HaveSameRows}
use Rattle.nd_router.specs.Router.{rows_on}
use Rattle.nd_inputs.proofs.Any.{kept_passes}
use Rattle.nd_router.proofs.Same.{same_back, same_both, same_equal, same_itself, same_through, same_turned_round}
use Rattle.nd_full.specs.inner.Between.{is_before, routers_between, rows_of_each}
use Rattle.nd_full.specs.inner.Made.{datapath_rows}
use Rattle.nd_full.proofs.Sound.{switches_rise}

-- ---- the first router between two numbers

-- a number above one that is not below a limit is not below it
not_before : (before : Option ObjId) (n m : ObjId) → n.0 ≤ m.0 → is_before before n ≡ false → is_before before m ≡ false
not_before None n m above not = not
not_before (Some high) n m above not = grind (arith, nat_tests, above, not)

fails_first : (a b : Bool) → a ≡ false → (a && b) ≡ false
fails_first true b is = absurd (grind arith)
fails_first false b is = refl

module _ (after before : Option ObjId) (routers : List Router) where
  abbrev is_between : Router → Bool
  is_between router = is_after after router.id && is_before before router.id

  -- where none is above the one, none is between
  pub none_above : record_after (λ (r : Router). r.id) after routers ≡ None → find is_between routers ≡ None
  none_above none = find_none is_between routers (λ r there. fails_first (is_after after r.id) (is_before before r.id) (none_passes (λ (x : Router). is_after after x.id) r routers none there))

  module _ (router : Router) (found : record_after (λ (r : Router). r.id) after routers ≡ Some router) where
    -- the first above the one is the first between, where it is below the other
    pub first_below : is_before before router.id ≡ true → find is_between routers ≡ Some router
    first_below below = first_found (λ (r : Router). is_after after r.id) (λ (r : Router). is_before before r.id) router routers found below

    -- and where it is not, none is
    pub none_below : NumbersRise (λ (r : Router). r.id) routers → is_before before router.id ≡ false → find is_between routers ≡ None
    none_below rise not = find_none is_between routers (λ r there. by r there (is_after after r.id) refl)
      where
        by : (r : Router) → Contains routers r → (b : Bool) → is_after after r.id ≡ b → (b && is_before before r.id) ≡ false
        by r there true is = not_before before router.id r.id (found_least (λ (x : Router). x.id) (λ (x : Router). is_after after x.id) router r routers rise found there is) not
        by r there false is = refl

-- ---- the routers after a number are those before a switch and those after it

-- a number above one that is above another is above that one
above_both : (after : Option ObjId) (n m : ObjId) → is_after after n ≡ true → nat_lt n.0 m.0 ≡ true → is_after after m ≡ true
above_both None n m is above = refl
above_both (Some low) n m is above = grind (arith, nat_tests, is, above)

module _ (net : Network) (last : Option ObjId) (number : ObjId) (above : is_after last number ≡ true) (apart : (r : Router) → Contains net.routers r → number.0 ≢ r.id.0) where
  abbrev left : Option ObjId → List Router
  left after = left_after (λ (r : Router). r.id) after net.routers

  abbrev between : List Router
  between = routers_between net last (Some number)

  divided : (row : Row) → Contains (rows_of_each net (left last)) row → Contains (rows_of_each net between ++ rows_of_each net (left (Some number))) row
  divided row at =
      let from = Contains-from_flat_map (λ (r : Router). rows_on net r.id) (left last) row at in
      let there = Contains-from_filter (λ (r : Router). is_after last r.id) net.routers from.0 from.1 in
      by from.0 there (kept_passes (λ (r : Router). is_after last r.id) net.routers from.0 from.1) from.2 (cases_lt from.0.id.0 number.0)
    where
      by : (r : Router) → Contains net.routers r → is_after last r.id ≡ true → Contains (rows_on net r.id) row → (r.id.0 < number.0) ⊎ (number.0 ≤ r.id.0) → Contains (rows_of_each net between ++ rows_of_each net (left (Some number))) row
      by r there is on (inl below) =
          Contains-append_left (rows_of_each net between) (rows_of_each net (left (Some number))) row
          (Contains-flat_map (λ (x : Router). rows_on net x.id) between r row
          (Contains-filter (λ (x : Router). is_after last x.id) (filter (λ (x : Router). is_before (Some number) x.id) net.routers) r (Contains-filter (λ (x : Router). is_before (Some number) x.id) net.routers r there (lt-ltb r.id.0 number.0 below)) is) on)
      by r there is on (inr reaches) =
          let other = apart r there in
          Contains-append_right (rows_of_each net between) (rows_of_each net (left (Some number))) row
          (Contains-flat_map (λ (x : Router). rows_on net x.id) (left (Some number)) r row (Contains-filter (λ (x : Router). is_after (Some number) x.id) net.routers r there (lt-ltb number.0 r.id.0 (omega arith))) on)

  joined : (row : Row) → Contains (rows_of_each net between) row ⊎ Contains (rows_of_each net (left (Some number))) row → Contains (rows_of_each net (left last)) row
  joined row (inl at) =
      let from = Contains-from_flat_map (λ (r : Router). rows_on net r.id) between row at in
      let below = filter (λ (x : Router). is_before (Some number) x.id) net.routers in
      let there = Contains-from_filter (λ (x : Router). is_before (Some number) x.id) net.routers from.0 (Contains-from_filter (λ (x : Router). is_after last x.id) below from.0 from.1) in
      Contains-flat_map (λ (r : Router). rows_on net r.id) (left last) from.0 row (Contains-filter (λ (r : Router). is_after last r.id) net.routers from.0 there (kept_passes (λ (x : Router). is_after last x.id) below from.0 from.1)) from.2
  joined row (inr at) =
      let from = Contains-from_flat_map (λ (r : Router). rows_on net r.id) (left (Some number)) row at in
      let there = Contains-from_filter (λ (r : Router). is_after (Some number) r.id) net.routers from.0 from.1 in
      let is = above_both last number from.0.id above (kept_passes (λ (r : Router). is_after (Some number) r.id) net.routers from.0 from.1) in
      Contains-flat_map (λ (r : Router). rows_on net r.id) (left last) from.0 row (Contains-filter (λ (r : Router). is_after last r.id) net.routers from.0 there is) from.2

  divided_at : HaveSameRows (rows_of_each net (left last)) (rows_of_each net between ++ rows_of_each net (left (Some number)))
  divided_at = record { members = λ row. (divided row, λ at. joined row (Contains-append_cases (rows_of_each net between) (rows_of_each net (left (Some number))) row at)) }

-- with no limit, all after a number
none_before : (after : Option ObjId) (rs : List Router) → filter (λ (r : Router). is_after after r.id) (filter (λ (r : Router). is_before None r.id) rs) ≡ left_after (λ (r : Router). r.id) after rs
none_before after rs = ap (filter (λ (r : Router). is_after after r.id)) (all rs)
  where
    all : (rs : List Router) → filter (λ (r : Router). is_before None r.id) rs ≡ rs
    all [] = refl
    all (r ∷ rs) = ap (λ more. r ∷ more) (all rs)

-- ---- datapath by datapath

-- what comes between may come later
moved : (made b s f g : List Row) → HaveSameRows (((made ++ b) ++ s) ++ (f ++ g)) (made ++ ((s ++ f) ++ (b ++ g)))
moved made b s f g =
    same_through (((made ++ b) ++ s) ++ (f ++ g)) (made ++ ((b ++ (s ++ f)) ++ g)) (made ++ ((s ++ f) ++ (b ++ g))) (same_equal (((made ++ b) ++ s) ++ (f ++ g)) (made ++ ((b ++ (s ++ f)) ++ g)) (simp append_assoc))
    (same_both made made ((b ++ (s ++ f)) ++ g) ((s ++ f) ++ (b ++ g)) (same_itself made)
    (same_through ((b ++ (s ++ f)) ++ g) (((s ++ f) ++ b) ++ g) ((s ++ f) ++ (b ++ g)) (same_both (b ++ (s ++ f)) ((s ++ f) ++ b) g g (same_turned_round b (s ++ f)) (same_itself g)) (same_equal (((s ++ f) ++ b) ++ g) ((s ++ f) ++ (b ++ g)) (append_assoc (s ++ f) b g))))

module _ (net : Network) (sound : IsSound net) (last : Option ObjId) (made whole : List Row) where
  abbrev of_switches : Option ObjId → List Row
  of_switches after = flat_map (datapath_rows net) (left_after (λ (s : Switch). s.id) after net.switches)

  abbrev of_routers : Option ObjId → List Row
  of_routers after = rows_of_each net (left_after (λ (r : Router). r.id) after net.routers)

  module _ (same : HaveSameRows (made ++ (of_switches last ++ of_routers last)) whole) where
    -- the rows of the routers before the next switch, and then those of the switch, come to those that were made
    pub next_switch : (switch : Switch) (with_routers list new : List Row) → record_after (λ (s : Switch). s.id) last net.switches ≡ Some switch
        → HaveSameRows with_routers (made ++ rows_of_each net (routers_between net last (Some switch.id))) → new ≡ with_routers ++ list → HaveSameRows list (datapath_rows net switch)
        → HaveSameRows (new ++ (of_switches (Some switch.id) ++ of_routers (Some switch.id))) whole
    next_switch switch with_routers list new found of_between is_new of_list =
        same_through (new ++ (f ++ g)) (((made ++ b) ++ s) ++ (f ++ g)) whole
        (same_both new ((made ++ b) ++ s) (f ++ g) (f ++ g) (same_through new (with_routers ++ list) ((made ++ b) ++ s) (same_equal new (with_routers ++ list) is_new) (same_both with_routers (made ++ b) list s of_between of_list)) (same_itself (f ++ g)))
        (same_through (((made ++ b) ++ s) ++ (f ++ g)) (made ++ ((s ++ f) ++ (b ++ g))) whole (moved made b s f g)
        (same_through (made ++ ((s ++ f) ++ (b ++ g))) (made ++ (of_switches last ++ of_routers last)) whole
        (same_both made made ((s ++ f) ++ (b ++ g)) (of_switches last ++ of_routers last) (same_itself made)
        (same_both (s ++ f) (of_switches last) (b ++ g) (of_routers last) (same_equal (s ++ f) (of_switches last) (ap (flat_map (datapath_rows net)) (sym (one_left (λ (x : Switch). x.id) last net.switches switch (switches_rise net sound) found))))
        (same_back (of_routers last) (b ++ g) (divided_at net last switch.id at.1 apart)))) same))
      where
        b : List Row
        b = rows_of_each net (routers_between net last (Some switch.id))

        s : List Row
        s = datapath_rows net switch

        f : List Row
        f = of_switches (Some switch.id)

        g : List Row
        g = of_routers (Some switch.id)

        at : Contains net.switches switch × (is_after last switch.id ≡ true)
        at = found_there (λ (x : Switch). is_after last x.id) switch net.switches found

        apart : (r : Router) → Contains net.routers r → switch.id.0 ≢ r.id.0
        apart r there = switch_is_no_router net sound switch.id r.id (Contains-map (λ (x : Switch). x.id) net.switches switch at.0) (Contains-map (λ (x : Router). x.id) net.routers r there)

    -- where no switch is left, those of the routers that are left complete them
    pub no_switch : (new : List Row) → record_after (λ (s : Switch). s.id) last net.switches ≡ None → HaveSameRows new (made ++ rows_of_each net (routers_between net last None)) → HaveSameRows new whole
    no_switch new none of_left =
        same_through new (made ++ rows_of_each net (routers_between net last None)) whole of_left
        (same_through (made ++ rows_of_each net (routers_between net last None)) (made ++ (of_switches last ++ of_routers last)) whole
        (same_equal (made ++ rows_of_each net (routers_between net last None)) (made ++ (of_switches last ++ of_routers last))
        (ap (λ rs. made ++ rows_of_each net rs) (none_before last net.routers) ∙ ap (λ rs. made ++ (flat_map (datapath_rows net) rs ++ of_routers last)) (sym (none_left (λ (s : Switch). s.id) last net.switches none)))) same)
