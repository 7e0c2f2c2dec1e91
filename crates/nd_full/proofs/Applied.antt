-- The owners whose ACLs apply to a switch, and what the inputs of units say of the network.
use Rattle.std.proofs.Common.{◌≡◌, ◌<◌, Bool, true, false, not, ◌&&◌, ◌||◌, cond, List, [], ◌∷◌, ◌++◌, append-nil, map, Some, None, refl, sym, ap, ◌∙◌, subst, arith}
use Rattle.std.proofs.Math.Bool.{or-false}
use Rattle.std.specs.Prelude.{◌↔◌, filter}
use Rattle.std.specs.List.{AllByRecursion, Contains, flat_map, list_any}
use Rattle.std.proofs.lemmas.Bool.{and_parts}
use Rattle.std.proofs.lemmas.Bool.Decides.{nat_tests}
use Rattle.std.proofs.lemmas.Option.{same_Some}
use Rattle.nv_base.specs.declared.object.ObjId.{ObjId}
use Rattle.nb_records.specs.declared.acl.Acl.{Acl}
use Rattle.nb_records.specs.declared.sets.Group.{Group}
use Rattle.nb_records.specs.declared.switch.Port.{Port}
use Rattle.nb_records.specs.declared.switch.Switch.{Switch}
use Rattle.nb_model.specs.Belongs.{is_among}
use Rattle.nb_model.specs.Network.{Network, same}
use Rattle.nv_table.specs.Table.{NumbersRise, record_after, record_of}
use Rattle.nb_model.specs.Applies.{applies, balances, is_empty, is_related}
use Rattle.nb_model.specs.Ports.{is_open, takes_unknown}
use Rattle.net_rows.specs.Build.{has_unknown, switch_acl_input}
use Rattle.net_rows.specs.declared.inputs.SwitchAclInput.{SwitchAclInput}
use Rattle.net_rows.proofs.Elements.{any_from, any_gives, Contains-filter, Contains-flat_map, Contains-from_filter, Contains-from_flat_map, Contains-from_map, Contains-map}
use Rattle.nd_full.specs.inner.Made.{has_related}
use Rattle.nd_full.specs.inner.Owners.{acls_of, groups_of_port, groups_on, groups_with, ports_on, AreOwners}
use Rattle.nv_table.proofs.Through.{all_left, none_left}
use Rattle.nd_inputs.proofs.Any.{any_agree, any_kept, any_members, both_pass, both_ways, kept_passes, same_turned}

module _ (net : Network) (switch : ObjId) where
  -- the port is on the switch and in the group
  abbrev is_in : Group → Port → Bool
  is_in group port = same port.switch switch && is_among port.id group.ports

  -- the group has this number, and a port on the switch
  abbrev is_here : ObjId → Group → Bool
  is_here number group = same group.id number && list_any (is_in group) net.ports

  group_is_here : (number : ObjId) → is_among number (groups_on net switch) ≡ true → list_any (is_here number) net.groups ≡ true
  group_is_here number among =
      let named = any_gives (same number) (groups_on net switch) among in
      let at_port = Contains-from_flat_map (λ (port : Port). groups_of_port net port.id) (ports_on net switch) named.0 named.1 in
      let port = at_port.0 in
      let at_group = Contains-from_map (λ (group : Group). group.id) (groups_with net port.id) named.0 at_port.2 in
      let group = at_group.0 in
      let on_switch : same port.switch switch ≡ true = same_turned port.switch switch ∙ kept_passes (λ (p : Port). same switch p.switch) net.ports port at_port.1 in
      let in_group : is_among port.id group.ports ≡ true = kept_passes (λ (g : Group). is_among port.id g.ports) net.groups group at_group.1 in
      let has_number : same group.id number ≡ true = ap (λ n. same n number) at_group.2 ∙ same_turned named.0 number ∙ named.2 in
      let some_port : list_any (is_in group) net.ports ≡ true = any_from (is_in group) net.ports port (Contains-from_filter (λ (p : Port). same switch p.switch) net.ports port at_port.1) (both_pass (same port.switch switch) (is_among port.id group.ports) on_switch in_group) in
      any_from (is_here number) net.groups group (Contains-from_filter (λ (g : Group). is_among port.id g.ports) net.groups group at_group.1) (both_pass (same group.id number) (list_any (is_in group) net.ports) has_number some_port)

  group_is_among : (number : ObjId) → list_any (is_here number) net.groups ≡ true → is_among number (groups_on net switch) ≡ true
  group_is_among number here =
      let at_group = any_gives (is_here number) net.groups here in
      let group = at_group.0 in
      let of_group = and_parts (same group.id number) (list_any (is_in group) net.ports) at_group.2 in
      let at_port = any_gives (is_in group) net.ports of_group.1 in
      let port = at_port.0 in
      let of_port = and_parts (same port.switch switch) (is_among port.id group.ports) at_port.2 in
      let on_switch = Contains-filter (λ (p : Port). same switch p.switch) net.ports port at_port.1 (same_turned switch port.switch ∙ of_port.0) in
      let in_group = Contains-filter (λ (g : Group). is_among port.id g.ports) net.groups group at_group.1 of_port.1 in
      let listed = Contains-flat_map (λ (p : Port). groups_of_port net p.id) (ports_on net switch) port group.id on_switch (Contains-map (λ (g : Group). g.id) (groups_with net port.id) group in_group) in
      any_from (same number) (groups_on net switch) group.id listed (same_turned number group.id ∙ of_group.0)

  -- the switch and its groups, in whatever order and however often, are the owners
  pub owners_are : (owners : List ObjId) → ((owner : ObjId) → Contains owners owner ↔ Contains (switch ∷ groups_on net switch) owner) → AreOwners net switch owners
  owners_are owners members = record {
    are = λ acl.
        any_members (same acl.owner) owners (switch ∷ groups_on net switch) members
        ∙ ap (λ b. b || is_among acl.owner (groups_on net switch)) (same_turned acl.owner switch)
        ∙ ap (λ b. same switch acl.owner || b) (both_ways (is_among acl.owner (groups_on net switch)) (list_any (is_here acl.owner) net.groups) (group_is_here acl.owner) (group_is_among acl.owner));
  }

  module _ (owners : List ObjId) (are : AreOwners net switch owners) where
    -- an ACL applies just where it is of an owner
    pub applies_to : (acl : Acl) (owner : ObjId) → Contains owners owner → Contains (acls_of net owner) acl → applies net switch acl ≡ true
    applies_to acl owner there of_owner =
        sym (are.are acl) ∙ any_from (same acl.owner) owners owner there (same_turned acl.owner owner ∙ kept_passes (λ (a : Acl). same owner a.owner) net.acls acl of_owner)

    pub has_owner : (acl : Acl) → Contains net.acls acl → applies net switch acl ≡ true → (owner : ObjId) × Contains owners owner × Contains (acls_of net owner) acl
    has_owner acl there applied =
        let at = any_gives (same acl.owner) owners (are.are acl ∙ applied) in
        (at.0, at.1, Contains-filter (λ (a : Acl). same at.0 a.owner) net.acls acl there (same_turned at.0 acl.owner ∙ at.2))

    -- an `allow-related` ACL applies where an owner has one
    pub some_related : list_any (has_related net) owners ≡ list_any (λ acl. applies net switch acl && is_related acl.verdict) net.acls
    some_related = both_ways (list_any (has_related net) owners) (list_any is_tracking net.acls) to back
      where
        is_tracking : Acl → Bool
        is_tracking acl = applies net switch acl && is_related acl.verdict

        to : list_any (has_related net) owners ≡ true → list_any is_tracking net.acls ≡ true
        to some =
            let at = any_gives (has_related net) owners some in
            let of_owner = any_gives (λ (a : Acl). is_related a.verdict) (acls_of net at.0) at.2 in
            let acl = of_owner.0 in
            any_from is_tracking net.acls acl (Contains-from_filter (λ (a : Acl). same at.0 a.owner) net.acls acl of_owner.1) (both_pass (applies net switch acl) (is_related acl.verdict) (applies_to acl at.0 at.1 of_owner.1) of_owner.2)

        back : list_any is_tracking net.acls ≡ true → list_any (has_related net) owners ≡ true
        back some =
            let at = any_gives is_tracking net.acls some in
            let acl = at.0 in
            let parts = and_parts (applies net switch acl) (is_related acl.verdict) at.2 in
            let owned = has_owner acl at.1 parts.0 in
            any_from (has_related net) owners owned.0 owned.1 (any_from (λ (a : Acl). is_related a.verdict) (acls_of net owned.0) acl owned.2 parts.1)

  -- an enabled port of the switch has the address `unknown`
  pub some_unknown : list_any (λ port. port.enabled && takes_unknown port) (ports_on net switch) ≡ has_unknown net switch
  some_unknown = any_kept (λ (p : Port). same switch p.switch) (λ (p : Port). p.enabled && takes_unknown p) net.ports ∙ any_agree (λ (p : Port). same switch p.switch && (p.enabled && takes_unknown p)) (λ (p : Port). is_open switch p && takes_unknown p) agree net.ports
    where
      regrouped : (a b c d : Bool) → a ≡ d → (a && (b && c)) ≡ ((d && b) && c)
      regrouped true true c true e = refl
      regrouped true false c true e = refl
      regrouped false b c false e = refl
      regrouped true b c false e = cc
      regrouped false b c true e = cc

      agree : (p : Port) → (same switch p.switch && (p.enabled && takes_unknown p)) ≡ ((same p.switch switch && p.enabled) && takes_unknown p)
      agree p = regrouped (same switch p.switch) p.enabled (takes_unknown p) (same p.switch switch) (same_turned switch p.switch)

-- of records of greater numbers none has the number
none_above : (n : ObjId) (q : Switch → Bool) (switches : List Switch) → AllByRecursion (λ s. n.0 < s.id.0) switches → list_any (λ s. same s.id n && q s) switches ≡ false
none_above n q [] all = refl
none_above n q (s ∷ switches) all = let differs : same s.id n ≡ false = grind (arith, nat_tests, all.0) in rw differs (none_above n q switches all.1)

-- of records whose numbers rise the one of a number passes where one of that number does
pub only_one : (switch : Switch) (q : Switch → Bool) (switches : List Switch) → NumbersRise (λ (s : Switch). s.id) switches → record_of (λ (s : Switch). s.id) switch.id switches ≡ Some switch
    → list_any (λ s. same s.id switch.id && q s) switches ≡ q switch
only_one switch q [] rise found = absurd (cc)
only_one switch q (s ∷ switches) rise found = by (same switch.id s.id) refl found (only_one switch q switches rise.1)
  where
    by : (b : Bool) → same switch.id s.id ≡ b → cond b (Some s) (record_of (λ (x : Switch). x.id) switch.id switches) ≡ Some switch
        → (record_of (λ (x : Switch). x.id) switch.id switches ≡ Some switch → list_any (λ x. same x.id switch.id && q x) switches ≡ q switch)
        → (same s.id switch.id && q s || list_any (λ x. same x.id switch.id && q x) switches) ≡ q switch
    by true is at rest =
        let one : s ≡ switch = same_Some s switch at in
        let above = subst (λ (x : Switch). AllByRecursion (λ y. x.id.0 < y.id.0) switches) one rise.0 in
        rw (same_turned s.id switch.id ∙ is, none_above switch.id q switches above) (or-false (q s) ∙ ap q one)
    by false is at rest = rw (same_turned s.id switch.id ∙ is) (rest at)

-- a load balancer is attached to the switch where it lists one
pub balances_is : (net : Network) (switch : Switch) → NumbersRise (λ (s : Switch). s.id) net.switches → record_of (λ (s : Switch). s.id) switch.id net.switches ≡ Some switch → balances net switch.id ≡ not (is_empty switch.lbs)
balances_is net switch rise there = only_one switch (λ (s : Switch). not (is_empty s.lbs)) net.switches rise there

-- the input of the stages of ACLs, from what is found of the owners and of the switch
pub acl_input_is : (net : Network) (switch : Switch) (owners : List ObjId) → NumbersRise (λ (s : Switch). s.id) net.switches → record_of (λ (s : Switch). s.id) switch.id net.switches ≡ Some switch → AreOwners net switch.id owners
    → (attached tracking : Bool) → attached ≡ not (is_empty switch.lbs) → tracking ≡ (list_any (has_related net) owners || attached) → record { tracks = tracking; balances = attached } ≡ switch_acl_input net switch.id
acl_input_is net switch owners rise there are attached tracking found tracked =
    ap (λ b. input b attached) (tracked ∙ ap (λ b. b || attached) (some_related net switch.id owners are))
    ∙ ap (λ b. input (list_any (λ acl. applies net switch.id acl && is_related acl.verdict) net.acls || b) b) (found ∙ sym (balances_is net switch rise there))
  where
    input : Bool → Bool → SwitchAclInput
    input tracking balanced = record { tracks = tracking; balances = balanced }

-- where there is no group, no port of a switch has one
pub without_groups : (net : Network) (switch : ObjId) (owners : List ObjId) → record_after (λ (g : Group). g.id) None net.groups ≡ None → owners ≡ owners ++ groups_on net switch
without_groups net switch owners none = sym (ap (λ more. owners ++ more) (of_ports (ports_on net switch)) ∙ append-nil owners)
  where
    groups_none : net.groups ≡ []
    groups_none = sym (all_left (λ (g : Group). g.id) net.groups) ∙ none_left (λ (g : Group). g.id) None net.groups none

    of_ports : (ports : List Port) → flat_map (λ (port : Port). groups_of_port net port.id) ports ≡ []
    of_ports [] = refl
    of_ports (port ∷ ports) = ap (λ groups. map (λ (g : Group). g.id) (filter (λ (g : Group). is_among port.id g.ports) groups) ++ flat_map (λ (p : Port). groups_of_port net p.id) ports) groups_none ∙ of_ports ports
