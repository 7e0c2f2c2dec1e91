-- The rows that are made of the network's objects are the rows of its units.
use Rattle.std.proofs.Common.{◌≡◌, true, List, [], ◌++◌, append_assoc, map, sym, ap, ◌∙◌, subst}
use Rattle.std.specs.Prelude.{◌↔◌, filter, Some}
use Rattle.std.proofs.lemmas.Bool.{eqb-true, eq-eqb}
use Rattle.std.specs.List.{Contains, flat_map}
use Rattle.std.proofs.lemmas.List.{map-append}
use Rattle.nv_base.specs.declared.object.ObjId.{ObjId}
use Rattle.nb_records.specs.declared.acl.Acl.{Acl}
use Rattle.nb_records.specs.declared.balancer.Lb.{Lb}
use Rattle.nb_records.specs.declared.balancer.Vip.{Vip}
use Rattle.nb_records.specs.declared.switch.Port.{Port}
use Rattle.nb_records.specs.declared.switch.Switch.{Switch}
use Rattle.nb_model.specs.Belongs.{is_among}
use Rattle.nb_model.specs.Network.{Network, same}
use Rattle.nb_model.specs.Sound.{IsSound}
use Rattle.nb_model.specs.Applies.{applies, lbs_on, tracks}
use Rattle.net_rows.specs.Acls.{acl_on_rules, switch_acl_rules}
use Rattle.net_rows.specs.Build.{acl_on_input, acl_on_rows, acl_rows, acl_rules_of_port, all_rows, lb_on_rows, lb_rows, port_l2_input, port_rows, port_sec_input, switch_acl_input, switch_l2_input, switch_rows, vip_input, vip_on_rows}
use Rattle.net_rows.specs.LoadBalancers.{switch_lb_rules, vip_switch_rules}
use Rattle.net_rows.specs.Lookup.{port_l2_rules, switch_l2_rules}
use Rattle.net_rows.specs.PortSecurity.{port_sec_rules, switch_sec_rules}
use Rattle.net_rows.specs.Unit.{row_of, said_by, unit_of, unit_of_datapath, unit_rows}
use Rattle.net_rows.specs.declared.inputs.SwitchAclInput.{SwitchAclInput}
use Rattle.net_rows.specs.declared.inputs.SwitchL2Input.{SwitchL2Input}
use Rattle.net_rows.specs.declared.rule.Rule.{Rule}
use Rattle.net_rows.specs.declared.rule.Unit.{Unit}
use Rattle.net_rows.proofs.Elements.{any_gives, Contains-filter, Contains-flat_map, Contains-from_filter, Contains-from_flat_map, Contains-from_map}
use Rattle.net_rows.proofs.Sound.{each_passes}
use Rattle.sb_model.specs.declared.row.Row.{Row}
use Rattle.lr_units.specs.Build.{router_rows}
use Rattle.lr_units.specs.Network.{rows_of_units}
use Rattle.nd_full.specs.inner.Between.{rows_of_each}
use Rattle.nd_full.specs.inner.Made.{acl_unit, acl_units, balancer_units, datapath_rows, port_units, rows_at, switch_units, vip_unit}
use Rattle.nd_router.specs.Members.{HaveSameRows}
use Rattle.nd_inputs.specs.inner.Numbered.{of_number}
use Rattle.nd_router.proofs.All.{on_each}
use Rattle.nd_inputs.proofs.Attached.{attached_to_listed, listed_to_attached}
use Rattle.nd_full.specs.inner.Owners.{acls_of, AreOwners, ports_on}
use Rattle.nd_inputs.proofs.Any.{kept_passes}
use Rattle.nd_full.proofs.Applied.{applies_to, has_owner}
use Rattle.nd_full.proofs.Sound.{switches_rise}
use Rattle.nv_table.specs.Table.{record_of}
use Rattle.nd_router.proofs.Same.{same_appended, same_both, same_equal, same_itself, same_pieces, same_split, same_through, same_unit, same_turned_round}

-- the rules of two parts of a unit
two_parts : (unit : Unit) (first second : List Rule) (rest : List Row) → HaveSameRows rest (said_by unit second) → HaveSameRows (unit_rows unit first ++ rest) (said_by unit (first ++ second))
two_parts unit first second rest same =
    same_through (unit_rows unit first ++ rest) (said_by unit first ++ said_by unit second) (said_by unit (first ++ second))
    (same_both (unit_rows unit first) (said_by unit first) rest (said_by unit second) (same_unit unit first) same) (same_equal (said_by unit first ++ said_by unit second) (said_by unit (first ++ second)) (sym (map-append (row_of unit) first second)))

module _ (net : Network) where
  -- the units of a switch
  pub same_switch : (switch : Switch) → HaveSameRows (switch_units switch.id (switch_acl_input net switch.id) (switch_l2_input net switch.id)) (switch_rows net switch)
  unfolding switch_rows
  same_switch switch =
      let unit = unit_of_datapath switch.id in
      let acl = switch_acl_rules (switch_acl_input net switch.id) in
      let lookup = switch_l2_rules (switch_l2_input net switch.id) in
      two_parts unit switch_sec_rules (acl ++ (switch_lb_rules ++ lookup)) (unit_rows unit acl ++ (unit_rows unit switch_lb_rules ++ unit_rows unit lookup))
      (two_parts unit acl (switch_lb_rules ++ lookup) (unit_rows unit switch_lb_rules ++ unit_rows unit lookup) (two_parts unit switch_lb_rules lookup (unit_rows unit lookup) (same_unit unit lookup)))

  -- and of a port
  pub same_port : (port : Port) → HaveSameRows (port_units net port) (port_rows net port)
  unfolding port_rows
  same_port port =
      let unit = unit_of port.switch port.id in
      let acl = acl_rules_of_port net port in
      let lookup = port_l2_rules (port_l2_input net port) in
      two_parts unit (port_sec_rules (port_sec_input port)) (acl ++ lookup) (unit_rows unit acl ++ unit_rows unit lookup) (two_parts unit acl lookup (unit_rows unit lookup) (same_unit unit lookup))

  same_acl : (acl : Acl) (switch : Switch) → HaveSameRows (acl_unit switch.id (tracks net switch.id) acl) (acl_on_rows net acl switch)
  unfolding acl_on_rows
  same_acl acl switch = same_unit (unit_of switch.id acl.id) (acl_on_rules (acl_on_input net acl switch.id))

  -- the rows of the ACLs that apply to a switch
  abbrev applied : Switch → List Row
  applied switch = flat_map (λ acl. acl_on_rows net acl switch) (filter (applies net switch.id) net.acls)

  -- the ACLs of the owners are those that apply
  pub same_applied : (switch : Switch) (owners : List ObjId) → AreOwners net switch.id owners → HaveSameRows (flat_map (acl_units net switch.id (tracks net switch.id)) owners) (applied switch)
  same_applied switch owners are = record { members = λ r. (to r, back r) }
    where
      units : ObjId → List Row
      units = acl_units net switch.id (tracks net switch.id)

      unit : Acl → List Row
      unit = acl_unit switch.id (tracks net switch.id)

      on : Acl → List Row
      on acl = acl_on_rows net acl switch

      to : (r : Row) → Contains (flat_map units owners) r → Contains (applied switch) r
      to r there =
          let at = Contains-from_flat_map units owners r there in
          let in_unit = Contains-from_flat_map unit (acls_of net at.0) r at.2 in
          let acl = in_unit.0 in
          let of_network = Contains-from_filter (λ (a : Acl). same at.0 a.owner) net.acls acl in_unit.1 in
          let kept = Contains-filter (applies net switch.id) net.acls acl of_network (applies_to net switch.id owners are acl at.0 at.1 in_unit.1) in
          Contains-flat_map on (filter (applies net switch.id) net.acls) acl r kept (((same_acl acl switch).members r).0 in_unit.2)

      back : (r : Row) → Contains (applied switch) r → Contains (flat_map units owners) r
      back r there =
          let at = Contains-from_flat_map on (filter (applies net switch.id) net.acls) r there in
          let acl = at.0 in
          let of_network = Contains-from_filter (applies net switch.id) net.acls acl at.1 in
          let owned = has_owner net switch.id owners are acl of_network (kept_passes (applies net switch.id) net.acls acl at.1) in
          let in_unit = Contains-flat_map unit (acls_of net owned.0) acl r owned.2 (((same_acl acl switch).members r).1 at.2) in
          Contains-flat_map units owners owned.0 r owned.1 in_unit

  -- the rows of a switch and of the ACLs that apply to it
  abbrev with_applied : Switch → List Row
  with_applied switch = switch_rows net switch ++ applied switch

  -- the rows of a switch and of its owners' ACLs come to the others
  pub same_at : (switch : Switch) (owners : List ObjId) (old : List Row) → AreOwners net switch.id owners
      → HaveSameRows ((old ++ switch_units switch.id (switch_acl_input net switch.id) (switch_l2_input net switch.id)) ++ flat_map (acl_units net switch.id (tracks net switch.id)) owners) (old ++ with_applied switch)
  same_at switch owners old are =
      let units = switch_units switch.id (switch_acl_input net switch.id) (switch_l2_input net switch.id) in
      let acls = flat_map (acl_units net switch.id (tracks net switch.id)) owners in
      same_through ((old ++ units) ++ acls) (old ++ (units ++ acls)) (old ++ with_applied switch) (same_equal ((old ++ units) ++ acls) (old ++ (units ++ acls)) (append_assoc old units acls))
      (same_both old old (units ++ acls) (with_applied switch) (same_itself old) (same_both units (switch_rows net switch) acls (applied switch) (same_switch switch) (same_applied switch owners are)))

  pub made_at : (switch : Switch) (owners : List ObjId) (old made all : List Row) (acl : SwitchAclInput) (lookup : SwitchL2Input) → AreOwners net switch.id owners → acl ≡ switch_acl_input net switch.id → lookup ≡ switch_l2_input net switch.id
      → made ≡ old ++ switch_units switch.id acl lookup → all ≡ made ++ flat_map (acl_units net switch.id acl.tracks) owners → HaveSameRows all (old ++ with_applied switch)
  made_at switch owners old made all acl lookup are is_acl is_lookup is_made is_all =
      same_through all (at (switch_acl_input net switch.id) (switch_l2_input net switch.id)) (old ++ with_applied switch)
      (same_equal all (at (switch_acl_input net switch.id) (switch_l2_input net switch.id))
      (is_all ∙ ap (λ rows. rows ++ flat_map (acl_units net switch.id acl.tracks) owners) is_made ∙ ap (λ input. at input lookup) is_acl ∙ ap (at (switch_acl_input net switch.id)) is_lookup)) (same_at switch owners old are)
    where
      at : SwitchAclInput → SwitchL2Input → List Row
      at a l = (old ++ switch_units switch.id a l) ++ flat_map (acl_units net switch.id a.tracks) owners

  -- a load balancer on a switch
  same_vip : (switch : Switch) (lb : Lb) (vip : Vip) → HaveSameRows (vip_unit switch.id lb vip) (vip_on_rows switch lb vip)
  unfolding vip_on_rows
  same_vip switch lb vip = same_unit (unit_of switch.id lb.id) (vip_switch_rules (vip_input lb vip))

  same_balancer : (switch : Switch) (lb : Lb) → HaveSameRows (balancer_units switch.id lb) (lb_on_rows switch lb)
  same_balancer switch lb = same_pieces (vip_unit switch.id lb) (vip_on_rows switch lb) lb.vips (same_vip switch lb)

  module _ (sound : IsSound net) (switch : Switch) (there : record_of (λ (s : Switch). s.id) switch.id net.switches ≡ Some switch) where
    -- the load balancers that a switch lists are those that are attached to it
    same_balancers : HaveSameRows (flat_map (of_number net (balancer_units switch.id)) switch.lbs) (lb_rows net switch)
    same_balancers =
        let units = balancer_units switch.id in
        let rise = switches_rise net sound in
        same_through (flat_map (of_number net units) switch.lbs) (flat_map units (lbs_on net switch.id)) (lb_rows net switch)
        (record {
          members = λ r. (
            listed_to_attached (λ (s : Switch). s.id) (λ (s : Switch). s.lbs) net.switches net sound rise switch there units r,
            attached_to_listed (λ (s : Switch). s.id) (λ (s : Switch). s.lbs) net.switches net sound rise switch there units r,
          );
        })
        (same_pieces units (lb_on_rows switch) (lbs_on net switch.id) (same_balancer switch))

    -- their rows come to those of the switch and of the ACLs
    pub made_with : (old made all : List Row) → HaveSameRows made (old ++ with_applied switch) → all ≡ made ++ flat_map (of_number net (balancer_units switch.id)) switch.lbs → HaveSameRows all (old ++ rows_at net switch)
    made_with old made all same is_all =
        let own = switch_rows net switch in
        let acls = applied switch in
        let lbs = lb_rows net switch in
        same_through all (made ++ lbs) (old ++ rows_at net switch) (same_appended made (flat_map (of_number net (balancer_units switch.id)) switch.lbs) lbs all is_all same_balancers)
        (same_through (made ++ lbs) ((old ++ (own ++ acls)) ++ lbs) (old ++ rows_at net switch) (same_both made (old ++ (own ++ acls)) lbs lbs same (same_itself lbs))
        (same_equal ((old ++ (own ++ acls)) ++ lbs) (old ++ (own ++ (acls ++ lbs))) (append_assoc old (own ++ acls) lbs ∙ ap (λ rows. old ++ rows) (append_assoc own acls lbs))))

  -- switch by switch the same ACLs are applied as ACL by ACL
  same_acls : HaveSameRows (flat_map applied net.switches) (flat_map (acl_rows net) net.acls)
  same_acls = record { members = λ r. (to r, back r) }
    where
      to : (r : Row) → Contains (flat_map applied net.switches) r → Contains (flat_map (acl_rows net) net.acls) r
      to r there =
          let at = Contains-from_flat_map applied net.switches r there in
          let switch = at.0 in
          let on = Contains-from_flat_map (λ acl. acl_on_rows net acl switch) (filter (applies net switch.id) net.acls) r at.2 in
          let acl = on.0 in
          let passes = kept_passes (applies net switch.id) net.acls acl on.1 in
          let kept = Contains-filter (λ (s : Switch). applies net s.id acl) net.switches switch at.1 passes in
          let of_network = Contains-from_filter (applies net switch.id) net.acls acl on.1 in
          Contains-flat_map (acl_rows net) net.acls acl r of_network (Contains-flat_map (acl_on_rows net acl) (filter (λ (s : Switch). applies net s.id acl) net.switches) switch r kept on.2)

      back : (r : Row) → Contains (flat_map (acl_rows net) net.acls) r → Contains (flat_map applied net.switches) r
      back r there =
          let at = Contains-from_flat_map (acl_rows net) net.acls r there in
          let acl = at.0 in
          let on = Contains-from_flat_map (acl_on_rows net acl) (filter (λ (s : Switch). applies net s.id acl) net.switches) r at.2 in
          let switch = on.0 in
          let passes = kept_passes (λ (s : Switch). applies net s.id acl) net.switches switch on.1 in
          let kept = Contains-filter (applies net switch.id) net.acls acl at.1 passes in
          let of_network = Contains-from_filter (λ (s : Switch). applies net s.id acl) net.switches switch on.1 in
          Contains-flat_map applied net.switches switch r of_network (Contains-flat_map (λ a. acl_on_rows net a switch) (filter (applies net switch.id) net.acls) acl r kept on.2)

  abbrev of_switches : List Row
  of_switches = flat_map (switch_rows net) net.switches

  abbrev of_ports : List Row
  of_ports = flat_map (port_rows net) net.ports

  abbrev of_acls : List Row
  of_acls = flat_map (acl_rows net) net.acls

  abbrev of_lbs : List Row
  of_lbs = flat_map (lb_rows net) net.switches

  same_switches : HaveSameRows (flat_map (rows_at net) net.switches) (of_switches ++ (of_acls ++ of_lbs))
  same_switches =
      let on : Switch → List Row = λ switch. applied switch ++ lb_rows net switch in
      same_through (flat_map (rows_at net) net.switches) (of_switches ++ flat_map on net.switches) (of_switches ++ (of_acls ++ of_lbs)) (same_split (switch_rows net) on net.switches)
      (same_both of_switches of_switches (flat_map on net.switches) (of_acls ++ of_lbs) (same_itself of_switches)
      (same_through (flat_map on net.switches) (flat_map applied net.switches ++ of_lbs) (of_acls ++ of_lbs) (same_split applied (lb_rows net) net.switches)
      (same_both (flat_map applied net.switches) of_acls of_lbs of_lbs same_acls (same_itself of_lbs))))

  -- the ports of a switch, switch by switch, are all ports
  same_ports : IsSound net → HaveSameRows (flat_map (λ (switch : Switch). flat_map (port_units net) (ports_on net switch.id)) net.switches) (flat_map (port_units net) net.ports)
  same_ports sound = record { members = λ r. (to r, back r) }
    where
      on : Switch → List Row
      on switch = flat_map (port_units net) (ports_on net switch.id)

      to : (r : Row) → Contains (flat_map on net.switches) r → Contains (flat_map (port_units net) net.ports) r
      to r there =
          let at = Contains-from_flat_map on net.switches r there in
          let of_port = Contains-from_flat_map (port_units net) (ports_on net at.0.id) r at.2 in
          Contains-flat_map (port_units net) net.ports of_port.0 r (Contains-from_filter (λ (p : Port). same at.0.id p.switch) net.ports of_port.0 of_port.1) of_port.2

      back : (r : Row) → Contains (flat_map (port_units net) net.ports) r → Contains (flat_map on net.switches) r
      back r there =
          let at = Contains-from_flat_map (port_units net) net.ports r there in
          let port = at.0 in
          let its = any_gives (same port.switch) (map (λ (s : Switch). s.id) net.switches) (each_passes (λ (p : Port). is_among p.switch (map (λ (s : Switch). s.id) net.switches)) net.ports port sound.refers.ports at.1) in
          let of_number = Contains-from_map (λ (s : Switch). s.id) net.switches its.0 its.1 in
          let switch = of_number.0 in
          let is_its : same switch.id port.switch ≡ true = eq-eqb switch.id.0 port.switch.0 (ap (λ (n : ObjId). n.0) of_number.2 ∙ sym (eqb-true port.switch.0 its.0.0 its.2)) in
          Contains-flat_map on net.switches switch r of_number.1 (Contains-flat_map (port_units net) (ports_on net switch.id) port r (Contains-filter (λ (p : Port). same switch.id p.switch) net.ports port at.1 is_its) at.2)

  -- what is made of the switches, and then of the ports, are the rows of the network's units
  pub same_all : HaveSameRows (flat_map (rows_at net) net.switches ++ flat_map (port_units net) net.ports) (all_rows net)
  same_all =
      let others = of_acls ++ of_lbs in
      same_through (flat_map (rows_at net) net.switches ++ flat_map (port_units net) net.ports) ((of_switches ++ others) ++ of_ports) (all_rows net)
      (same_both (flat_map (rows_at net) net.switches) (of_switches ++ others) (flat_map (port_units net) net.ports) of_ports same_switches (same_pieces (port_units net) (port_rows net) net.ports same_port))
      (same_through ((of_switches ++ others) ++ of_ports) (of_switches ++ (others ++ of_ports)) (all_rows net) (same_equal ((of_switches ++ others) ++ of_ports) (of_switches ++ (others ++ of_ports)) (append_assoc of_switches others of_ports))
      (same_both of_switches of_switches (others ++ of_ports) (of_ports ++ others) (same_itself of_switches) (same_turned_round others of_ports)))

  -- what is made datapath by datapath are the rows of the network's units
  made_all : IsSound net → HaveSameRows (flat_map (datapath_rows net) net.switches) (all_rows net)
  made_all sound =
      let on : Switch → List Row = λ switch. flat_map (port_units net) (ports_on net switch.id) in
      let switches = flat_map (rows_at net) net.switches in
      same_through (flat_map (datapath_rows net) net.switches) (switches ++ flat_map on net.switches) (all_rows net) (same_split (rows_at net) on net.switches)
      (same_through (switches ++ flat_map on net.switches) (switches ++ flat_map (port_units net) net.ports) (all_rows net)
      (same_both switches switches (flat_map on net.switches) (flat_map (port_units net) net.ports) (same_itself switches) (same_ports sound)) same_all)

  -- and with those on each router they are the rows of all units
  pub made_network : IsSound net → (none all : List Row) → none ≡ [] → HaveSameRows all (none ++ (flat_map (datapath_rows net) net.switches ++ rows_of_each net net.routers)) → HaveSameRows all (rows_of_units net)
  made_network sound none all is_none same =
      let switches = flat_map (datapath_rows net) net.switches in
      same_through all (switches ++ rows_of_each net net.routers) (rows_of_units net) (subst (λ rows. HaveSameRows all (rows ++ (switches ++ rows_of_each net net.routers))) is_none same)
      (same_both switches (all_rows net) (rows_of_each net net.routers) (router_rows net) (made_all sound) (on_each net sound))

  -- the rows of a datapath, those of its ports first, in the order of their keys
  pub made_of_datapath : (switch : Switch) (none of_ports all : List Row) → none ≡ [] → of_ports ≡ none ++ flat_map (port_units net) (ports_on net switch.id) → HaveSameRows all (of_ports ++ rows_at net switch)
      → (list : List Row) → ((r : Row) → Contains list r ↔ Contains all r) → HaveSameRows list (datapath_rows net switch)
  made_of_datapath switch none of_ports all is_none is_ports same list is_list =
      let ports = flat_map (port_units net) (ports_on net switch.id) in
      let at = rows_at net switch in
      same_through list all (datapath_rows net switch) (record { members = is_list })
      (same_through all (of_ports ++ at) (datapath_rows net switch) same
      (same_through (of_ports ++ at) (ports ++ at) (datapath_rows net switch) (same_equal (of_ports ++ at) (ports ++ at) (ap (λ rows. rows ++ at) (is_ports ∙ ap (λ rows. rows ++ ports) is_none))) (same_turned_round ports at)))
