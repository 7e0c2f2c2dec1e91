-- No two rows of the units of a sound network agree in datapath, stage, priority, hint and match.
use Rattle.std.proofs.Common.{◌≡◌, ◌≢◌, ℕ, ◌<◌, ◌++◌, ◌⊎◌, inl, inr, List, sym, ap, ◌∙◌, subst, arith}
use Rattle.std.specs.List.{Contains, flat_map}
use Rattle.std.proofs.lemmas.List.Elements.{Contains-append_cases}
use Rattle.nb_records.specs.declared.acl.Acl.{Acl}
use Rattle.nb_records.specs.declared.balancer.Lb.{Lb}
use Rattle.nb_records.specs.declared.balancer.Vip.{Vip}
use Rattle.nb_records.specs.declared.switch.Port.{Port}
use Rattle.nb_records.specs.declared.switch.Switch.{Switch}
use Rattle.nb_model.specs.Applies.{lbs_on, switches_of_acl}
use Rattle.nb_model.specs.Network.{Network}
use Rattle.nb_model.specs.Sound.{IsSound}
use Rattle.sb_model.specs.declared.row.Row.{Row}
use Rattle.sb_model.specs.declared.stage.Stage.TheVariants.{LsInLb}
use Rattle.sb_rows.specs.Row.{AreApart}
use Rattle.net_rows.specs.Acls.{acl_on_rules}
use Rattle.net_rows.specs.Build.{acl_on_input, acl_on_rows, acl_rows, all_rows, lb_on_rows, lb_rows, port_rows, port_rules, switch_rows, switch_rules, vip_input, vip_on_rows}
use Rattle.net_rows.specs.LoadBalancers.{vip_switch_rule, vip_switch_rules}
use Rattle.net_rows.specs.Unit.{row_of, unit_of, unit_of_datapath}
use Rattle.net_rows.proofs.ApartAcl.{acl_rules_apart}
use Rattle.net_rows.proofs.ApartPort.{port_rules_apart}
use Rattle.net_rows.proofs.ApartSwitch.{switch_rules_apart}
use Rattle.net_rows.proofs.Differ.{Differ, RulesDiffer, dp_of_unit, dps_differ, hint_of_unit, hints_differ, rules_differ, unit_rows_differ}
use Rattle.net_rows.proofs.Elements.{Contains-from_flat_map, Contains-from_map}
use Rattle.net_rows.proofs.Pairs.{Across, OfPairs, all_pairs, every_from_members, every_member, pairs_append, pairs_as, pairs_filter, pairs_flat_map, pairs_weaker}
use Rattle.net_rows.proofs.Sound.{ports_from_one}
use Rattle.net_rows.proofs.SoundObjects.{acl_is_no_lb, acls_from_one, acls_in_pairs, lbs_from_one, lbs_in_pairs, port_is_no_acl, port_is_no_lb, ports_in_pairs, switches_in_pairs}
use Rattle.net_rows.proofs.SoundVips.{IsSoundVip, OtherVips, balancer_on, vips_apart, vips_are_sound}
use Rattle.net_rows.proofs.VipRules.{opens_printable, vip_switch_apart, vip_switch_only, vips_differ}

-- a lower number is not the other
not_lower : (k l m n : ℕ) → k ≡ m → l ≡ n → m < n → k ≢ l
not_lower k l m n is_m is_n lower same = absurd (omega arith)

module _ (net : Network) where
  -- the rows of a switch have its number, and no hint
  dp_of_switch : (switch : Switch) (row : Row) → Contains (switch_rows net switch) row → row.dp.0 ≡ switch.id.0
  unfolding switch_rows
  dp_of_switch switch row there = dp_of_unit (unit_of_datapath switch.id) (switch_rules net switch.id) row there

  hint_of_switch : (switch : Switch) (row : Row) → Contains (switch_rows net switch) row → row.hint.0 ≡ 0
  unfolding switch_rows
  hint_of_switch switch row there = hint_of_unit (unit_of_datapath switch.id) (switch_rules net switch.id) row there

  -- those of a port have its number as hint
  hint_of_port : (port : Port) (row : Row) → Contains (port_rows net port) row → row.hint.0 ≡ port.id.0
  unfolding port_rows
  hint_of_port port row there = hint_of_unit (unit_of port.switch port.id) (port_rules net port) row there

  -- those of an ACL on a switch have the number of the switch, and that of the ACL as hint
  dp_of_acl : (acl : Acl) (switch : Switch) (row : Row) → Contains (acl_on_rows net acl switch) row → row.dp.0 ≡ switch.id.0
  unfolding acl_on_rows
  dp_of_acl acl switch row there = dp_of_unit (unit_of switch.id acl.id) (acl_on_rules (acl_on_input net acl switch.id)) row there

  hint_of_acl : (acl : Acl) (row : Row) → Contains (acl_rows net acl) row → row.hint.0 ≡ acl.id.0
  unfolding acl_on_rows
  hint_of_acl acl row there =
      let at = Contains-from_flat_map (acl_on_rows net acl) (switches_of_acl net acl) row there in
      hint_of_unit (unit_of at.0.id acl.id) (acl_on_rules (acl_on_input net acl at.0.id)) row at.2

  -- those of a load balancer on a switch have the number of the switch, and that of the load balancer as hint
  hint_of_lb : (switch : Switch) (lb : Lb) (row : Row) → Contains (lb_on_rows switch lb) row → row.hint.0 ≡ lb.id.0
  unfolding vip_on_rows
  hint_of_lb switch lb row there =
      let at = Contains-from_flat_map (vip_on_rows switch lb) lb.vips row there in
      hint_of_unit (unit_of switch.id lb.id) (vip_switch_rules (vip_input lb at.0)) row at.2

  dp_of_lb : (switch : Switch) (row : Row) → Contains (lb_rows net switch) row → row.dp.0 ≡ switch.id.0
  unfolding vip_on_rows
  dp_of_lb switch row there =
      let of = Contains-from_flat_map (lb_on_rows switch) (lbs_on net switch.id) row there in
      let at = Contains-from_flat_map (vip_on_rows switch of.0) of.0.vips row of.2 in
      dp_of_unit (unit_of switch.id of.0.id) (vip_switch_rules (vip_input of.0 at.0)) row at.2

  -- the rows of one unit differ
  one_switch : (switch : Switch) → OfPairs Differ (switch_rows net switch)
  unfolding switch_rows
  one_switch switch = unit_rows_differ (unit_of_datapath switch.id) (switch_rules net switch.id) (switch_rules_apart net switch.id)

  one_port : IsSound net → (port : Port) → Contains net.ports port → OfPairs Differ (port_rows net port)
  unfolding port_rows
  one_port sound port there = unit_rows_differ (unit_of port.switch port.id) (port_rules net port) (port_rules_apart net sound port there)

  one_acl_on : (acl : Acl) (switch : Switch) → OfPairs Differ (acl_on_rows net acl switch)
  unfolding acl_on_rows
  one_acl_on acl switch = unit_rows_differ (unit_of switch.id acl.id) (acl_on_rules (acl_on_input net acl switch.id)) (acl_rules_apart (acl_on_input net acl switch.id))

  one_vip_on : (switch : Switch) (lb : Lb) (vip : Vip) → OfPairs Differ (vip_on_rows switch lb vip)
  unfolding vip_on_rows
  one_vip_on switch lb vip = unit_rows_differ (unit_of switch.id lb.id) (vip_switch_rules (vip_input lb vip)) (vip_switch_apart (vip_input lb vip))

  -- switches by rising number
  abbrev Before : Switch → Switch → Type 0
  Before s t = s.id.0 < t.id.0

  -- the rows of an ACL: on two switches they have two datapaths
  one_acl : (acl : Acl) → OfPairs Before (switches_of_acl net acl) → OfPairs Differ (acl_rows net acl)
  one_acl acl rise =
      pairs_flat_map Differ (acl_on_rows net acl) (switches_of_acl net acl)
      (every_from_members (λ switch. OfPairs Differ (acl_on_rows net acl switch)) (switches_of_acl net acl) (λ switch there. one_acl_on acl switch))
      (pairs_as Before (λ s t. Across Differ (acl_on_rows net acl s) (acl_on_rows net acl t)) (switches_of_acl net acl)
      (λ s t before x y in_s in_t. dps_differ x y (not_lower x.dp.0 y.dp.0 s.id.0 t.id.0 (dp_of_acl acl s x in_s) (dp_of_acl acl t y in_t) before)) rise)

  module _ (sound : IsSound net) where
    -- the rows of two VIPs of one load balancer
    two_vips_on : (switch : Switch) (lb : Lb) (a b : Vip) → IsSoundVip a → IsSoundVip b → OtherVips net sound a b → Across Differ (vip_on_rows switch lb a) (vip_on_rows switch lb b)
    unfolding vip_on_rows
    two_vips_on switch lb a b of_a of_b other x y in_a in_b =
        let unit = unit_of switch.id lb.id in
        let first = vip_input lb a in
        let second = vip_input lb b in
        let r = Contains-from_map (row_of unit) (vip_switch_rules first) x in_a in
        let s = Contains-from_map (row_of unit) (vip_switch_rules second) y in_b in
        let differ : RulesDiffer (vip_switch_rule first) (vip_switch_rule second) =
        vips_differ LsInLb (vip_switch_rule first).actions (vip_switch_rule second).actions first second (opens_printable first of_a.low of_a.service) (opens_printable second of_b.low of_b.service) other
        in
        subst (λ (z : Row). Differ z y) (ap (row_of unit) (vip_switch_only first r.0 r.1) ∙ r.2)
        (subst (λ (z : Row). Differ (row_of unit (vip_switch_rule first)) z) (ap (row_of unit) (vip_switch_only second s.0 s.1) ∙ s.2)
        (rules_differ unit (vip_switch_rule first) (vip_switch_rule second) differ))

    one_lb_on : (switch : Switch) (lb : Lb) → Contains net.lbs lb → OfPairs Differ (lb_on_rows switch lb)
    one_lb_on switch lb there =
        pairs_flat_map Differ (vip_on_rows switch lb) lb.vips
        (every_from_members (λ vip. OfPairs Differ (vip_on_rows switch lb vip)) lb.vips (λ vip in_lb. one_vip_on switch lb vip))
        (pairs_weaker IsSoundVip (OtherVips net sound) (λ a b. Across Differ (vip_on_rows switch lb a) (vip_on_rows switch lb b)) lb.vips (two_vips_on switch lb) (vips_are_sound net sound lb there) (vips_apart net sound lb there))

    -- the rows of load balancers by rising number
    one_balanced : (switch : Switch) → OfPairs Differ (lb_rows net switch)
    one_balanced switch =
        pairs_flat_map Differ (lb_on_rows switch) (lbs_on net switch.id)
        (every_from_members (λ lb. OfPairs Differ (lb_on_rows switch lb)) (lbs_on net switch.id) (λ lb attached. one_lb_on switch lb (balancer_on net switch.id lb attached)))
        (pairs_as (λ (a b : Lb). a.id.0 < b.id.0) (λ a b. Across Differ (lb_on_rows switch a) (lb_on_rows switch b)) (lbs_on net switch.id)
        (λ a b before x y in_a in_b. hints_differ x y (not_lower x.hint.0 y.hint.0 a.id.0 b.id.0 (hint_of_lb switch a x in_a) (hint_of_lb switch b y in_b) before))
        (pairs_filter (λ (a b : Lb). a.id.0 < b.id.0) _ net.lbs (lbs_in_pairs net sound)))

    of_lbs : OfPairs Differ (flat_map (lb_rows net) net.switches)
    of_lbs =
        pairs_flat_map Differ (lb_rows net) net.switches
        (every_from_members (λ switch. OfPairs Differ (lb_rows net switch)) net.switches (λ switch there. one_balanced switch))
        (pairs_as Before (λ s t. Across Differ (lb_rows net s) (lb_rows net t)) net.switches
        (λ s t before x y in_s in_t. dps_differ x y (not_lower x.dp.0 y.dp.0 s.id.0 t.id.0 (dp_of_lb s x in_s) (dp_of_lb t y in_t) before)) (switches_in_pairs net sound))

    of_switches : OfPairs Differ (flat_map (switch_rows net) net.switches)
    of_switches =
        pairs_flat_map Differ (switch_rows net) net.switches
        (every_from_members (λ switch. OfPairs Differ (switch_rows net switch)) net.switches (λ switch there. one_switch switch))
        (pairs_as Before (λ s t. Across Differ (switch_rows net s) (switch_rows net t)) net.switches
        (λ s t before x y in_s in_t. dps_differ x y (not_lower x.dp.0 y.dp.0 s.id.0 t.id.0 (dp_of_switch s x in_s) (dp_of_switch t y in_t) before)) (switches_in_pairs net sound))

    of_ports : OfPairs Differ (flat_map (port_rows net) net.ports)
    of_ports =
        pairs_flat_map Differ (port_rows net) net.ports
        (every_from_members (λ port. OfPairs Differ (port_rows net port)) net.ports (one_port sound))
        (pairs_as (λ (p q : Port). p.id.0 < q.id.0) (λ p q. Across Differ (port_rows net p) (port_rows net q)) net.ports
        (λ p q before x y in_p in_q. hints_differ x y (not_lower x.hint.0 y.hint.0 p.id.0 q.id.0 (hint_of_port p x in_p) (hint_of_port q y in_q) before)) (ports_in_pairs net sound))

    of_acls : OfPairs Differ (flat_map (acl_rows net) net.acls)
    of_acls =
        pairs_flat_map Differ (acl_rows net) net.acls
        (every_from_members (λ acl. OfPairs Differ (acl_rows net acl)) net.acls (λ acl there. one_acl acl (pairs_filter Before _ net.switches (switches_in_pairs net sound))))
        (pairs_as (λ (a b : Acl). a.id.0 < b.id.0) (λ a b. Across Differ (acl_rows net a) (acl_rows net b)) net.acls
        (λ a b before x y in_a in_b. hints_differ x y (not_lower x.hint.0 y.hint.0 a.id.0 b.id.0 (hint_of_acl a x in_a) (hint_of_acl b y in_b) before)) (acls_in_pairs net sound))

    -- the load balancer that a row is for
    lb_of : (row : Row) → Contains (flat_map (lb_rows net) net.switches) row → (lb : Lb) × Contains net.lbs lb × (row.hint.0 ≡ lb.id.0)
    lb_of row there =
        let at = Contains-from_flat_map (lb_rows net) net.switches row there in
        let of = Contains-from_flat_map (lb_on_rows at.0) (lbs_on net at.0.id) row at.2 in
        (of.0, balancer_on net at.0.id of.0 of.1, hint_of_lb at.0 of.0 row of.2)

    -- the rows of ports, of ACLs and of load balancers have other hints, and those of switches none
    ports_and_acls : Across Differ (flat_map (port_rows net) net.ports) (flat_map (acl_rows net) net.acls)
    ports_and_acls x y in_ports in_acls =
        let port = Contains-from_flat_map (port_rows net) net.ports x in_ports in
        let acl = Contains-from_flat_map (acl_rows net) net.acls y in_acls in
        hints_differ x y (λ same. port_is_no_acl net sound port.0 acl.0 port.1 acl.1 (sym (hint_of_port port.0 x port.2) ∙ same ∙ hint_of_acl acl.0 y acl.2))

    ports_and_lbs : Across Differ (flat_map (port_rows net) net.ports) (flat_map (lb_rows net) net.switches)
    ports_and_lbs x y in_ports in_lbs =
        let port = Contains-from_flat_map (port_rows net) net.ports x in_ports in
        let lb = lb_of y in_lbs in
        hints_differ x y (λ same. port_is_no_lb net sound port.0 lb.0 port.1 lb.1 (sym (hint_of_port port.0 x port.2) ∙ same ∙ lb.2))

    acls_and_lbs : Across Differ (flat_map (acl_rows net) net.acls) (flat_map (lb_rows net) net.switches)
    acls_and_lbs x y in_acls in_lbs =
        let acl = Contains-from_flat_map (acl_rows net) net.acls x in_acls in
        let lb = lb_of y in_lbs in
        hints_differ x y (λ same. acl_is_no_lb net sound acl.0 lb.0 acl.1 lb.1 (sym (hint_of_acl acl.0 x acl.2) ∙ same ∙ lb.2))

    -- the rows that are for objects
    abbrev of_objects : List Row
    of_objects = flat_map (port_rows net) net.ports ++ (flat_map (acl_rows net) net.acls ++ flat_map (lb_rows net) net.switches)

    ports_and_others : Across Differ (flat_map (port_rows net) net.ports) (flat_map (acl_rows net) net.acls ++ flat_map (lb_rows net) net.switches)
    ports_and_others x y in_ports in_others = by (Contains-append_cases (flat_map (acl_rows net) net.acls) (flat_map (lb_rows net) net.switches) y in_others)
      where
        by : Contains (flat_map (acl_rows net) net.acls) y ⊎ Contains (flat_map (lb_rows net) net.switches) y → Differ x y
        by (inl in_acls) = ports_and_acls x y in_ports in_acls
        by (inr in_lbs) = ports_and_lbs x y in_ports in_lbs

    some_hint : (row : Row) → Contains of_objects row → 0 < row.hint.0
    some_hint row there = by (Contains-append_cases (flat_map (port_rows net) net.ports) (flat_map (acl_rows net) net.acls ++ flat_map (lb_rows net) net.switches) row there)
      where
        -- a hint that is the number of an object
        from_one : (number : ℕ) → 0 < number → row.hint.0 ≡ number → 0 < row.hint.0
        from_one number some is = subst (λ (n : ℕ). 0 < n) (sym is) some

        later : Contains (flat_map (acl_rows net) net.acls) row ⊎ Contains (flat_map (lb_rows net) net.switches) row → 0 < row.hint.0
        later (inl in_acls) =
            let at = Contains-from_flat_map (acl_rows net) net.acls row in_acls in
            from_one at.0.id.0 (every_member (λ (a : Acl). 0 < a.id.0) net.acls at.0 (acls_from_one net sound) at.1) (hint_of_acl at.0 row at.2)
        later (inr in_lbs) = let lb = lb_of row in_lbs in from_one lb.0.id.0 (every_member (λ (b : Lb). 0 < b.id.0) net.lbs lb.0 (lbs_from_one net sound) lb.1) lb.2

        by : Contains (flat_map (port_rows net) net.ports) row ⊎ Contains (flat_map (acl_rows net) net.acls ++ flat_map (lb_rows net) net.switches) row → 0 < row.hint.0
        by (inl in_ports) =
            let at = Contains-from_flat_map (port_rows net) net.ports row in_ports in
            from_one at.0.id.0 (every_member (λ (p : Port). 0 < p.id.0) net.ports at.0 (ports_from_one net sound) at.1) (hint_of_port at.0 row at.2)
        by (inr in_others) = later (Contains-append_cases (flat_map (acl_rows net) net.acls) (flat_map (lb_rows net) net.switches) row in_others)

    switches_and_others : Across Differ (flat_map (switch_rows net) net.switches) of_objects
    switches_and_others x y in_switches in_others =
        let at = Contains-from_flat_map (switch_rows net) net.switches x in_switches in
        let none = hint_of_switch at.0 x at.2 in
        let some = some_hint y in_others in
        hints_differ x y (λ same. absurd (omega (arith, none, some, same)))

-- no two rows of a sound network agree
pub all_rows_apart : (net : Network) → IsSound net → AreApart (all_rows net)
all_rows_apart net sound =
    let ports = flat_map (port_rows net) net.ports in
    let acls = flat_map (acl_rows net) net.acls in
    let lbs = flat_map (lb_rows net) net.switches in
    all_pairs Differ (all_rows net)
    (pairs_append Differ (flat_map (switch_rows net) net.switches) (ports ++ (acls ++ lbs)) (of_switches net sound)
    (pairs_append Differ ports (acls ++ lbs) (of_ports net sound) (pairs_append Differ acls lbs (of_acls net sound) (of_lbs net sound) (acls_and_lbs net sound)) (ports_and_others net sound))
    (switches_and_others net sound))
