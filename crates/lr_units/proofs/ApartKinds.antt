-- No two rows of the units of one kind agree in datapath, stage, priority, hint and match.
use Rattle.std.proofs.Common.{◌≡◌, ◌≢◌, ℕ, ◌<◌, Bool, true, false, eqb, List, [], ◌∷◌, not, map, refl, sym, ap, subst, ◌∙◌, ◌⊎◌, inl, inr, arith}
use Rattle.std.specs.Prelude.{filter, ⊤, Option, Some, None, if◌then◌else◌}
use Rattle.std.specs.Bool.{IsTrue}
use Rattle.std.specs.List.{AllByRecursion, Contains, flat_map}
use Rattle.std.proofs.lemmas.Bool.{eqb-true, eq-eqb, false≢true, not-true}
use Rattle.std.proofs.lemmas.List.Elements.{All-contains, filter_passes}
use Rattle.nv_base.specs.Name.{is_object_name}
use Rattle.nv_base.specs.declared.ip4.Ip4.{Ip4}
use Rattle.nv_base.specs.declared.object.ObjId.{ObjId}
use Rattle.nb_records.specs.declared.balancer.Lb.{Lb}
use Rattle.nb_records.specs.declared.balancer.Vip.{Vip}
use Rattle.nb_records.specs.declared.router.Binding.{Binding}
use Rattle.nb_records.specs.declared.router.Nat.{Nat}
use Rattle.nb_records.specs.declared.router.Route.{Route}
use Rattle.nb_records.specs.declared.router.Router.{Router}
use Rattle.nb_records.specs.declared.router.RouterPort.{RouterPort}
use Rattle.nb_records.specs.declared.switch.Port.{Port}
use Rattle.nb_model.specs.Applies.{is_empty}
use Rattle.nb_model.specs.Belongs.{peer_port}
use Rattle.nb_model.specs.Network.{Network, same}
use Rattle.nb_model.specs.Sound.{IsSound}
use Rattle.nb_model.proofs.Rising.{rises}
use Rattle.nb_router.specs.Vocabulary.{is_attached, lbs_of}
use Rattle.nv_table.specs.Table.{record_of}
use Rattle.nv_table.proofs.Found.{own_record}
use Rattle.sb_model.specs.declared.row.Row.{Row}
use Rattle.sb_model.specs.declared.stage.Stage.TheVariants.{LrInDnat}
use Rattle.net_rows.specs.Unit.{row_of, said_by, unit_of, unit_of_datapath}
use Rattle.net_rows.specs.declared.rule.Rule.{Rule}
use Rattle.net_rows.specs.declared.rule.Unit.{Unit}
use Rattle.net_rows.proofs.Differ.{Differ, RulesDiffer, dp_of_unit, dps_differ, hint_of_unit, hints_differ, unit_rows_differ}
use Rattle.net_rows.proofs.Elements.{one_of, one_of_none, Contains-from_filter, Contains-from_map}
use Rattle.net_rows.proofs.Pairs.{Across, OfPairs, every_from_members, every_member, pairs_as, pairs_filter, pairs_flat_map, pairs_map, pairs_weaker}
use Rattle.net_rows.proofs.SoundVips.{IsSoundVip, OtherVips, vips_apart, vips_are_sound}
use Rattle.net_rows.proofs.VipRules.{opens_printable, vips_differ}
use Rattle.lr_rows.specs.Balancers.{balancing_rule, vip_addr_rules, vip_router_rules}
use Rattle.lr_rows.specs.Input.{port_in_rules, router_in_rules}
use Rattle.lr_rows.specs.Make.{arp_rule_for}
use Rattle.lr_rows.specs.Nat.{nat_rules, router_nat_rules}
use Rattle.lr_rows.specs.Neighbours.{binding_rules, neighbour_rules, resolving_rule}
use Rattle.lr_rows.specs.Routes.{port_route_rules, router_route_rules, static_route_rules}
use Rattle.lr_rows.specs.declared.inputs.BindingInput.{BindingInput}
use Rattle.lr_rows.specs.declared.inputs.Host.{Host}
use Rattle.lr_rows.specs.declared.inputs.NatRuleInput.{NatRuleInput}
use Rattle.lr_rows.specs.declared.inputs.NeighbourInput.{NeighbourInput}
use Rattle.lr_rows.specs.declared.inputs.PortInInput.{PortInInput}
use Rattle.lr_rows.specs.declared.inputs.PortRouteInput.{PortRouteInput}
use Rattle.lr_rows.specs.declared.inputs.StaticRouteInput.{StaticRouteInput}
use Rattle.lr_rows.specs.declared.inputs.VipAddrInput.{VipAddrInput}
use Rattle.net_rows.specs.declared.inputs.VipInput.{VipInput}
use Rattle.lr_units.specs.Build.{binding_rows, nat_rule_rows, neighbour_rows, port_in_rows, port_route_rows, router_in_rows, router_nat_rows, router_route_rows, rows_of, static_route_rows, vip_addr_rows, vip_router_rows}
use Rattle.lr_units.specs.Units.{binding_input, bindings_of, has_hosts, nat_rule_input, neighbour_input, of_balancers, port_in_input, port_route_input, router_nat_input, static_route_input, vip_addr_input}
use Rattle.lr_units.specs.Words.{across, addresses_once, beside, hosts_at, is_beside}
use Rattle.lr_units.proofs.ApartRules.{addrs_differ, binding_apart, names_differ, nat_apart, neighbour_apart, port_in_apart, port_route_apart, router_in_apart, router_nat_apart, router_route_apart, static_route_apart, vip_addr_apart, vip_router_apart}
use Rattle.lr_units.proofs.Hosts.{hosts_apart, names_apart}
use Rattle.lr_units.proofs.Matches.{HasLow}
use Rattle.lr_units.proofs.Numbers.{Before, bindings_rise, lbs_rise, nats_rise, ports_rise, router_ports_rise, routers_rise, routes_rise}
use Rattle.lr_units.proofs.SoundRouters.{free_low, hosts_are_low, once_low, router_port_is_sound}
use Rattle.lr_units.proofs.Sources.{each_of_map, each_of_pieces}
use Rattle.lr_units.proofs.Tests.{IsLow}
use Rattle.lr_units.proofs.Typed.{across_member, attached_member}
use Rattle.net_rows.specs.Build.{vip_input}

-- ---- rows of two units

-- what passes a filter passes its test
kept_passes : {X : Type 0} (p : X → Bool) (xs : List X) (x : X) → Contains (filter p xs) x → p x ≡ true
kept_passes p xs x there = All-contains (λ y. p y ≡ true) (filter p xs) x (filter_passes p xs) there

-- numbers that rise are two
two_numbers : (m n : ℕ) → m < n → m ≢ n
two_numbers m n lower e = absurd (omega (arith, lower, e))

module _ (u v : Unit) (rules others : List Rule) where
  -- of two datapaths, or of two hints
  two_dps : u.dp.0 ≢ v.dp.0 → Across Differ (said_by u rules) (said_by v others)
  two_dps other x y in_x in_y = dps_differ x y (λ e. other (sym (dp_of_unit u rules x in_x) ∙ e ∙ dp_of_unit v others y in_y))

  two_hints : u.hint.0 ≢ v.hint.0 → Across Differ (said_by u rules) (said_by v others)
  two_hints other x y in_x in_y = hints_differ x y (λ e. other (sym (hint_of_unit u rules x in_x) ∙ e ∙ hint_of_unit v others y in_y))

-- rows whose rules differ, whatever their units
pub rows_differ : (u v : Unit) (r s : Rule) → RulesDiffer r s → Differ (row_of u r) (row_of v s)
rows_differ u v r s differ = by (eqb u.dp.0 v.dp.0) (eqb u.hint.0 v.hint.0) refl refl
  where
    one_unit : (w : Unit) → u ≡ w → Differ (row_of u r) (row_of w s)
    one_unit w is = subst (λ (z : Unit). Differ (row_of u r) (row_of z s)) is (unit_rows_differ u (r ∷ s ∷ []) ((differ, tt), (tt, tt))).0.0

    by : (a b : Bool) → eqb u.dp.0 v.dp.0 ≡ a → eqb u.hint.0 v.hint.0 ≡ b → Differ (row_of u r) (row_of v s)
    by false b dps hints = dps_differ (row_of u r) (row_of v s) (λ e. false≢true (sym dps ∙ eq-eqb _ _ e))
    by true false dps hints = hints_differ (row_of u r) (row_of v s) (λ e. false≢true (sym hints ∙ eq-eqb _ _ e))
    by true true dps hints =
        let same_dp = eqb-true u.dp.0 v.dp.0 dps in
        let same_hint = eqb-true u.hint.0 v.hint.0 hints in
        one_unit v (λ i. record { dp = record { 0 = same_dp i }; hint = record { 0 = same_hint i } })

across_rules : (u v : Unit) (rules others : List Rule) → Across RulesDiffer rules others → Across Differ (said_by u rules) (said_by v others)
across_rules u v rules others differ x y in_x in_y =
    let r = Contains-from_map (row_of u) rules x in_x in
    let s = Contains-from_map (row_of v) others y in_y in
    subst (λ (z : Row). Differ z y) r.2 (subst (λ (z : Row). Differ (row_of u r.0) z) s.2 (rows_differ u v r.0 s.0 (differ r.0 s.0 r.1 s.1)))

-- ---- rows of a kind

module _ {K I : Type 0} (unit_for : K → I → Unit) (rules_of : I → List Rule) where
  abbrev said : K × I → List Row
  said u = said_by (unit_for u.0 u.1) (rules_of u.1)

  -- the rows of two units differ
  abbrev Two : K × I → K × I → Type 0
  Two u v = Across Differ (said u) (said v)

  -- where the rules of each unit differ, and the rows of every two units
  kind_apart : (units : List (K × I)) → ((u : K × I) → Contains units u → OfPairs RulesDiffer (rules_of u.1)) → OfPairs Two units → OfPairs Differ (rows_of unit_for rules_of units)
  kind_apart units own two = pairs_flat_map Differ said units (every_from_members (λ u. OfPairs Differ (said u)) units (λ u there. unit_rows_differ (unit_for u.0 u.1) (rules_of u.1) (own u there))) two

module _ (net : Network) (sound : IsSound net) where
  -- of routers
  of_routers : {I : Type 0} (rules_of : I → List Rule) (input : Router → I) → ((i : I) → OfPairs RulesDiffer (rules_of i))
      → OfPairs Differ (rows_of (λ router i. unit_of_datapath router) rules_of (map (λ (r : Router). (r.id, input r)) net.routers))
  of_routers {I} rules_of input own =
      kind_apart (λ router i. unit_of_datapath router) rules_of (map (λ (r : Router). (r.id, input r)) net.routers) (λ u there. own u.1)
      (pairs_map (Two (λ (router : ObjId) (i : I). unit_of_datapath router) rules_of) (λ (r : Router). (r.id, input r)) net.routers
      (pairs_as (Before (λ (r : Router). r.id)) _ net.routers
      (λ r s before. two_dps (unit_of_datapath r.id) (unit_of_datapath s.id) (rules_of (input r)) (rules_of (input s)) (two_numbers r.id.0 s.id.0 before)) (routers_rise net sound)))

  -- of records that have a unit each
  of_records : {R I : Type 0} (number : R → ObjId) (rs : List R) → OfPairs (Before number) rs → (dp_of : I → ObjId) (rules_of : I → List Rule) (input : R → I) → ((r : R) → Contains rs r → OfPairs RulesDiffer (rules_of (input r)))
      → OfPairs Differ (rows_of (λ key i. unit_of (dp_of i) key) rules_of (map (λ r. (number r, input r)) rs))
  of_records {R} {I} number rs rise dp_of rules_of input own =
      kind_apart (λ key i. unit_of (dp_of i) key) rules_of (map (λ r. (number r, input r)) rs)
      (each_of_map (λ (u : ObjId × I). OfPairs RulesDiffer (rules_of u.1)) (λ (r : R). (number r, input r)) rs own)
      (pairs_map (Two (λ (key : ObjId) (i : I). unit_of (dp_of i) key) rules_of) (λ (r : R). (number r, input r)) rs
      (pairs_as (Before number) _ rs
      (λ r s before. two_hints (unit_of (dp_of (input r)) (number r)) (unit_of (dp_of (input s)) (number s)) (rules_of (input r)) (rules_of (input s)) (two_numbers (number r).0 (number s).0 before)) rise))

  pub router_in : OfPairs Differ (router_in_rows net)
  router_in = of_routers (λ (input : ⊤). router_in_rules) (λ router. tt) (λ i. router_in_apart)

  pub router_route : OfPairs Differ (router_route_rows net)
  router_route = of_routers (λ (input : ⊤). router_route_rules) (λ router. tt) (λ i. router_route_apart)

  pub router_nat : OfPairs Differ (router_nat_rows net)
  router_nat = of_routers router_nat_rules (router_nat_input net) router_nat_apart

  pub port_in : OfPairs Differ (port_in_rows net)
  port_in =
      of_records (λ (p : RouterPort). p.id) net.router_ports (router_ports_rise net sound) (λ (i : PortInInput). i.dp) port_in_rules (port_in_input net)
      (λ p there. port_in_apart (port_in_input net p) (router_port_is_sound net sound p there).is (free_low net sound p there))

  pub port_route : OfPairs Differ (port_route_rows net)
  port_route =
      of_records (λ (p : RouterPort). p.id) net.router_ports (router_ports_rise net sound) (λ (i : PortRouteInput). i.dp) port_route_rules port_route_input
      (λ p there. let is = router_port_is_sound net sound p there in port_route_apart (port_route_input p) is.is is.apart)

  pub static_route : OfPairs Differ (static_route_rows net)
  static_route = of_records (λ (r : Route). r.id) net.routes (routes_rise net sound) (λ (i : StaticRouteInput). i.dp) static_route_rules (static_route_input net) (λ r there. static_route_apart (static_route_input net r))

  pub nat_rule : OfPairs Differ (nat_rule_rows net)
  nat_rule = of_records (λ (n : Nat). n.id) net.nats (nats_rise net sound) (λ (i : NatRuleInput). i.dp) nat_rules nat_rule_input (λ n there. nat_apart (nat_rule_input n))

  -- ---- static bindings

  -- a binding of one port is none of another
  two_bindings : (p q : RouterPort) → p.id.0 < q.id.0 → (b c : Binding) → Contains (bindings_of net p) b → Contains (bindings_of net q) c → b.id.0 ≢ c.id.0
  two_bindings p q before b c of_p of_q e =
      let number : Binding → ObjId = λ x. x.id in
      let own : (x : Binding) → Contains net.bindings x → record_of number x.id net.bindings ≡ Some x = λ x there. own_record number x net.bindings (rises number net.bindings sound.numbered.order.bindings) there in
      let in_net : (port : RouterPort) (x : Binding) → Contains (bindings_of net port) x → Contains net.bindings x = λ port x there. Contains-from_filter (λ (y : Binding). same port.id y.port) net.bindings x there in
      let same_id : b.id ≡ c.id = ap (λ (n : ℕ). record { 0 = n }) e in
      let same_one : Some b ≡ Some c = sym (own b (in_net p b of_p)) ∙ ap (λ (n : ObjId). record_of number n net.bindings) same_id ∙ own c (in_net q c of_q) in
      let port_of_b = eqb-true p.id.0 b.port.0 (kept_passes (λ (y : Binding). same p.id y.port) net.bindings b of_p) in
      let port_of_c = eqb-true q.id.0 c.port.0 (kept_passes (λ (y : Binding). same q.id y.port) net.bindings c of_q) in
      let one : b ≡ c = cc in
      two_numbers p.id.0 q.id.0 before (port_of_b ∙ ap (λ (x : Binding). x.port.0) one ∙ sym port_of_c)

  pub binding : OfPairs Differ (binding_rows net)
  binding =
      kind_apart (λ (key : ObjId) (i : BindingInput). unit_of i.dp key) binding_rules _ (λ u there. binding_apart u.1)
      (pairs_flat_map (Two (λ (key : ObjId) (i : BindingInput). unit_of i.dp key) binding_rules) (λ port. map (λ (b : Binding). (b.id, binding_input port b)) (bindings_of net port)) net.router_ports
      (every_from_members _ net.router_ports
      (λ port there.
      pairs_map (Two (λ (key : ObjId) (i : BindingInput). unit_of i.dp key) binding_rules) (λ (b : Binding). (b.id, binding_input port b)) (bindings_of net port)
      (pairs_as (Before (λ (b : Binding). b.id)) _ (bindings_of net port)
      (λ b c before. two_hints (unit_of port.router b.id) (unit_of port.router c.id) (binding_rules (binding_input port b)) (binding_rules (binding_input port c)) (two_numbers b.id.0 c.id.0 before))
      (pairs_filter (Before (λ (b : Binding). b.id)) (λ b. same port.id b.port) net.bindings (bindings_rise net sound)))))
      (pairs_as (Before (λ (p : RouterPort). p.id)) _ net.router_ports
      (λ p q before u v in_u in_v.
      let b = Contains-from_map (λ (x : Binding). (x.id, binding_input p x)) (bindings_of net p) u in_u in
      let c = Contains-from_map (λ (x : Binding). (x.id, binding_input q x)) (bindings_of net q) v in_v in
      let hint_of_u : u.0.0 ≡ b.0.id.0 = ap (λ (w : ObjId × BindingInput). w.0.0) (sym b.2) in
      let hint_of_v : v.0.0 ≡ c.0.id.0 = ap (λ (w : ObjId × BindingInput). w.0.0) (sym c.2) in
      two_hints (unit_of u.1.dp u.0) (unit_of v.1.dp v.0) (binding_rules u.1) (binding_rules v.1) (λ e. two_bindings p q before b.0 c.0 b.1 c.1 (sym hint_of_u ∙ e ∙ hint_of_v)))
      (router_ports_rise net sound)))

  -- ---- neighbours

  -- the ports across a port rise
  across_rise : (port : RouterPort) → OfPairs (Before (λ (o : Port). o.id)) (across net port)
  across_rise port = by (peer_port net port)
    where
      by : (peer : Option Port) → OfPairs (Before (λ (o : Port). o.id)) (beside net peer)
      by None = tt
      by (Some peer) = pairs_filter (Before (λ (o : Port). o.id)) (is_beside peer) net.ports (ports_rise net sound)

  -- the rules of neighbours are for their hosts
  of_hosts : (name : List ℕ) (hosts : List Host) (r : Rule) → Contains (map (resolving_rule 100 name) hosts) r → (host : Host) × Contains hosts host × (resolving_rule 100 name host ≡ r)
  of_hosts name hosts r there = Contains-from_map (resolving_rule 100 name) hosts r there

  -- those across two ports
  two_names : (i j : NeighbourInput) → IsTrue (is_object_name i.name) → IsTrue (is_object_name j.name) → AllByRecursion HasLow i.hosts → AllByRecursion HasLow j.hosts → i.name ≢ j.name → Across RulesDiffer (neighbour_rules i) (neighbour_rules j)
  unfolding neighbour_rules
  two_names i j named_i named_j low_i low_j other r s in_r in_s =
      let h = of_hosts i.name i.hosts r in_r in
      let k = of_hosts j.name j.hosts s in_s in
      subst (λ (z : Rule). RulesDiffer z s) h.2
      (subst (λ (z : Rule). RulesDiffer (resolving_rule 100 i.name h.0) z) k.2
      (names_differ i.name j.name h.0 k.0 named_i named_j (every_member HasLow i.hosts h.0 low_i h.1) (every_member HasLow j.hosts k.0 low_j k.1) other))

  module _ (port : RouterPort) (there : Contains net.router_ports port) (other : Port) (is_across : Contains (filter (has_hosts net) (across net port)) other) where
    other_port : Contains net.ports other
    other_port = across_member net port other (Contains-from_filter (has_hosts net) (across net port) other is_across)

    other_low : AllByRecursion HasLow (hosts_at net other)
    other_low = hosts_are_low net sound other other_port

    port_named : IsTrue (is_object_name port.name)
    port_named = (router_port_is_sound net sound port there).is.named

    other_apart : OfPairs RulesDiffer (neighbour_rules (neighbour_input net port other))
    other_apart = neighbour_apart (neighbour_input net port other) port_named other_low (hosts_apart net sound other other_port)

  abbrev for_ports : ObjId × ObjId → NeighbourInput → Unit
  for_ports ports input = unit_of input.dp ports.1

  abbrev unit_across : RouterPort → Port → (ObjId × ObjId) × NeighbourInput
  unit_across port other = ((port.id, other.id), neighbour_input net port other)

  pub neighbour : OfPairs Differ (neighbour_rows net)
  neighbour =
      kind_apart for_ports neighbour_rules _
      (each_of_pieces (λ (u : (ObjId × ObjId) × NeighbourInput). OfPairs RulesDiffer (neighbour_rules u.1)) (λ port. filter (has_hosts net) (across net port)) unit_across net.router_ports other_apart)
      (pairs_flat_map (Two for_ports neighbour_rules) (λ port. map (unit_across port) (filter (has_hosts net) (across net port))) net.router_ports
      (every_from_members _ net.router_ports
      (λ port there.
      pairs_map (Two for_ports neighbour_rules) (unit_across port) (filter (has_hosts net) (across net port))
      (pairs_as (Before (λ (o : Port). o.id)) _ (filter (has_hosts net) (across net port))
      (λ o o' before. two_hints (unit_of port.router o.id) (unit_of port.router o'.id) (neighbour_rules (neighbour_input net port o)) (neighbour_rules (neighbour_input net port o')) (two_numbers o.id.0 o'.id.0 before))
      (pairs_filter (Before (λ (o : Port). o.id)) (has_hosts net) (across net port) (across_rise port)))))
      (pairs_weaker (λ p. Contains net.router_ports p) (λ (p q : RouterPort). p.name ≢ q.name) _ net.router_ports
      (λ p q in_p in_q names u v in_u in_v.
      let o = Contains-from_map (unit_across p) (filter (has_hosts net) (across net p)) u in_u in
      let o' = Contains-from_map (unit_across q) (filter (has_hosts net) (across net q)) v in_v in
      subst (λ (w : (ObjId × ObjId) × NeighbourInput). Two for_ports neighbour_rules w v) o.2
      (subst (λ (w : (ObjId × ObjId) × NeighbourInput). Two for_ports neighbour_rules (unit_across p o.0) w) o'.2
      (across_rules (unit_of p.router o.0.id) (unit_of q.router o'.0.id) (neighbour_rules (neighbour_input net p o.0)) (neighbour_rules (neighbour_input net q o'.0))
      (two_names (neighbour_input net p o.0) (neighbour_input net q o'.0) (port_named p in_p o.0 o.1) (port_named q in_q o'.0 o'.1) (other_low p in_p o.0 o.1) (other_low q in_q o'.0 o'.1) names))))
      (every_from_members (λ p. Contains net.router_ports p) net.router_ports (λ p there. there)) (names_apart net sound)))

  -- ---- load balancers

  -- what load balancers give at routers: units of two routers, of two load balancers, and those of one
  module _ {S K I : Type 0} (rules_of : I → List Rule) (pieces : Lb → List S) (key_of : S → K) (input : Lb → S → I) where
    abbrev for_lb : ObjId × K × ObjId → I → Unit
    for_lb key i = unit_of key.2 key.0

    abbrev unit_at : Router → Lb → S → (ObjId × K × ObjId) × I
    unit_at router lb s = ((lb.id, key_of s, router.id), input lb s)

    abbrev of_lb : Router → Lb → List ((ObjId × K × ObjId) × I)
    of_lb router lb = map (unit_at router lb) (pieces lb)

    -- a unit of these
    from_router : (router : Router) (u : (ObjId × K × ObjId) × I) → Contains (flat_map (of_lb router) (lbs_of net router.id)) u → u.0.2.0 ≡ router.id.0
    from_router router u there =
        each_of_pieces (λ (w : (ObjId × K × ObjId) × I). w.0.2.0 ≡ router.id.0) pieces (unit_at router) (lbs_of net router.id) (λ lb attached s in_lb. refl) u there

    from_lb : (router : Router) (lb : Lb) (u : (ObjId × K × ObjId) × I) → Contains (of_lb router lb) u → u.0.0.0 ≡ lb.id.0
    from_lb router lb u there = each_of_map (λ (w : (ObjId × K × ObjId) × I). w.0.0.0 ≡ lb.id.0) (unit_at router lb) (pieces lb) (λ s in_lb. refl) u there

    of_balancers_apart : ((i : I) → OfPairs RulesDiffer (rules_of i)) → ((lb : Lb) → Contains net.lbs lb → OfPairs (λ s t. Across RulesDiffer (rules_of (input lb s)) (rules_of (input lb t))) (pieces lb))
        → OfPairs Differ (rows_of for_lb rules_of (of_balancers net of_lb))
    of_balancers_apart own one_lb =
        kind_apart for_lb rules_of _ (λ u there. own u.1)
        (pairs_flat_map (Two for_lb rules_of) (λ (router : Router). flat_map (of_lb router) (lbs_of net router.id)) net.routers
        (every_from_members _ net.routers
        (λ router there.
        pairs_flat_map (Two for_lb rules_of) (of_lb router) (lbs_of net router.id)
        (every_from_members _ (lbs_of net router.id)
        (λ lb attached.
        pairs_map (Two for_lb rules_of) (unit_at router lb) (pieces lb)
        (pairs_as (λ s t. Across RulesDiffer (rules_of (input lb s)) (rules_of (input lb t))) _ (pieces lb)
        (λ s t differ. across_rules (unit_of router.id lb.id) (unit_of router.id lb.id) (rules_of (input lb s)) (rules_of (input lb t)) differ) (one_lb lb (attached_member net sound router lb attached)))))
        (pairs_as (Before (λ (b : Lb). b.id)) _ (lbs_of net router.id)
        (λ b c before u v in_u in_v.
        two_hints (for_lb u.0 u.1) (for_lb v.0 v.1) (rules_of u.1) (rules_of v.1) (λ e. two_numbers b.id.0 c.id.0 before (sym (from_lb router b u in_u) ∙ e ∙ from_lb router c v in_v)))
        (pairs_filter (Before (λ (b : Lb). b.id)) (is_attached net router.id) net.lbs (lbs_rise net sound)))))
        (pairs_as (Before (λ (r : Router). r.id)) _ net.routers
        (λ r s before u v in_u in_v.
        two_dps (for_lb u.0 u.1) (for_lb v.0 v.1) (rules_of u.1) (rules_of v.1) (λ e. two_numbers r.id.0 s.id.0 before (sym (from_router r u in_u) ∙ e ∙ from_router s v in_v)))
        (routers_rise net sound)))

  -- the rule of a VIP
  only_rule : (i : VipInput) (r : Rule) → Contains (vip_router_rules i) r → balancing_rule i ≡ r
  unfolding vip_router_rules
  only_rule i r there = by (is_empty i.backends) there
    where
      first : (balancing_rule i ≡ r) ⊎ Contains [] r → balancing_rule i ≡ r
      first (inl is) = is
      first (inr none) = absurd (one_of_none r none)

      by : (b : Bool) → Contains (if b then [] else balancing_rule i ∷ []) r → balancing_rule i ≡ r
      by true none = absurd (one_of_none r none)
      by false at = first (one_of (balancing_rule i) [] r at)

  pub vip_router : OfPairs Differ (vip_router_rows net)
  vip_router =
      of_balancers_apart vip_router_rules (λ (lb : Lb). lb.vips) (λ (vip : Vip). vip.at) vip_input vip_router_apart
      (λ lb there.
      pairs_weaker IsSoundVip (OtherVips net sound) _ lb.vips
      (λ a b of_a of_b other r s in_r in_s.
      subst (λ (z : Rule). RulesDiffer z s) (only_rule (vip_input lb a) r in_r)
      (subst (λ (z : Rule). RulesDiffer (balancing_rule (vip_input lb a)) z) (only_rule (vip_input lb b) s in_s)
      (vips_differ LrInDnat (balancing_rule (vip_input lb a)).actions (balancing_rule (vip_input lb b)).actions (vip_input lb a) (vip_input lb b) (opens_printable (vip_input lb a) of_a.low of_a.service) (opens_printable (vip_input lb b) of_b.low of_b.service) other)))
      (vips_are_sound net sound lb there) (vips_apart net sound lb there))

  -- the rule of an address
  only_arp : (i : VipAddrInput) (r : Rule) → Contains (vip_addr_rules i) r → arp_rule_for i.addr ≡ r
  unfolding vip_addr_rules
  only_arp i r there = first (one_of (arp_rule_for i.addr) [] r there)
    where
      first : (arp_rule_for i.addr ≡ r) ⊎ Contains [] r → arp_rule_for i.addr ≡ r
      first (inl is) = is
      first (inr none) = absurd (one_of_none r none)

  -- each address once
  once_apart : (vips : List Vip) → OfPairs (λ (a b : Ip4). a.0 ≢ b.0) (addresses_once vips)
  once_apart [] = tt
  once_apart (vip ∷ vips) = (
    every_from_members (λ (b : Ip4). vip.at.addr.0 ≢ b.0) (filter (λ (b : Ip4). not (eqb vip.at.addr.0 b.0)) (addresses_once vips))
        (λ b there e. false≢true (sym (not-true (eqb vip.at.addr.0 b.0) (kept_passes (λ (b : Ip4). not (eqb vip.at.addr.0 b.0)) (addresses_once vips) b there)) ∙ eq-eqb vip.at.addr.0 b.0 e)),
    pairs_filter (λ (a b : Ip4). a.0 ≢ b.0) (λ (b : Ip4). not (eqb vip.at.addr.0 b.0)) (addresses_once vips) (once_apart vips),
  )

  pub vip_addr : OfPairs Differ (vip_addr_rows net)
  vip_addr =
      of_balancers_apart vip_addr_rules (λ (lb : Lb). addresses_once lb.vips) (λ (addr : Ip4). addr) (λ lb addr. vip_addr_input addr) vip_addr_apart
      (λ lb there.
      pairs_weaker IsLow (λ (a b : Ip4). a.0 ≢ b.0) _ (addresses_once lb.vips)
      (λ a b low_a low_b other r s in_r in_s.
      subst (λ (z : Rule). RulesDiffer z s) (only_arp (vip_addr_input a) r in_r) (subst (λ (z : Rule). RulesDiffer (arp_rule_for a) z) (only_arp (vip_addr_input b) s in_s) (addrs_differ a b low_a low_b other)))
      (once_low net sound lb.vips (vips_are_sound net sound lb there)) (once_apart lb.vips))
