-- The machine runs the rules of the routers of a network.
use Rattle.std.proofs.Common.{◌≡◌, ℕ, ◌<◌, ◌^◌, Bool, true, false, cond, List, [], ◌∷◌, sym, ap, refl, subst, ◌∙◌}
use Rattle.std.specs.Prelude.{◌==◌, ◌&&◌, Option, Some, None, is_some, nat_le, nat_lt}
use Rattle.std.specs.Bool.{IsTrue}
use Rattle.std.specs.List.{AllByRecursion, Contains, list_all}
use Rattle.std.proofs.lemmas.Bool.{and_parts, lt-ltb}
use Rattle.std.proofs.lemmas.Option.{same_Some, none-some}
use Rattle.nv_base.specs.Block.{Block}
use Rattle.nv_base.specs.Name.{is_quotable}
use Rattle.nv_base.specs.declared.ip4.Ip4.{Ip4}
use Rattle.nv_base.specs.declared.object.ObjId.{ObjId}
use Rattle.expr_core.specs.Lookup.{Lookup}
use Rattle.act_core.specs.WellFormed.{is_step, is_well_formed}
use Rattle.nb_records.specs.declared.balancer.Lb.{Lb}
use Rattle.nb_records.specs.declared.balancer.Vip.{Vip}
use Rattle.nb_records.specs.declared.router.Binding.{Binding}
use Rattle.nb_records.specs.declared.router.Nat.{Nat}
use Rattle.nb_records.specs.declared.router.Route.{Route}
use Rattle.nb_records.specs.declared.router.RouterPort.{RouterPort}
use Rattle.nb_records.specs.declared.switch.Port.{Port}
use Rattle.nb_model.specs.Belongs.{is_snat, peer_port, same_block}
use Rattle.nb_model.specs.Names.{names}
use Rattle.nb_model.specs.Network.{Network, same}
use Rattle.nb_model.specs.Readable.{is_block, is_ip4, is_logical, is_mac}
use Rattle.nb_read.specs.Readings.{cleared}
use Rattle.nb_model.specs.Sound.{IsSound}
use Rattle.nb_model.proofs.Readable.{of_binding}
use Rattle.nb_router.specs.Vocabulary.{dnats, is_attached, lbs_of, nats_of, ports_of}
use Rattle.nv_table.proofs.Found.{found_there}
use Rattle.sb_model.specs.Stage.{all_stages, next_stage, pipeline_of, stage_at}
use Rattle.sb_model.specs.declared.row.Row.{Row}
use Rattle.net_router.specs.Routing as meaning
use Rattle.net_router.specs.Routing.{asking, is_exit}
use Rattle.net_rows.specs.Build.{vip_input}
use Rattle.net_rows.specs.LoadBalancers.{balances_to}
use Rattle.net_rows.specs.declared.inputs.VipInput.{VipInput}
use Rattle.net_rows.specs.declared.rule.Rule.{Rule}
use Rattle.net_rows.proofs.Elements.{one_first, one_of_none, Contains-from_filter, Contains-from_map}
use Rattle.net_rows.proofs.Pairs.{every_member}
use Rattle.net_rows.proofs.Sound.{each_passes}
use Rattle.lr_rows.specs.Balancers.{balancing_rule}
use Rattle.lr_rows.specs.Make.{arp_rule_for}
use Rattle.lr_rows.specs.Input.{echo_rule, learning_rule, own_arp_rule, own_source_rule}
use Rattle.lr_rows.specs.Nat.{router_nat_rules}
use Rattle.lr_rows.specs.Neighbours.{neighbour_rules, resolving_rule}
use Rattle.lr_rows.specs.Routes.{network_rule, static_rule}
use Rattle.lr_rows.specs.declared.inputs.Exit.{Exit}
use Rattle.lr_rows.specs.declared.inputs.Host.{Host}
use Rattle.lr_rows.specs.declared.inputs.NatRuleInput.{NatRuleInput}
use Rattle.lr_rows.specs.declared.inputs.PortInInput.{PortInInput}
use Rattle.lr_rows.specs.declared.inputs.PortRouteInput.{PortRouteInput}
use Rattle.lr_rows.specs.declared.inputs.StaticRouteInput.{StaticRouteInput}
use Rattle.lr_units.specs.Units.{binding_input, nat_rule_input, port_in_input, port_route_input, static_route_input, vip_addr_input}
use Rattle.lr_units.specs.Words.{across, beside, free_addresses, hosts_at, is_beside}
use Rattle.lr_units.proofs.SoundRouters.{router_port_is_sound}
use Rattle.ls_laws.proofs.ChosenVips.{vip_is}
use Rattle.ls_laws.proofs.VipTargets.{balances_formed}
use Rattle.tr_stage.specs.Machine.{number_of}
use Rattle.tr_pipe.specs.Runnable.{are_run}
use Rattle.lr_laws.proofs.Exits.{exit_of, exit-from, exit-none}
use Rattle.lr_laws.proofs.Hosts.{mac_at-from}
use Rattle.lr_laws.proofs.OwnRules.{IsStaticRule, binding_rule-gives, static_rule-gives}
use Rattle.lr_laws.proofs.PortRules.{IsPortSays, admitting_rule, delivery_rule, expiring_rule, own_address_rule, port_has_net, port_rule-gives, refusing_rule, reset_rule, unreachable_rule}
use Rattle.lr_laws.proofs.PortRules.IsPortSays.{Admits, Learns, OwnSource, OwnArp, Echoes, Resets, Unreachable, Refuses, Expires, OwnAddress, ToNetwork, DeliversTo}
use Rattle.lr_laws.proofs.Ports.{number_of_port}
use Rattle.lr_laws.proofs.Tables.{IsRule, own_rules}
use Rattle.lr_laws.proofs.Tables.IsRule.{OfRouter, OfPort, OfRoute, OfBinding, OfNeighbour, OfTranslation}
use Rattle.lr_laws.proofs.Tables.Translates.{OfNat, OfVip, OfVipAddr}
use Rattle.lr_laws.proofs.TranslationRules.{IsNatSays, back_rule, hiding_rule, nat_rule-gives, redirecting_rule, vip_addr_rule-gives, vip_rule-gives}
use Rattle.lr_laws.proofs.TranslationRules.IsNatSays.{Answers, GivesBack, Hides, Redirects}
use Rattle.tr_router.proofs.Hops.{asking_fits, block_of, nexthop_fits}
use Rattle.tr_router.proofs.Macs.{at_fits, mac_is}
use Rattle.tr_router.proofs.Networks.{mac_fits}

-- the machine runs the actions of the rule, which are well-formed
pub record IsRun (known : Lookup) (says : Rule) : Type 0 where
  pub formed : IsTrue (is_well_formed says.actions)
  pub run : IsTrue (are_run known says.stage says.actions)

module _ (known : Lookup) where
  abbrev is_run : Rule → Bool
  is_run says = is_well_formed says.actions && are_run known says.stage says.actions

  one_run : (says : Rule) → IsTrue (is_run says) → IsRun known says
  one_run says is = let parts = and_parts (is_well_formed says.actions) (are_run known says.stage says.actions) is in record { formed = parts.0; run = parts.1 }

  all_run : (rules : List Rule) → IsTrue (list_all is_run rules) → AllByRecursion (IsRun known) rules
  all_run [] all = tt
  all_run (says ∷ rules) all = let parts = and_parts (is_run says) (list_all is_run rules) all in (one_run says parts.0, all_run rules parts.1)

  -- ---- the rules of each router

  own_run : (dnats : Bool) → AllByRecursion (IsRun known) (own_rules dnats)
  unfolding router_nat_rules next_stage stage_at all_stages pipeline_of
  own_run true = all_run (own_rules true) refl
  own_run false = all_run (own_rules false) refl

  -- ---- those of ports

  module _ (input : PortInInput) where
    admitting_run : nat_lt input.mac (2 ^ 48) ≡ true → IsRun known (admitting_rule input)
    unfolding next_stage stage_at all_stages
    admitting_run fits = one_run (admitting_rule input) (rw fits refl)

    learning_run : IsRun known (learning_rule input)
    unfolding next_stage stage_at all_stages
    learning_run = one_run (learning_rule input) refl

    own_source_run : IsRun known (own_source_rule input)
    own_source_run = one_run (own_source_rule input) refl

    own_arp_run : IsRun known (own_arp_rule input)
    own_arp_run = one_run (own_arp_rule input) refl

    echo_run : IsRun known (echo_rule input)
    unfolding pipeline_of
    echo_run = one_run (echo_rule input) refl

  module _ (addrs : List Ip4) where
    reset_run : IsRun known (reset_rule addrs)
    reset_run = one_run (reset_rule addrs) refl

    unreachable_run : IsRun known (unreachable_rule addrs)
    unreachable_run = one_run (unreachable_rule addrs) refl

    refusing_run : IsRun known (refusing_rule addrs)
    refusing_run = one_run (refusing_rule addrs) refl

  expiring_run : (name : List ℕ) (first : Ip4) → nat_lt first.0 (2 ^ 32) ≡ true → IsRun known (expiring_rule name first)
  expiring_run name first fits = one_run (expiring_rule name first) (rw fits refl)

  own_address_run : (input : PortRouteInput) → IsRun known (own_address_rule input)
  own_address_run input = one_run (own_address_rule input) refl

  delivery_run : (name : List ℕ) → IsRun known (delivery_rule name)
  delivery_run name = one_run (delivery_rule name) refl

  -- a port by which packets leave: its name is quotable and known, and its numbers fit
  record IsWayOut (exit : Exit) : Type 0 where
    quotable : is_quotable exit.name ≡ true
    known_as : is_some (number_of known exit.name) ≡ true
    mac : nat_lt exit.mac (2 ^ 48) ≡ true
    addr : nat_lt exit.addr.0 (2 ^ 32) ≡ true

  network_run : (input : PortRouteInput) (own : Block) → IsWayOut (record { name = input.name; mac = input.mac; addr = own.base }) → IsRun known (network_rule input own)
  unfolding next_stage stage_at all_stages
  network_run input own out = one_run (network_rule input own) (rw (out.quotable, out.known_as, out.mac, out.addr) refl)

  static_run : (input : StaticRouteInput) (exit : Exit) → nat_lt input.nexthop.0 (2 ^ 32) ≡ true → IsWayOut exit → IsRun known (static_rule input exit)
  unfolding next_stage stage_at all_stages
  static_run input exit fits out = one_run (static_rule input exit) (rw (fits, out.quotable, out.known_as, out.mac, out.addr) refl)

  resolving_run : (priority : ℕ) (name : List ℕ) (host : Host) → nat_lt host.mac (2 ^ 48) ≡ true → IsRun known (resolving_rule priority name host)
  unfolding next_stage stage_at all_stages
  resolving_run priority name host fits = one_run (resolving_rule priority name host) (rw fits refl)

  -- ---- those of translation

  answering_run : (addr : Ip4) → IsRun known (arp_rule_for addr)
  answering_run addr = one_run (arp_rule_for addr) refl

  back_run : (input : NatRuleInput) → IsRun known (back_rule input)
  unfolding next_stage stage_at all_stages
  back_run input = one_run (back_rule input) refl

  hiding_run : (input : NatRuleInput) → nat_lt input.external.0 (2 ^ 32) ≡ true → IsRun known (hiding_rule input)
  unfolding next_stage stage_at all_stages
  hiding_run input fits = one_run (hiding_rule input) (rw fits refl)

  redirecting_run : (input : NatRuleInput) → nat_lt input.logical.base.0 (2 ^ 32) ≡ true → IsRun known (redirecting_rule input)
  unfolding next_stage stage_at all_stages
  redirecting_run input fits = one_run (redirecting_rule input) (rw fits refl)

  balancing_run : (input : VipInput) → is_step (balances_to input.backends) ≡ true → IsRun known (balancing_rule input)
  unfolding next_stage stage_at all_stages
  balancing_run input formed = one_run (balancing_rule input) (rw formed refl)

-- the ports across a router port are ports of switches
across_there : (net : Network) (port : RouterPort) (other : Port) → Contains (across net port) other → Contains net.ports other
across_there net port other = by (peer_port net port)
  where
    by : (peer : Option Port) → Contains (beside net peer) other → Contains net.ports other
    by None there = absurd (one_of_none other there)
    by (Some peer) there = Contains-from_filter (is_beside peer) net.ports other there

module _ (net : Network) (sound : IsSound net) where
  abbrev Runs : Rule → Type 0
  Runs says = IsRun (names net) says

  -- a way out by a port of a router
  way_out : (port : RouterPort) → Contains net.router_ports port → (addr : Ip4) → addr.0 < 2 ^ 32 → IsWayOut (names net) (exit_of port addr)
  way_out port there addr fits = record {
    quotable = rw (router_port_is_sound net sound port there).is.named refl;
    known_as = ap is_some (number_of_port net sound port there);
    mac = lt-ltb port.mac (2 ^ 48) (mac_fits net sound port there);
    addr = lt-ltb addr.0 (2 ^ 32) fits;
  }

  of_port : (port : RouterPort) → Contains net.router_ports port → (says : Rule) → IsPortSays net port says → Runs says
  of_port port there says (Admits enabled is) = subst Runs (sym is) (admitting_run (names net) (port_in_input net port) (lt-ltb port.mac (2 ^ 48) (mac_fits net sound port there)))
  of_port port there says (Learns is) = subst Runs (sym is) (learning_run (names net) (port_in_input net port))
  of_port port there says (OwnSource is) = subst Runs (sym is) (own_source_run (names net) (port_in_input net port))
  of_port port there says (OwnArp is) = subst Runs (sym is) (own_arp_run (names net) (port_in_input net port))
  of_port port there says (Echoes is) = subst Runs (sym is) (echo_run (names net) (port_in_input net port))
  of_port port there says (Resets is) = subst Runs (sym is) (reset_run (names net) (free_addresses net port))
  of_port port there says (Unreachable is) = subst Runs (sym is) (unreachable_run (names net) (free_addresses net port))
  of_port port there says (Refuses is) = subst Runs (sym is) (refusing_run (names net) (free_addresses net port))
  of_port port there says (Expires first rest nets is) = subst Runs (sym is) (expiring_run (names net) port.name first.base (lt-ltb first.base.0 (2 ^ 32) first_fits))
    where
      first_fits : first.base.0 < 2 ^ 32
      first_fits = block_of net sound port there first (subst (λ ns. Contains ns first) (sym nets) (one_first first rest first refl))
  of_port port there says (OwnAddress is) = subst Runs (sym is) (own_address_run (names net) (port_route_input port))
  of_port port there says (ToNetwork own at is) = subst Runs (sym is) (network_run (names net) (port_route_input port) own (way_out port there own.base (block_of net sound port there own at)))
  of_port port there says (DeliversTo enabled is) = subst Runs (sym is) (delivery_run (names net) port.name)

  -- ---- those of static routes

  of_route : (route : Route) → Contains net.routes route → (says : Rule) → IsStaticRule (static_route_input net route) says → Runs says
  of_route route there says said = by (meaning.exit_of net route) refl
    where
      input : StaticRouteInput
      input = static_route_input net route

      by : (found : Option RouterPort) → meaning.exit_of net route ≡ found → Runs says
      by None found = absurd (none-some said.exit (sym (exit-none net sound route found) ∙ said.found))
      by (Some port) found = subst Runs (sym (said.is ∙ ap (static_rule (static_route_input net route)) exit_is)) (static_run (names net) (static_route_input net route) (exit_of port from) (lt-ltb route.nexthop.0 (2 ^ 32) (nexthop_fits net sound route there)) (way_out port at from (asking_fits net sound port at route.nexthop)))
        where
          at : Contains net.router_ports port
          at = Contains-from_filter (λ (p : RouterPort). same route.router p.router) net.router_ports port (found_there (is_exit route route.port) port (ports_of net route.router) found).0

          from : Ip4
          from = asking port route.nexthop

          exit_is : said.exit ≡ exit_of port from
          exit_is = same_Some said.exit (exit_of port from) (sym said.found ∙ exit-from net sound route port (port_has_net net sound port at) found)

  -- ---- those of bindings and neighbours

  of_binding_run : (port : RouterPort) (binding : Binding) → Contains net.bindings binding → (says : Rule) → says ≡ resolving_rule 150 port.name (record { mac = binding.mac; addr = binding.addr }) → Runs says
  of_binding_run port binding there says is =
      let fits = mac_is binding.mac (and_parts (is_ip4 binding.addr) (is_mac binding.mac) (each_passes of_binding net.bindings binding sound.readable.bindings there)).1 in
      subst Runs (sym is) (resolving_run (names net) 150 port.name (record { mac = binding.mac; addr = binding.addr }) (lt-ltb binding.mac (2 ^ 48) fits))

  of_neighbour_run : (port : RouterPort) (other : Port) → Contains net.ports other → (own : Host) → Contains (hosts_at net other) own → (says : Rule) → says ≡ resolving_rule 100 port.name own → Runs says
  of_neighbour_run port other there own at says is =
      let fits = at_fits net sound own.addr other there own.mac (mac_at-from net sound other there own at) in
      subst Runs (sym is) (resolving_run (names net) 100 port.name own (lt-ltb own.mac (2 ^ 48) fits))

  -- ---- those of translation

  nat_fits : (nat : Nat) → Contains net.nats nat → IsTrue (is_ip4 nat.external) × IsTrue (is_logical nat.kind nat.logical)
  nat_fits nat there = and_parts (is_ip4 nat.external) (is_logical nat.kind nat.logical) (each_passes (λ (n : Nat). is_ip4 n.external && is_logical n.kind n.logical) net.nats nat sound.readable.nats there)

  base_fits : (b : Bool) (block : Block) → IsTrue (cond b (is_block block && same_block block (cleared block)) (is_ip4 block.base && (block.len == 32))) → IsTrue (is_ip4 block.base)
  base_fits true block is = (and_parts (is_ip4 block.base) (nat_le block.len 32) (and_parts (is_block block) (same_block block (cleared block)) is).0).0
  base_fits false block is = (and_parts (is_ip4 block.base) (block.len == 32) is).0

  of_nat : (router : ObjId) (nat : Nat) → Contains (nats_of net router) nat → (says : Rule) → IsNatSays (nat_rule_input nat) says → Runs says
  of_nat router nat own says (Answers is) = subst Runs (sym is) (answering_run (names net) nat.external)
  of_nat router nat own says (GivesBack changes is) = subst Runs (sym is) (back_run (names net) (nat_rule_input nat))
  of_nat router nat own says (Hides changes is) =
      subst Runs (sym is) (hiding_run (names net) (nat_rule_input nat) (nat_fits nat (Contains-from_filter (λ (n : Nat). same router n.router) net.nats nat own)).0)
  of_nat router nat own says (Redirects changes is) =
      subst Runs (sym is)
      (redirecting_run (names net) (nat_rule_input nat) (base_fits (is_snat nat.kind) nat.logical (nat_fits nat (Contains-from_filter (λ (n : Nat). same router n.router) net.nats nat own)).1))

  of_vip : (router : ObjId) (lb : Lb) → Contains (lbs_of net router) lb → (vip : Vip) → Contains lb.vips vip → Runs (balancing_rule (vip_input lb vip))
  of_vip router lb own vip in_lb =
      balancing_run (names net) (vip_input lb vip) (balances_formed vip (vip_is net sound (is_attached net router) lb own vip in_lb))

  -- ---- the rows

  said : (says : Rule) (row : Row) → Runs says → says.stage ≡ row.stage → says.actions ≡ row.actions → IsTrue (is_well_formed row.actions) × IsTrue (are_run (names net) row.stage row.actions)
  said says row is stage actions =
      (subst (λ done. IsTrue (is_well_formed done)) actions is.formed, subst (λ s. IsTrue (are_run (names net) s row.actions)) stage (subst (λ done. IsTrue (are_run (names net) says.stage done)) actions is.run))

  -- the machine runs the actions of each row of a router, which are well-formed
  pub row_runs : (router : ObjId) (row : Row) → IsRule net router row.stage row → IsTrue (is_well_formed row.actions) × IsTrue (are_run (names net) row.stage row.actions)
  unfolding neighbour_rules
  row_runs router row (OfRouter of) =
      said of.says row (every_member (IsRun (names net)) (own_rules (dnats net router)) of.says (own_run (names net) (dnats net router)) of.in_rules) of.of_stage (ap (λ (r : Row). r.actions) (sym of.is))
  row_runs router row (OfPort of) =
      said of.says row (of_port of.port of.among of.says (port_rule-gives net of.port (port_has_net net sound of.port of.among) of.says of.in_rules)) of.of_stage (ap (λ (r : Row). r.actions) (sym of.is))
  row_runs router row (OfRoute of) =
      said of.says row (of_route of.route of.among of.says (static_rule-gives (static_route_input net of.route) of.says of.in_rules)) of.of_stage (ap (λ (r : Row). r.actions) (sym of.is))
  row_runs router row (OfBinding of) =
      said of.says row
      (of_binding_run of.port of.binding (Contains-from_filter (λ (b : Binding). same of.port.id b.port) net.bindings of.binding of.in_port) of.says (binding_rule-gives (binding_input of.port of.binding) of.says of.in_rules))
      of.of_stage (ap (λ (r : Row). r.actions) (sym of.is))
  row_runs router row (OfNeighbour of) =
      let from = Contains-from_map (resolving_rule 100 of.port.name) (hosts_at net of.other) of.says of.in_rules in
      said of.says row (of_neighbour_run of.port of.other (across_there net of.port of.other of.across_it) from.0 from.1 of.says (sym from.2)) of.of_stage (ap (λ (r : Row). r.actions) (sym of.is))
  row_runs router row (OfTranslation (OfNat of)) = said of.says row (of_nat router of.nat of.among of.says (nat_rule-gives (nat_rule_input of.nat) of.says of.in_rules)) of.of_stage (ap (λ (r : Row). r.actions) (sym of.is))
  row_runs router row (OfTranslation (OfVip of)) =
      said of.says row (subst Runs (sym (vip_rule-gives (vip_input of.lb of.vip) of.says of.in_rules).is) (of_vip router of.lb of.among of.vip of.in_lb)) of.of_stage (ap (λ (r : Row). r.actions) (sym of.is))
  row_runs router row (OfTranslation (OfVipAddr of)) =
      said of.says row (subst Runs (sym (vip_addr_rule-gives (vip_addr_input of.addr) of.says of.in_rules)) (answering_run (names net) of.addr)) of.of_stage (ap (λ (r : Row). r.actions) (sym of.is))
