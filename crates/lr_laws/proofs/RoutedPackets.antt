-- A packet of IPv4 is routed as the meaning says.
use Rattle.std.proofs.Common.{◌≡◌, ℕ, ◌+◌, ◌-◌, ◌*◌, ◌<◌, ◌≤◌, Bool, true, false, cond, List, [], ◌∷◌, map, sym, ap, refl, ◌∙◌, subst, ◌⊎◌, inl, inr, lit<, arith}
use Rattle.std.specs.Prelude.{◌&&◌, Option, Some, None, fold, option_map}
use Rattle.std.specs.List.{Contains}
use Rattle.std.proofs.lemmas.Bool.{false≢true, and_from, and_parts, eq-eqb, eqb-true}
use Rattle.std.proofs.lemmas.Option.{same_Some, none-some}
use Rattle.nv_base.specs.Block.{Block}
use Rattle.nv_base.specs.Ip4.{address}
use Rattle.nv_base.specs.declared.field.Field.TheVariants.{Outport, FlagsLoopback, EthSrc, IpTtl, Ip4Src, Ip4Dst, Reg0, Reg1}
use Rattle.nv_base.specs.declared.ip4.Ip4.{Ip4}
use Rattle.nv_base.specs.declared.object.ObjId.{ObjId}
use Rattle.pkt_core.specs.Packet.{Values, value, with_value, with_values}
use Rattle.pkt_core.specs.Prerequisite.{is_ip4}
use Rattle.act_core.specs.declared.step.Step.{Step}
use Rattle.act_core.specs.declared.step.Step.TheVariants as act
use Rattle.expr_eval.specs.MatchMeaning.{holds}
use Rattle.nb_read.specs.Readings.{cleared}
use Rattle.nb_records.specs.declared.router.Route.{Route}
use Rattle.nb_records.specs.declared.router.RouteBy.{RouteBy}
use Rattle.nb_records.specs.declared.router.RouteBy.TheVariants.{Dst, Src}
use Rattle.nb_records.specs.declared.router.Router.{Router}
use Rattle.nb_records.specs.declared.router.RouterPort.{RouterPort}
use Rattle.nb_model.specs.Belongs.{same_policy}
use Rattle.nb_model.specs.Names.{names}
use Rattle.nb_model.specs.Network.{Network, same}
use Rattle.nb_router.specs.Vocabulary.{dnats, addresses_at, ports_of}
use Rattle.nv_table.proofs.Found.{found_there}
use Rattle.sb_model.specs.Make.{drops, in_decimal, steps, takes_each}
use Rattle.sb_model.specs.Stage.{all_stages, next_stage, stage_at, stage_place}
use Rattle.sb_model.specs.declared.row.Row.{Row}
use Rattle.sb_model.specs.declared.stage.Stage.{Stage}
use Rattle.sb_model.specs.declared.stage.Stage.TheVariants.{LrInIpRouting, LrInArpResolve}
use Rattle.net_meaning.specs.Switches.{is_among_ips}
use Rattle.net_meaning.specs.declared.cause.Cause.TheVariants.{NoRoute}
use Rattle.net_router.specs.Input.{is_in_network, is_own}
use Rattle.net_router.specs.Routing as meaning
use Rattle.net_router.specs.Routing.{Hop, Way, asking, hop_by, hop_for, is_exit, longer, takes, ways}
use Rattle.net_rows.specs.Unit.{row_of, rule, unit_of, unit_of_datapath}
use Rattle.net_rows.specs.declared.rule.Rule.{Rule}
use Rattle.net_rows.proofs.Elements.{one_first, one_of_none, Contains-from_filter}
use Rattle.net_rows.proofs.Pairs.{OfPairs, every_member}
use Rattle.net_rows.proofs.SoundObjects.{IsBlock}
use Rattle.lr_rows.specs.Make.{becomes, is_within}
use Rattle.lr_rows.specs.Nat.{router_nat_rules}
use Rattle.lr_rows.specs.Routes.{by_exit, looked_at, network_rule, router_route_rules, static_route_rules, static_rule}
use Rattle.lr_rows.specs.declared.inputs.Exit.{Exit}
use Rattle.lr_rows.specs.declared.inputs.StaticRouteInput.{StaticRouteInput}
use Rattle.lr_units.specs.Units.{binding_input, neighbour_input, port_route_input, static_route_input}
use Rattle.lr_units.proofs.SoundRouters.{route_is_sound, router_port_is_sound}
use Rattle.ls_laws.proofs.Packets.{other_value}
use Rattle.ls_laws.proofs.RuleStages.{from_rules_at, rules_at, the_only}
use Rattle.tr_stage.specs.Machine as packets
use Rattle.tr_stage.specs.Machine.{number_of}
use Rattle.tr_stage.specs.declared.outcome.Outcome.TheVariants as outcomes
use Rattle.tr_pipe.specs.Machine.{StageEnd, after, done, run_actions, step}
use Rattle.tr_pipe.specs.Machine.StageEnd.{On, Ends}
use Rattle.tr_pipe.specs.Tracking.{Flight, with_packet}
use Rattle.lr_units.specs.Network.{network_rows}
use Rattle.lr_laws.specs.Steps.{IsOnRouter, Routes, flows_at, on_way, sent_by}
use Rattle.lr_laws.proofs.Exits.{exit-from, exit-none, exit_of}
use Rattle.lr_laws.proofs.Networks.{addresses_of_item, cleared_item, network_item}
use Rattle.lr_laws.proofs.OwnAddresses.{HasAddress, own-from, own-gives}
use Rattle.lr_laws.proofs.OwnRules.{IsStaticRule, binding_stage, is_of_hosts, neighbour_stage, own_rule-gives, static_rule-gives}
use Rattle.lr_laws.proofs.PortRules.{IsPortSays, own_address-from, own_address_rule, port_has_net, port_rule-gives, stage_is, stage_said, to_network-from}
use Rattle.lr_laws.proofs.Ports.{number_of_port}
use Rattle.lr_laws.proofs.RouteWays.{IsBy, IsCandidate, IsDirect, IsStatic, candidate-gives, candidates, candidates_pairs, direct-from, direct_candidate, kind_of, looked, rank_is, static-from, static-gives, static_candidate, ways_are}
use Rattle.lr_laws.proofs.StageLayers.{does, step_by_row}
use Rattle.lr_laws.proofs.Tables.{IsPortRule, IsRouteRule, IsRule, own_rules, rows-port_route, rows-route, rows-router_route}
use Rattle.lr_laws.proofs.Tables.IsRule.{OfRouter, OfPort, OfRoute, OfBinding, OfNeighbour, OfTranslation}
use Rattle.lr_laws.proofs.TranslationRules.{translation_stage}
use Rattle.lr_laws.proofs.Ways.{Before, Candidate, IsAfter, IsBest, best_of}

-- the rule of a router
abbrev last_rule : Rule
last_rule = rule LrInIpRouting 0 takes_each drops

of_router : (dnats : Bool) → rules_at LrInIpRouting (own_rules dnats) ≡ last_rule ∷ []
unfolding router_nat_rules stage_place
of_router true = refl
of_router false = refl

of_routes : rules_at LrInIpRouting router_route_rules ≡ last_rule ∷ []
unfolding stage_place
of_routes = refl

-- the rules of a port
abbrev is_routing : Stage → Bool
is_routing LrInIpRouting = true
is_routing _ = false

data IsRouting (port : RouterPort) (rule : Rule) : Type 0 where
  ToItself : rule ≡ own_address_rule (port_route_input port) → IsRouting port rule
  ToNetwork : (net : Block) → Contains port.nets net → rule ≡ network_rule (port_route_input port) net → IsRouting port rule

module _ (net : Network) (port : RouterPort) (rule : Rule) where
  by_said : (of : IsPortSays net port rule) → is_routing (stage_said of) ≡ true → IsRouting port rule
  by_said (IsPortSays.OwnAddress is) stage = ToItself is
  by_said (IsPortSays.ToNetwork own there is) stage = ToNetwork own there is
  by_said _ stage = absurd (false≢true stage)

  routing-gives : IsPortSays net port rule → rule.stage ≡ LrInIpRouting → IsRouting port rule
  routing-gives of of_stage = by_said of (ap is_routing (sym (stage_is net port rule of) ∙ of_stage))

-- the rule of a static route for which a port is found
static_rule-from : (input : StaticRouteInput) (exit : Exit) → input.found ≡ Some exit → Contains (static_route_rules input) (static_rule input exit)
unfolding static_route_rules
static_rule-from input exit found =
    let says = static_rule input exit in
    subst (λ (o : Option Exit). Contains (by_exit (static_rule input) o) says) (sym found) (one_first says [] says refl)

-- policies that are the same are one
policy_is : (a b : RouteBy) → same_policy a b ≡ true → a ≡ b
policy_is Dst Dst is = refl
policy_is Src Src is = refl
policy_is Dst Src is = absurd (false≢true is)
policy_is Src Dst is = absurd (false≢true is)

policy_itself : (by : RouteBy) → same_policy by by ≡ true
policy_itself Dst = refl
policy_itself Src = refl

-- kinds are from 1 to 3
of_policy : (by : RouteBy) → (0 < kind_of by) × (kind_of by < 4)
of_policy Dst = (lit< tt, lit< tt)
of_policy Src = (lit< tt, lit< tt)

module _ (net : Network) (router : Router) (flight : Flight) (on : IsOnRouter net router flight.packet) (ip4 : is_ip4 flight.packet ≡ true) where
  abbrev packet : Values
  packet = flight.packet

  abbrev src : Ip4
  src = address (value packet Ip4Src)

  abbrev dst : Ip4
  dst = address (value packet Ip4Dst)

  abbrev goes : Hop → StageEnd
  goes hop = On LrInArpResolve (with_packet flight (on_way hop packet))

  abbrev dropped : StageEnd
  dropped = Ends (Some (outcomes.Drop NoRoute)) flight.state

  abbrev its_does : Row → StageEnd
  its_does = does net router flight on LrInIpRouting

  -- ---- what rows do

  -- the packet is to leave by a port of this number
  set_outport : (name : List ℕ) (number : ℕ) → number_of (names net) name ≡ Some number → (others : List Step) (before : Flight)
      → run_actions (names net) router.id LrInIpRouting (steps (act.SetOutport name ∷ others)) before
      ≡ run_actions (names net) router.id LrInIpRouting (steps others) (with_packet before (with_value before.packet Outport number))
  set_outport name number is others before = ap (λ o. after (done before (packets.bound_for o before.packet)) (run_actions (names net) router.id LrInIpRouting (steps others))) is

  -- on by a port, for a next host
  abbrev sent : RouterPort → ℕ → ℕ → StageEnd
  sent port via from =
      On LrInArpResolve
      (with_packet flight
      (with_values packet ((IpTtl, value packet IpTtl - 1) ∷ (Reg0, via) ∷ (Reg1, from) ∷ (EthSrc, port.mac) ∷ (Outport, port.id.0) ∷ (FlagsLoopback, 1) ∷ [])))

  abbrev before_port : RouterPort → ℕ → ℕ → Flight
  before_port port via from = with_packet flight (with_values packet ((IpTtl, value packet IpTtl - 1) ∷ (Reg0, via) ∷ (Reg1, from) ∷ (EthSrc, port.mac) ∷ []))

  abbrev after_port : List Step
  after_port = becomes FlagsLoopback (in_decimal 1) ∷ act.Next ∷ []

  by_port : (port : RouterPort) → Contains net.router_ports port → (via from : ℕ) → run_actions (names net) router.id LrInIpRouting (steps (act.SetOutport port.name ∷ after_port)) (before_port port via from) ≡ sent port via from
  unfolding next_stage stage_at all_stages
  by_port port there via from = set_outport port.name port.id.0 (number_of_port net on.sound port there) after_port (before_port port via from)

  static_does : (port : RouterPort) → Contains net.router_ports port → (input : StaticRouteInput) (from : Ip4) → run_actions (names net) router.id LrInIpRouting (static_rule input (exit_of port from)).actions flight
      ≡ goes (hop_by port input.nexthop from)
  static_does port there input from = by_port port there input.nexthop.0 from.0

  direct_does : (port : RouterPort) → Contains net.router_ports port → (own : Block) → run_actions (names net) router.id LrInIpRouting (network_rule (port_route_input port) own).actions flight ≡ goes (hop_by port dst own.base)
  direct_does port there own =
      by_port port there (value (with_value packet IpTtl (value packet IpTtl - 1)) Ip4Dst) own.base.0
      ∙ ap (λ (via : ℕ). sent port via own.base.0) (other_value packet IpTtl Ip4Dst (value packet IpTtl - 1) refl)

  -- ---- matches

  direct_match : (own : Block) → IsBlock own → holds (names net) packet (is_within Ip4Dst (cleared own)) ≡ is_in_network dst.0 own
  direct_match own is = (λ i. ip4 i && cleared_item (names net) dst.0 (on.formed.fits Ip4Dst) own is i)

  static_match : (by : RouteBy) (prefix : Block) → IsBlock prefix → holds (names net) packet (is_within (looked_at by) prefix) ≡ is_in_network (looked by src dst).0 prefix
  static_match Dst prefix is = (λ i. ip4 i && network_item (names net) dst.0 (on.formed.fits Ip4Dst) prefix is i)
  static_match Src prefix is = (λ i. ip4 i && network_item (names net) src.0 (on.formed.fits Ip4Src) prefix is i)

  own_match : (port : RouterPort) → holds (names net) packet (own_address_rule (port_route_input port)).matching ≡ is_among_ips dst.0 (addresses_at port)
  own_match port = (λ i. ip4 i && addresses_of_item (names net) dst.0 port.nets i)

  block_of : (port : RouterPort) → Contains net.router_ports port → (own : Block) → Contains port.nets own → IsBlock own
  block_of port there own at = every_member IsBlock port.nets own (router_port_is_sound net on.sound port there).is.blocks at

  -- ---- the rows that take the packet

  data IsTaker (row : Row) : Type 0 where
    ByWay : (c : Candidate) → Contains (candidates net router.id src dst) c → c.way.len ≤ 32 → 0 < c.kind → c.kind < 4 → row.priority ≡ 4 * c.way.len + c.kind → row.hint.0 ≡ c.hint → its_does row ≡ goes c.way.hop → IsTaker row
    ByOwn : is_own net router.id dst.0 ≡ true → row.priority ≡ 200 → its_does row ≡ dropped → IsTaker row
    ByLast : row.priority ≡ 0 → its_does row ≡ dropped → IsTaker row

  by_port_rule : (row : Row) (of : IsPortRule net router.id LrInIpRouting row) → holds (names net) packet row.matching ≡ true → IsRouting of.port of.says → IsTaker row
  by_port_rule row of takes_it (ToItself is) =
      let row_is : row ≡ row_of (unit_of router.id of.port.id) (own_address_rule (port_route_input of.port)) = of.is ∙ ap (row_of (unit_of router.id of.port.id)) is in
      ByOwn (own-from net router dst.0 of.port (of.among, of.of_router) (sym (own_match of.port) ∙ (sym (ap (λ (r : Row). holds (names net) packet r.matching) row_is) ∙ takes_it))) (ap (λ (r : Row). r.priority) row_is)
      (ap its_does row_is)
  by_port_rule row of takes_it (ToNetwork own there is) =
      let row_is : row ≡ row_of (unit_of router.id of.port.id) (network_rule (port_route_input of.port) own) = of.is ∙ ap (row_of (unit_of router.id of.port.id)) is in
      let block = block_of of.port of.among own there in
      let has : is_in_network dst.0 own ≡ true = sym (direct_match own block) ∙ (sym (ap (λ (r : Row). holds (names net) packet r.matching) row_is) ∙ takes_it) in
      ByWay (direct_candidate net router.id src dst of.port own) (direct-from net router.id src dst of.port of.among of.of_router own there has) block.len (lit< tt) (lit< tt) (ap (λ (r : Row). r.priority) row_is)
      (ap (λ (r : Row). r.hint.0) row_is) (ap its_does row_is ∙ direct_does of.port of.among own)

  -- the port of a route
  port_of_route : (route : Route) (port : RouterPort) → meaning.exit_of net route ≡ Some port → Contains net.router_ports port
  port_of_route route port found =
      Contains-from_filter (λ (p : RouterPort). same route.router p.router) net.router_ports port (found_there (is_exit route route.port) port (ports_of net route.router) found).0

  by_route_rule : (row : Row) (of : IsRouteRule net router.id LrInIpRouting row) → holds (names net) packet row.matching ≡ true → (o : Option RouterPort) → meaning.exit_of net of.route ≡ o → IsStaticRule (static_route_input net of.route) of.says → IsTaker row
  by_route_rule row of takes_it None found said = absurd (none-some said.exit (sym (exit-none net on.sound of.route found) ∙ said.found))
  by_route_rule row of takes_it (Some port) found said =
      let there = port_of_route of.route port found in
      let from = asking port of.route.nexthop in
      let exit_is = same_Some said.exit (exit_of port from) (sym said.found ∙ exit-from net on.sound of.route port (port_has_net net on.sound port there) found) in
      let input : StaticRouteInput = static_route_input net of.route in
      let row_is : row ≡ row_of (unit_of router.id of.route.id) (static_rule input (exit_of port from)) = of.is ∙ ap (row_of (unit_of router.id of.route.id)) (said.is ∙ ap (static_rule input) exit_is) in
      let block = route_is_sound net on.sound of.route of.among in
      let has : is_in_network (looked of.route.by src dst).0 of.route.prefix ≡ true = sym (static_match of.route.by of.route.prefix block) ∙ (sym (ap (λ (r : Row). holds (names net) packet r.matching) row_is) ∙ takes_it) in
      let c : Candidate = record { way = record { len = of.route.prefix.len; hop = hop_by port of.route.nexthop from }; kind = kind_of of.route.by; hint = of.route.id.0 } in
      let number : of.route.router.0 ≡ router.id.0 = ap (λ (d : ObjId). d.0) of.of_router in
      let taking : takes router.id of.route.by (looked of.route.by src dst) of.route ≡ true =
      and_from (same of.route.router router.id && same_policy of.route.by of.route.by) (is_in_network (looked of.route.by src dst).0 of.route.prefix)
      (and_from (same of.route.router router.id) (same_policy of.route.by of.route.by) (eq-eqb of.route.router.0 router.id.0 number) (policy_itself of.route.by)) has in
      let is_way : static_candidate net router.id src dst (kind_of of.route.by) of.route ≡ Some c =
      ap (λ (o : Option RouterPort). option_map (λ (w : Way). record { way = w; kind = kind_of of.route.by; hint = of.route.id.0 }) (option_map (λ (p : RouterPort). record { len = of.route.prefix.len; hop = hop_by p of.route.nexthop (asking p of.route.nexthop) }) o)) found in
      ByWay c (static-from net router.id src dst of.route.by of.route of.among taking c is_way) block.len (of_policy of.route.by).0 (of_policy of.route.by).1
      (ap (λ (r : Row). r.priority) row_is ∙ rank_is of.route.by of.route.prefix) (ap (λ (r : Row). r.hint.0) row_is) (ap its_does row_is ∙ static_does port there input from)

  taker : (row : Row) → IsRule net router.id LrInIpRouting row → holds (names net) packet row.matching ≡ true → IsTaker row
  taker row (OfRouter of) takes_it =
      let is = the_only last_rule of.says (own_rule-gives LrInIpRouting (last_rule ∷ []) of.says (dnats net router.id) of_router of.in_rules of.of_stage) in
      let row_is : row ≡ row_of (unit_of_datapath router.id) last_rule = of.is ∙ ap (row_of (unit_of_datapath router.id)) is in
      ByLast (ap (λ (r : Row). r.priority) row_is) (ap its_does row_is)
  taker row (OfPort of) takes_it = by_port_rule row of takes_it (routing-gives net of.port of.says (port_rule-gives net of.port (port_has_net net on.sound of.port of.among) of.says of.in_rules) of.of_stage)
  taker row (OfRoute of) takes_it = by_route_rule row of takes_it (meaning.exit_of net of.route) refl (static_rule-gives (static_route_input net of.route) of.says of.in_rules)
  taker row (OfBinding of) takes_it = absurd (false≢true (ap is_of_hosts (sym of.of_stage) ∙ binding_stage (binding_input of.port of.binding) of.says of.in_rules))
  taker row (OfNeighbour of) takes_it = absurd (false≢true (ap is_of_hosts (sym of.of_stage) ∙ neighbour_stage (neighbour_input net of.port of.other) of.says of.in_rules))
  taker row (OfTranslation of) takes_it = absurd (false≢true (translation_stage net router.id LrInIpRouting row of))

  -- ---- the row of a way

  record WayRow (c : Candidate) : Type 0 where
    row : Row
    among : Contains (network_rows net) row
    of_dp : row.dp ≡ router.id
    of_stage : row.stage ≡ LrInIpRouting
    taking : holds (names net) packet row.matching ≡ true
    priority : row.priority ≡ 4 * c.way.len + c.kind
    hint : row.hint.0 ≡ c.hint
    done : its_does row ≡ goes c.way.hop
    low : 0 < c.kind
    high : c.kind < 4

  direct_row : (c : Candidate) → IsDirect net router.id src dst c → WayRow c
  direct_row c of = subst WayRow (sym of.is) made
    where
      says : Rule
      says = network_rule (port_route_input of.port) of.own

      made : WayRow (direct_candidate net router.id src dst of.port of.own)
      made = record {
        row = row_of (unit_of of.port.router of.port.id) says;
        among = rows-port_route net of.port says of.among (to_network-from net of.port (port_has_net net on.sound of.port of.among) of.own of.of_port);
        of_dp = of.of_router;
        of_stage = refl;
        taking = direct_match of.own (block_of of.port of.among of.own of.of_port) ∙ of.has;
        priority = refl;
        hint = refl;
        done = direct_does of.port of.among of.own;
        low = lit< tt;
        high = lit< tt;
      }

  static_row : (c : Candidate) → IsStatic net router.id src dst c → WayRow c
  static_row c of = subst WayRow (sym by_it.is) (made parts.1 same_by)
    where
      by_it : IsBy net router.id src dst (kind_of of.by) of.route c
      by_it = static-gives net router.id src dst (kind_of of.by) of.route c of.is

      port_there : Contains net.router_ports by_it.port
      port_there = port_of_route of.route by_it.port by_it.found

      from : Ip4
      from = asking by_it.port of.route.nexthop

      input : StaticRouteInput
      input = static_route_input net of.route

      says : Rule
      says = static_rule input (exit_of by_it.port from)

      parts : ((same of.route.router router.id && same_policy of.route.by of.by) ≡ true) × (is_in_network (looked of.by src dst).0 of.route.prefix ≡ true)
      parts = and_parts (same of.route.router router.id && same_policy of.route.by of.by) (is_in_network (looked of.by src dst).0 of.route.prefix) of.taking

      of_both : (same of.route.router router.id ≡ true) × (same_policy of.route.by of.by ≡ true)
      of_both = and_parts (same of.route.router router.id) (same_policy of.route.by of.by) parts.0

      same_by : of.route.by ≡ of.by
      same_by = policy_is of.route.by of.by of_both.1

      its : of.route.router ≡ router.id
      its = let number = eqb-true of.route.router.0 router.id.0 of_both.0 in λ i. record { 0 = number i }

      in_rules : Contains (static_route_rules input) says
      in_rules = static_rule-from input (exit_of by_it.port from) (exit-from net on.sound of.route by_it.port (port_has_net net on.sound by_it.port port_there) by_it.found)

      made : is_in_network (looked of.by src dst).0 of.route.prefix ≡ true → of.route.by ≡ of.by → WayRow (record { way = record { len = of.route.prefix.len; hop = hop_by by_it.port of.route.nexthop from }; kind = kind_of of.by; hint = of.route.id.0 })
      made has by_same = record {
        row = row_of (unit_of of.route.router of.route.id) says;
        among = rows-route net of.route says of.among in_rules;
        of_dp = its;
        of_stage = refl;
        taking = static_match of.route.by of.route.prefix (route_is_sound net on.sound of.route of.among) ∙ (ap (λ (b : RouteBy). is_in_network (looked b src dst).0 of.route.prefix) by_same ∙ has);
        priority = rank_is of.route.by of.route.prefix ∙ ap (λ (b : RouteBy). 4 * of.route.prefix.len + kind_of b) by_same;
        hint = refl;
        done = static_does by_it.port port_there input from;
        low = (of_policy of.by).0;
        high = (of_policy of.by).1;
      }

  way_row : (c : Candidate) → IsCandidate net router.id src dst c → WayRow c
  way_row c (inl of) = direct_row c of
  way_row c (inr of) = static_row c of

  -- ---- the three cases

  abbrev IsBehind : Row → Row → Type 0
  IsBehind r x = (its_does x ≡ its_does r) ⊎ ((x.priority < r.priority) ⊎ ((x.priority ≡ r.priority) × (r.hint.0 < x.hint.0)))

  -- none leads to the router itself
  by_own : is_own net router.id dst.0 ≡ true → step (flows_at net router.id) LrInIpRouting flight ≡ dropped
  by_own is = step_by_row net router flight on LrInIpRouting its_row among found.its.1 refl taking (λ row of row_takes. others row (taker row of row_takes))
    where
      found : HasAddress net router dst.0
      found = own-gives net router dst.0 is

      says : Rule
      says = own_address_rule (port_route_input found.port)

      its_row : Row
      its_row = row_of (unit_of found.port.router found.port.id) says

      among : Contains (network_rows net) its_row
      among = rows-port_route net found.port says found.its.0 (own_address-from net found.port (port_has_net net on.sound found.port found.its.0))

      taking : holds (names net) packet says.matching ≡ true
      taking = own_match found.port ∙ found.has

      others : (row : Row) → IsTaker row → IsBehind its_row row
      others row (ByWay c there len low high priority hint done) = inr (inl (rw priority (omega (arith, len, high))))
      others row (ByOwn own priority done) = inl done
      others row (ByLast priority done) = inl done

  module _ (not_own : is_own net router.id dst.0 ≡ false) where
    by_none : candidates net router.id src dst ≡ [] → step (flows_at net router.id) LrInIpRouting flight ≡ dropped
    by_none none =
        step_by_row net router flight on LrInIpRouting (row_of (unit_of_datapath router.id) last_rule)
        (rows-router_route net router last_rule on.among (from_rules_at LrInIpRouting router_route_rules (last_rule ∷ []) last_rule of_routes (one_first last_rule [] last_rule refl))) refl refl refl
        (λ row of row_takes. others row (taker row of row_takes))
      where
        others : (row : Row) → IsTaker row → IsBehind (row_of (unit_of_datapath router.id) last_rule) row
        others row (ByWay c there len low high priority hint done) = absurd (one_of_none c (subst (λ cs. Contains cs c) none there))
        others row (ByOwn own priority done) = inl done
        others row (ByLast priority done) = inl done

    by_best : (f : Candidate) (cs : List Candidate) → candidates net router.id src dst ≡ f ∷ cs → (found : Option Way) → IsBest f cs found → step (flows_at net router.id) LrInIpRouting flight ≡ sent_by (option_map (λ (w : Way). w.hop) found) flight
    by_best f cs are found best =
        step_by_row net router flight on LrInIpRouting its.row its.among its.of_dp its.of_stage its.taking (λ row of row_takes. others row (taker row of row_takes)) ∙ its.done
        ∙ ap (λ (o : Option Way). sent_by (option_map (λ (w : Way). w.hop) o) flight) (sym best.is)
      where
        its : WayRow best.best
        its = way_row best.best (candidate-gives net router.id src dst best.best (subst (λ xs. Contains xs best.best) (sym are) best.among))

        others : (row : Row) → IsTaker row → IsBehind its.row row
        others row (ByWay c there len low high priority hint done) = by (best.after c (subst (λ xs. Contains xs c) are there))
          where
            by : IsAfter c best.best → IsBehind its.row row
            by (inl same_one) = inl (done ∙ ap (λ (d : Candidate). goes d.way.hop) same_one ∙ sym its.done)
            by (inr (inl shorter)) = let own_low = its.low in inr (inl (rw (priority, its.priority) (omega (arith, shorter, high, own_low))))
            by (inr (inr (level, inl lower))) = inr (inl (rw (priority, its.priority) (omega (arith, level, lower))))
            by (inr (inr (level, inr (kinds, inl later)))) = inr (inr (priority ∙ (λ i. 4 * level i + kinds i) ∙ sym its.priority, rw (hint, its.hint) later))
            by (inr (inr (level, inr (kinds, inr lengths)))) = absurd (lengths (sym level))
        others row (ByOwn own priority done) = absurd (false≢true (sym not_own ∙ own))
        others row (ByLast priority done) = let own_low = its.low in inr (inl (rw (priority, its.priority) (omega (arith, own_low))))

    by_list : (cs : List Candidate) → candidates net router.id src dst ≡ cs
        → step (flows_at net router.id) LrInIpRouting flight ≡ sent_by (option_map (λ (w : Way). w.hop) (fold longer None (map (λ (c : Candidate). c.way) cs))) flight
    by_list [] are = by_none are
    by_list (f ∷ cs) are =
        by_best f cs are (fold longer (Some f.way) (map (λ (c : Candidate). c.way) cs)) (best_of f cs (subst (OfPairs Before) are (candidates_pairs net router.id src dst on.sound)))

  by_all : (own : Bool) → is_own net router.id dst.0 ≡ own → step (flows_at net router.id) LrInIpRouting flight ≡ sent_by (cond own None (meaning.route net router.id src dst)) flight
  by_all true is = by_own is
  by_all false is =
      by_list is (candidates net router.id src dst) refl
      ∙ ap (λ (ws : List Way). sent_by (option_map (λ (w : Way). w.hop) (fold longer None ws)) flight) (ways_are net router.id src dst)

pub routes : Routes
routes net router flight on ip4 = by_all net router flight on ip4 (is_own net router.id (value flight.packet Ip4Dst)) refl
