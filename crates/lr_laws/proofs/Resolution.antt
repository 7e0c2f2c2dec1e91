-- A packet gets the MAC of the next host that the meaning says.
use Rattle.std.proofs.Common.{◌≡◌, ℕ, ◌<◌, Bool, true, false, List, [], ◌∷◌, map, eqb, sym, ap, refl, ◌∙◌, subst, ◌⊎◌, inl, inr, lit<}
use Rattle.std.specs.Prelude.{◌&&◌, not, Option, Some, None, filter, option_map, unwrap_or}
use Rattle.std.specs.List.{Contains, find}
use Rattle.std.proofs.lemmas.Bool.{false≢true, and_from, and_parts, eq-eqb, eqb-true}
use Rattle.std.proofs.lemmas.Option.{same_Some, none-some}
use Rattle.nv_base.specs.Ip4.{address}
use Rattle.nv_base.specs.declared.field.Field.TheVariants.{Outport, EthDst, Reg0}
use Rattle.nv_base.specs.declared.ip4.Ip4.{Ip4}
use Rattle.nv_base.specs.declared.object.ObjId.{ObjId}
use Rattle.pkt_core.specs.Packet.{Values, value, with_value}
use Rattle.ct_core.specs.Neighbours.{mac_of}
use Rattle.expr_eval.specs.MatchMeaning.{holds}
use Rattle.nb_records.specs.declared.router.Binding.{Binding}
use Rattle.nb_records.specs.declared.router.Router.{Router}
use Rattle.nb_records.specs.declared.router.RouterPort.{RouterPort}
use Rattle.nb_records.specs.declared.switch.Port.{Port}
use Rattle.nb_model.specs.Applies.{is_empty}
use Rattle.nb_model.specs.Belongs.{either, peer_port, same_binding}
use Rattle.nb_model.specs.Names.{names}
use Rattle.nb_model.specs.Network.{Network, same}
use Rattle.nb_model.specs.Ports.{is_open}
use Rattle.nv_table.proofs.Found.{found_there, none_passes}
use Rattle.sb_model.specs.Make.{equals, as_ip4, is_port, steps, takes_each}
use Rattle.sb_model.specs.Stage.{all_stages, next_stage, stage_at, stage_place}
use Rattle.sb_model.specs.declared.row.Row.{Row}
use Rattle.sb_model.specs.declared.stage.Stage.TheVariants.{LrInArpResolve, LrInArpRequest}
use Rattle.net_router.specs.Resolution.{is_beside, mac_at, mac_beyond}
use Rattle.net_rows.specs.Unit.{row_of, rule, unit_of, unit_of_datapath}
use Rattle.net_rows.specs.declared.rule.Rule.{Rule}
use Rattle.net_rows.proofs.Elements.{one_first, one_of, one_of_none, Contains-filter, Contains-from_filter, Contains-from_map, Contains-map}
use Rattle.net_rows.proofs.Pairs.{OfPairs, every_member}
use Rattle.net_rows.proofs.Sound.{ports_rise}
use Rattle.net_rows.proofs.SoundObjects.{Unlike, unlike_pairs}
use Rattle.lr_rows.specs.Nat.{router_nat_rules}
use Rattle.lr_rows.specs.Neighbours.{binding_rules, neighbour_rules, resolving_rule}
use Rattle.lr_rows.specs.Routes.{router_route_rules}
use Rattle.lr_rows.specs.declared.inputs.Host.{Host}
use Rattle.act_core.specs.declared.step.Step.TheVariants as act
use Rattle.lr_units.specs.Units.{binding_input, bindings_of, static_route_input}
use Rattle.lr_units.specs.Words as words
use Rattle.lr_units.specs.Words.{across, beside, hosts_at}
use Rattle.ls_laws.proofs.RuleStages.{from_rules_at, rules_at, the_only}
use Rattle.ls_laws.proofs.Tables.{filter_passes}
use Rattle.tr_pipe.specs.Machine.{StageEnd, run_actions, step}
use Rattle.tr_pipe.specs.Machine.StageEnd.{On}
use Rattle.tr_pipe.specs.Tracking.{Flight, with_packet}
use Rattle.lr_units.specs.Network.{network_rows}
use Rattle.lr_laws.specs.Steps.{GoesOut, IsOnRouter, IsPortOf, Resolves, flows_at}
use Rattle.lr_laws.proofs.Hosts.{IsFirst, first-gives, first-none, first_found, host, mac_at-from, mac_at-gives}
use Rattle.lr_laws.proofs.OwnRules.{binding_rule-gives, is_of_ports, is_of_routes, own_rule-gives, port_stage, route_stage}
use Rattle.lr_laws.proofs.PortRules.{port_has_net, port_rule-gives}
use Rattle.lr_laws.proofs.Ports.{at_port-from, at_port-gives, same_port}
use Rattle.lr_laws.proofs.StageLayers.{does, step_by_row}
use Rattle.nb_router.specs.Vocabulary.{dnats}
use Rattle.lr_laws.proofs.Tables.{IsRule, own_rules, rows-binding, rows-neighbour, rows-router_route}
use Rattle.lr_laws.proofs.Tables.IsRule.{OfRouter, OfPort, OfRoute, OfBinding, OfNeighbour, OfTranslation}
use Rattle.lr_laws.proofs.TranslationRules.{translation_stage}

-- the rule of a router
abbrev last_rule : Rule
last_rule = rule LrInArpResolve 0 takes_each (steps (act.GetArp ∷ act.Next ∷ []))

of_router : (dnats : Bool) → rules_at LrInArpResolve (own_rules dnats) ≡ last_rule ∷ []
unfolding router_nat_rules stage_place
of_router true = refl
of_router false = refl

of_routes : rules_at LrInArpResolve router_route_rules ≡ last_rule ∷ []
unfolding stage_place
of_routes = refl

-- of records no two of which are alike, two that are alike are one
alike_one : {R : Type 0} (alike : R → R → Bool) (rs : List R) → OfPairs (Unlike alike) rs → (x y : R) → Contains rs x → Contains rs y → alike x y ≡ true → alike y x ≡ true → x ≡ y
alike_one alike [] apart x y at_x at_y same turned = absurd (one_of_none x at_x)
alike_one {R} alike (r ∷ rs) apart x y at_x at_y same turned = by (one_of r rs x at_x) (one_of r rs y at_y) (λ later_x later_y. alike_one alike rs apart.1 x y later_x later_y same turned)
  where
    by : (r ≡ x) ⊎ Contains rs x → (r ≡ y) ⊎ Contains rs y → (Contains rs x → Contains rs y → x ≡ y) → x ≡ y
    by (inl is_x) (inl is_y) rest = sym is_x ∙ is_y
    by (inl is_x) (inr later) rest = absurd (false≢true (sym (every_member (Unlike alike r) rs y apart.0 later) ∙ (ap (λ z. alike z y) is_x ∙ same)))
    by (inr later) (inl is_y) rest = absurd (false≢true (sym (every_member (Unlike alike r) rs x apart.0 later) ∙ (ap (λ z. alike z x) is_y ∙ turned)))
    by (inr later_x) (inr later_y) rest = rest later_x later_y

-- numbers that are one are so either way
turned : (a b : ObjId) → same a b ≡ true → same b a ≡ true
turned a b is = eq-eqb b.0 a.0 (sym (eqb-true a.0 b.0 is))

same_turned : (a b : ObjId) → same a b ≡ same b a
same_turned a b = by (same a b) refl (same b a) refl
  where
    by : (p : Bool) → same a b ≡ p → (q : Bool) → same b a ≡ q → p ≡ q
    by true e true f = refl
    by true e false f = absurd (false≢true (sym f ∙ turned a b e))
    by false e true f = absurd (false≢true (sym e ∙ turned b a f))
    by false e false f = refl

-- a rule that takes a packet for a host
host_rule : (priority : ℕ) (name : List ℕ) (hosts : List Host) (says : Rule) → Contains (map (resolving_rule priority name) hosts) says → (own : Host) × Contains hosts own × (says ≡ resolving_rule priority name own)
host_rule priority name hosts says there = let at = Contains-from_map (resolving_rule priority name) hosts says there in (at.0, at.1, sym at.2)

module _ (net : Network) (router : Router) (flight : Flight) (on : IsOnRouter net router flight.packet) (port : RouterPort) (its : IsPortOf net router port) (at : GoesOut port flight.packet) where
  abbrev packet : Values
  packet = flight.packet

  -- the address of the next host
  abbrev ip : Ip4
  ip = address (value packet Reg0)

  -- on with this MAC
  abbrev to : ℕ → StageEnd
  to mac = On LrInArpRequest (with_packet flight (with_value packet EthDst mac))

  abbrev its_does : Row → StageEnd
  its_does = does net router flight on LrInArpResolve

  -- what rows do
  host_does : (priority : ℕ) (name : List ℕ) (own : Host) → run_actions (names net) router.id LrInArpResolve (resolving_rule priority name own).actions flight ≡ to own.mac
  unfolding next_stage stage_at all_stages
  host_does priority name own = refl

  last_does : run_actions (names net) router.id LrInArpResolve last_rule.actions flight ≡ to (mac_of flight.state.nbrs port.id ip)
  unfolding next_stage stage_at all_stages
  last_does = ap (λ (number : ObjId). to (mac_of flight.state.nbrs number ip)) arrival
    where
      arrival : record { 0 = value packet Outport } ≡ port.id
      arrival = λ i. record { 0 = at i }

  -- ---- the matches

  abbrev takes_host : ℕ → List ℕ → Host → Bool
  takes_host priority name own = holds (names net) packet (resolving_rule priority name own).matching

  -- a rule takes the packet that is of the port by which it goes out, and of the address
  host_gives : (priority : ℕ) (p : RouterPort) → Contains net.router_ports p → (own : Host) → takes_host priority p.name own ≡ true → (p ≡ port) × (own.addr ≡ ip)
  host_gives priority p there own takes =
      let parts = and_parts (holds (names net) packet (is_port Outport p.name)) (holds (names net) packet (equals Reg0 (as_ip4 own.addr.0)) && true) takes in
      let number = at_port-gives net on.sound p there packet Outport refl parts.0 in
      let same_ip = eqb-true (value packet Reg0) own.addr.0 (and_parts (eqb (value packet Reg0) own.addr.0) true parts.1).0 in
      (same_port net on.sound p port there its.0 (sym number ∙ at), λ i. record { 0 = sym same_ip i })

  host_from : (priority : ℕ) (mac : ℕ) → takes_host priority port.name (host mac ip) ≡ true
  host_from priority mac =
      and_from (holds (names net) packet (is_port Outport port.name)) (eqb (value packet Reg0) (value packet Reg0) && true) (at_port-from net on.sound port its.0 packet Outport refl at)
      (and_from (eqb (value packet Reg0) (value packet Reg0)) true (eq-eqb (value packet Reg0) (value packet Reg0) refl) refl)

  -- ---- the rows that take the packet

  data IsTaker (row : Row) : Type 0 where
    ByBinding : (binding : Binding) → Contains net.bindings binding → same binding.port port.id ≡ true → binding.addr ≡ ip → row.priority ≡ 150 → its_does row ≡ to binding.mac → IsTaker row
    ByNeighbour : (other : Port) → Contains (across net port) other → (mac : ℕ) → Contains (hosts_at net other) (host mac ip) → row.priority ≡ 100 → row.hint ≡ other.id → its_does row ≡ to mac → IsTaker row
    ByLast : row.priority ≡ 0 → its_does row ≡ to (mac_of flight.state.nbrs port.id ip) → IsTaker row

  by_binding : (p : RouterPort) → p ≡ port → (binding : Binding) → Contains (bindings_of net p) binding → binding.addr ≡ ip → (row : Row) → row.priority ≡ 150 → its_does row ≡ to binding.mac → IsTaker row
  by_binding p same_one binding in_port addr row priority done =
      let passed = filter_passes (λ (b : Binding). same p.id b.port) net.bindings binding in_port in
      ByBinding binding (Contains-from_filter (λ (b : Binding). same p.id b.port) net.bindings binding in_port) (subst (λ (q : RouterPort). same binding.port q.id ≡ true) same_one (turned p.id binding.port passed)) addr priority done

  by_neighbour : (p : RouterPort) → p ≡ port → (other : Port) → Contains (across net p) other → (own : Host) → Contains (hosts_at net other) own → own.addr ≡ ip → (row : Row) → row.priority ≡ 100 → row.hint ≡ other.id
      → its_does row ≡ to own.mac → IsTaker row
  by_neighbour p same_one other across_it own there addr row priority hint done =
      ByNeighbour other (subst (λ (q : RouterPort). Contains (across net q) other) same_one across_it) own.mac (subst (λ (a : Ip4). Contains (hosts_at net other) (host own.mac a)) addr there) priority hint done

  taker : (row : Row) → IsRule net router.id LrInArpResolve row → holds (names net) packet row.matching ≡ true → IsTaker row
  unfolding neighbour_rules
  taker row (OfRouter of) takes =
      let is = the_only last_rule of.says (own_rule-gives LrInArpResolve (last_rule ∷ []) of.says (dnats net router.id) of_router of.in_rules of.of_stage) in
      let row_is : row ≡ row_of (unit_of_datapath router.id) last_rule = of.is ∙ ap (row_of (unit_of_datapath router.id)) is in
      ByLast (ap (λ (r : Row). r.priority) row_is) (ap its_does row_is ∙ last_does)
  taker row (OfPort of) takes =
      absurd (false≢true (ap is_of_ports (sym of.of_stage) ∙ port_stage net of.port of.says (port_rule-gives net of.port (port_has_net net on.sound of.port of.among) of.says of.in_rules)))
  taker row (OfRoute of) takes = absurd (false≢true (ap is_of_routes (sym of.of_stage) ∙ route_stage (static_route_input net of.route) of.says of.in_rules))
  taker row (OfBinding of) takes =
      let own = host of.binding.mac of.binding.addr in
      let says_is = binding_rule-gives (binding_input of.port of.binding) of.says of.in_rules in
      let row_is : row ≡ row_of (unit_of router.id of.binding.id) (resolving_rule 150 of.port.name own) = of.is ∙ ap (row_of (unit_of router.id of.binding.id)) says_is in
      let gives = host_gives 150 of.port of.among own (sym (ap (λ (r : Row). holds (names net) packet r.matching) row_is) ∙ takes) in
      by_binding of.port gives.0 of.binding of.in_port gives.1 row (ap (λ (r : Row). r.priority) row_is) (ap its_does row_is ∙ host_does 150 of.port.name own)
  taker row (OfNeighbour of) takes =
      let said = host_rule 100 of.port.name (hosts_at net of.other) of.says of.in_rules in
      let row_is : row ≡ row_of (unit_of router.id of.other.id) (resolving_rule 100 of.port.name said.0) = of.is ∙ ap (row_of (unit_of router.id of.other.id)) said.2 in
      let gives = host_gives 100 of.port of.among said.0 (sym (ap (λ (r : Row). holds (names net) packet r.matching) row_is) ∙ takes) in
      by_neighbour of.port gives.0 of.other of.across_it said.0 said.1 gives.1 row (ap (λ (r : Row). r.priority) row_is) (ap (λ (r : Row). r.hint) row_is) (ap its_does row_is ∙ host_does 100 of.port.name said.0)
  taker row (OfTranslation of) takes = absurd (false≢true (translation_stage net router.id LrInArpResolve row of))

  -- ---- the three cases

  abbrev bound : Option Binding
  bound = find (λ own. same own.port port.id && eqb own.addr.0 ip.0) net.bindings

  abbrev beyond : Option ℕ
  beyond = mac_beyond net ip (peer_port net port)

  -- where a binding says it
  by_bound : (binding : Binding) → bound ≡ Some binding → step (flows_at net router.id) LrInArpResolve flight ≡ to binding.mac
  unfolding binding_rules
  by_bound binding found =
      step_by_row net router flight on LrInArpResolve its_row among its.1 refl takes (λ row of row_takes. others row (taker row of row_takes)) ∙ host_does 150 port.name (host binding.mac binding.addr)
    where
      there : Contains net.bindings binding × ((same binding.port port.id && eqb binding.addr.0 ip.0) ≡ true)
      there = found_there (λ (own : Binding). same own.port port.id && eqb own.addr.0 ip.0) binding net.bindings found

      parts : (same binding.port port.id ≡ true) × (eqb binding.addr.0 ip.0 ≡ true)
      parts = and_parts (same binding.port port.id) (eqb binding.addr.0 ip.0) there.1

      addr : ip ≡ binding.addr
      addr = let number = eqb-true binding.addr.0 ip.0 parts.1 in λ i. record { 0 = sym number i }

      says : Rule
      says = resolving_rule 150 port.name (host binding.mac binding.addr)

      its_row : Row
      its_row = row_of (unit_of port.router binding.id) says

      in_port : Contains (bindings_of net port) binding
      in_port = Contains-filter (λ (b : Binding). same port.id b.port) net.bindings binding there.0 (turned binding.port port.id parts.0)

      among : Contains (network_rows net) its_row
      among = rows-binding net port binding says its.0 in_port (one_first says [] says refl)

      takes : holds (names net) packet says.matching ≡ true
      takes = subst (λ (a : Ip4). takes_host 150 port.name (host binding.mac a) ≡ true) addr (host_from 150 binding.mac)

      others : (row : Row) → IsTaker row → (its_does row ≡ its_does its_row) ⊎ ((row.priority < 150) ⊎ ((row.priority ≡ 150) × (binding.id.0 < row.hint.0)))
      others row (ByBinding other other_there of_port other_addr priority done) =
          let same_ip : other.addr.0 ≡ binding.addr.0 = ap (λ (a : Ip4). a.0) (other_addr ∙ addr) in
          let number : other.port.0 ≡ binding.port.0 = eqb-true other.port.0 port.id.0 of_port ∙ sym (eqb-true binding.port.0 port.id.0 parts.0) in
          let one : other ≡ binding =
          alike_one same_binding net.bindings (unlike_pairs same_binding net.bindings on.sound.apart.bindings) other binding other_there there.0
          (and_from (same other.port binding.port) (eqb other.addr.0 binding.addr.0) (eq-eqb other.port.0 binding.port.0 number) (eq-eqb other.addr.0 binding.addr.0 same_ip))
          (and_from (same binding.port other.port) (eqb binding.addr.0 other.addr.0) (eq-eqb binding.port.0 other.port.0 (sym number)) (eq-eqb binding.addr.0 other.addr.0 (sym same_ip))) in
          inl (done ∙ ap (λ (b : Binding). to b.mac) one ∙ sym (host_does 150 port.name (host binding.mac binding.addr)))
      others row (ByNeighbour other across_it mac has priority hint done) = inr (inl (rw priority (lit< tt)))
      others row (ByLast priority done) = inr (inl (rw priority (lit< tt)))

  -- no binding says it
  module _ (none : bound ≡ None) where
    no_binding : (binding : Binding) → Contains net.bindings binding → same binding.port port.id ≡ true → binding.addr ≡ ip → ⊥
    no_binding binding there of_port addr =
        false≢true
        (sym (none_passes (λ (own : Binding). same own.port port.id && eqb own.addr.0 ip.0) binding net.bindings none there)
        ∙ and_from (same binding.port port.id) (eqb binding.addr.0 ip.0) of_port (eq-eqb binding.addr.0 ip.0 (ap (λ (a : Ip4). a.0) addr)))

    -- the test of the rows and that of the meaning, of a port beside the peer
    beside-gives : (peer other : Port) → words.is_beside peer other ≡ true → is_beside peer other ≡ true
    beside-gives peer other is =
        let parts = and_parts (same peer.switch other.switch) (other.enabled && not (same peer.id other.id)) is in
        let more = and_parts other.enabled (not (same peer.id other.id)) parts.1 in
        and_from (is_open peer.switch other) (not (same other.id peer.id)) (and_from (same other.switch peer.switch) other.enabled (turned peer.switch other.switch parts.0) more.0)
        (ap not (same_turned other.id peer.id) ∙ more.1)

    beside-from : (peer other : Port) → is_beside peer other ≡ true → words.is_beside peer other ≡ true
    beside-from peer other is =
        let parts = and_parts (is_open peer.switch other) (not (same other.id peer.id)) is in
        let opens = and_parts (same other.switch peer.switch) other.enabled parts.0 in
        and_from (same peer.switch other.switch) (other.enabled && not (same peer.id other.id)) (turned other.switch peer.switch opens.0)
        (and_from other.enabled (not (same peer.id other.id)) opens.1 (ap not (same_turned peer.id other.id) ∙ parts.1))

    -- where a port beyond has it
    module _ (peer : Port) (is_peer : peer_port net port ≡ Some peer) where
      across_gives : (other : Port) → Contains (across net port) other → Contains net.ports other × (is_beside peer other ≡ true)
      across_gives other there =
          let in_it : Contains (filter (words.is_beside peer) net.ports) other = subst (λ p. Contains (beside net p) other) is_peer there in
          (Contains-from_filter (words.is_beside peer) net.ports other in_it, beside-gives peer other (filter_passes (words.is_beside peer) net.ports other in_it))

      across_from : (other : Port) → Contains net.ports other → is_beside peer other ≡ true → Contains (across net port) other
      across_from other there is = subst (λ p. Contains (beside net p) other) (sym is_peer) (Contains-filter (words.is_beside peer) net.ports other there (beside-from peer other is))

      by_beyond : (mac : ℕ) → first_found (is_beside peer) (mac_at net ip) net.ports ≡ Some mac → step (flows_at net router.id) LrInArpResolve flight ≡ to mac
      unfolding neighbour_rules
      by_beyond mac found = step_by_row net router flight on LrInArpResolve its_row among its.1 refl (host_from 100 mac) (λ row of row_takes. others row (taker row of row_takes)) ∙ host_does 100 port.name (host mac ip)
        where
          first : IsFirst (is_beside peer) (mac_at net ip) net.ports mac
          first = first-gives (is_beside peer) (mac_at net ip) net.ports mac (ports_rise net on.sound) found

          says : Rule
          says = resolving_rule 100 port.name (host mac ip)

          its_row : Row
          its_row = row_of (unit_of port.router first.port.id) says

          has : Contains (hosts_at net first.port) (host mac ip)
          has = mac_at-gives net on.sound first.port first.among ip mac first.finds_it

          some : (hosts : List Host) → Contains hosts (host mac ip) → not (is_empty hosts) ≡ true
          some [] there = absurd (one_of_none (host mac ip) there)
          some (h ∷ hosts) there = refl

          among : Contains (network_rows net) its_row
          among =
              rows-neighbour net port first.port says its.0 (across_from first.port first.among first.passed) (some (hosts_at net first.port) has)
              (Contains-map (resolving_rule 100 port.name) (hosts_at net first.port) (host mac ip) has)

          others : (row : Row) → IsTaker row → (its_does row ≡ its_does its_row) ⊎ ((row.priority < 100) ⊎ ((row.priority ≡ 100) × (first.port.id.0 < row.hint.0)))
          others row (ByBinding binding there of_port addr priority done) = absurd (no_binding binding there of_port addr)
          others row (ByNeighbour other across_it other_mac other_has priority hint done) =
              let beside_it = across_gives other across_it in
              let finds = mac_at-from net on.sound other beside_it.0 (host other_mac ip) other_has in
              by (first.others other beside_it.0 beside_it.1 other_mac finds) finds
            where
              by : (other ≡ first.port) ⊎ (first.port.id.0 < other.id.0) → mac_at net ip other ≡ Some other_mac → (its_does row ≡ its_does its_row) ⊎ ((row.priority < 100) ⊎ ((row.priority ≡ 100) × (first.port.id.0 < row.hint.0)))
              by (inl same_one) finds =
                  let same_mac : other_mac ≡ mac = same_Some other_mac mac (sym finds ∙ ap (mac_at net ip) same_one ∙ first.finds_it) in
                  inl (done ∙ ap to same_mac ∙ sym (host_does 100 port.name (host mac ip)))
              by (inr later) finds = inr (inr (priority, subst (λ (h : ObjId). first.port.id.0 < h.0) (sym hint) later))
          others row (ByLast priority done) = inr (inl (rw priority (lit< tt)))

    -- where none says it
    by_none : ((other : Port) → Contains (across net port) other → (mac : ℕ) → Contains (hosts_at net other) (host mac ip) → ⊥) → step (flows_at net router.id) LrInArpResolve flight ≡ to (mac_of flight.state.nbrs port.id ip)
    by_none no_neighbour =
        step_by_row net router flight on LrInArpResolve (row_of (unit_of_datapath router.id) last_rule)
        (rows-router_route net router last_rule on.among (from_rules_at LrInArpResolve router_route_rules (last_rule ∷ []) last_rule of_routes (one_first last_rule [] last_rule refl))) refl refl refl
        (λ row of row_takes. others row (taker row of row_takes))
        ∙ last_does
      where
        others : (row : Row) → IsTaker row → (its_does row ≡ its_does (row_of (unit_of_datapath router.id) last_rule)) ⊎ ((row.priority < 0) ⊎ ((row.priority ≡ 0) × (0 < row.hint.0)))
        others row (ByBinding binding there of_port addr priority done) = absurd (no_binding binding there of_port addr)
        others row (ByNeighbour other across_it mac has priority hint done) = absurd (no_neighbour other across_it mac has)
        others row (ByLast priority done) = inl (done ∙ sym last_does)

    -- by what is beyond
    by_peer : (peer : Option Port) → peer_port net port ≡ peer → (mac : Option ℕ) → mac_beyond net ip peer ≡ mac → step (flows_at net router.id) LrInArpResolve flight ≡ to (unwrap_or mac (mac_of flight.state.nbrs port.id ip))
    by_peer None is None finds = by_none (λ other across_it mac has. one_of_none other (subst (λ p. Contains (beside net p) other) is across_it))
    by_peer None is (Some mac) finds = absurd (none-some mac finds)
    by_peer (Some peer) is None finds =
        by_none
        (λ other across_it mac has.
        let beside_it = across_gives peer is other across_it in
        first-none (is_beside peer) (mac_at net ip) net.ports finds other beside_it.0 beside_it.1 mac (mac_at-from net on.sound other beside_it.0 (host mac ip) has))
    by_peer (Some peer) is (Some mac) finds = by_beyond peer is mac finds

  by_all : (binding : Option Binding) → bound ≡ binding
      → step (flows_at net router.id) LrInArpResolve flight ≡ to (unwrap_or (either (option_map (λ (own : Binding). own.mac) binding) beyond) (mac_of flight.state.nbrs port.id ip))
  by_all (Some binding) found = by_bound binding found
  by_all None found = by_peer found (peer_port net port) refl beyond refl

pub resolves : Resolves
resolves net router flight on port its at = by_all net router flight on port its at (bound net router flight on port its at) refl
