-- No two rows of the routers of a sound network agree in datapath, stage, priority, hint and match.
use Rattle.std.proofs.Common.{◌≡◌, ◌≢◌, ◌<◌, Bool, true, false, nat_lt, ◌&&◌, List, ◌++◌, ◌⊎◌, inl, inr, refl, sym, arith}
use Rattle.std.specs.Prelude.{filter, ⊤}
use Rattle.std.specs.Bool.{IsTrue}
use Rattle.std.specs.List.{AllByRecursion, Contains, list_all}
use Rattle.std.proofs.lemmas.Bool.{and_parts, ltb-true}
use Rattle.std.proofs.lemmas.List.Elements.{Contains-append_cases}
use Rattle.nv_base.specs.declared.ip4.Ip4.{Ip4}
use Rattle.nv_base.specs.declared.object.ObjId.{ObjId}
use Rattle.nb_records.specs.declared.balancer.Frontend.{Frontend}
use Rattle.nb_records.specs.declared.balancer.Lb.{Lb}
use Rattle.nb_records.specs.declared.balancer.Vip.{Vip}
use Rattle.nb_records.specs.declared.router.Binding.{Binding}
use Rattle.nb_records.specs.declared.router.Nat.{Nat}
use Rattle.nb_records.specs.declared.router.Route.{Route}
use Rattle.nb_records.specs.declared.router.RouterPort.{RouterPort}
use Rattle.nb_records.specs.declared.switch.Port.{Port}
use Rattle.nb_model.specs.Network.{Network, same}
use Rattle.nb_model.specs.Sound.{IsSound, binding_ids, lb_ids, nat_ids, port_ids, route_ids, router_port_ids}
use Rattle.nb_model.proofs.Numbered.{are_used}
use Rattle.sb_model.specs.declared.row.Row.{Row}
use Rattle.sb_model.specs.declared.stage.Stage.{Stage}
use Rattle.sb_model.specs.declared.stage.Stage.TheVariants.{LrInAdmission, LrInLearnNeighbor, LrInIpInput, LrInIpRouting, LrInArpResolve, LrInArpRequest, LrOutDelivery}
use Rattle.sb_rows.specs.Row.{AreApart}
use Rattle.net_rows.specs.Unit.{row_of, unit_of_datapath}
use Rattle.net_rows.specs.declared.rule.Rule.{Rule}
use Rattle.net_rows.specs.declared.rule.Unit.{Unit}
use Rattle.net_rows.proofs.Differ.{Differ, RulesDiffer, hints_differ, by_stage}
use Rattle.net_rows.proofs.Elements.{every_append, Contains-from_filter, Contains-map}
use Rattle.net_rows.proofs.Pairs.{Across, OfPairs, all_pairs, every_from_members, every_member, pairs_append}
use Rattle.net_rows.proofs.Sound.{each_passes}
use Rattle.lr_rows.specs.Input.{router_in_rules}
use Rattle.lr_rows.specs.Routes.{router_route_rules}
use Rattle.lr_rows.specs.declared.inputs.BindingInput.{BindingInput}
use Rattle.lr_rows.specs.declared.inputs.NatRuleInput.{NatRuleInput}
use Rattle.lr_rows.specs.declared.inputs.NeighbourInput.{NeighbourInput}
use Rattle.lr_rows.specs.declared.inputs.PortInInput.{PortInInput}
use Rattle.lr_rows.specs.declared.inputs.PortRouteInput.{PortRouteInput}
use Rattle.lr_rows.specs.declared.inputs.StaticRouteInput.{StaticRouteInput}
use Rattle.lr_rows.specs.declared.inputs.VipAddrInput.{VipAddrInput}
use Rattle.net_rows.specs.declared.inputs.VipInput.{VipInput}
use Rattle.lr_units.specs.Build.{binding_rows, nat_rule_rows, neighbour_rows, port_in_rows, port_route_rows, router_in_rows, router_nat_rows, router_route_rows, router_rows, rows_of, rows_of_input, rows_of_nat, rows_of_routes, static_route_rows, vip_addr_rows, vip_router_rows}
use Rattle.lr_units.specs.Units.{binding_input, binding_units, bindings_of, has_hosts, nat_rule_input, nat_rule_units, neighbour_input, neighbour_units, port_in_input, port_in_units, port_route_input, port_route_units, router_nat_units, router_units, static_route_input, static_route_units, vip_addr_input, vip_addr_units, vip_router_units}
use Rattle.lr_units.specs.Words.{across, addresses_once}
use Rattle.lr_units.proofs.ApartKinds as kind
use Rattle.lr_units.proofs.ApartKinds.{rows_differ}
use Rattle.lr_units.proofs.Numbers.{nat_is_no_lb, port_is_no_binding, port_is_no_route, port_is_no_router_port, route_is_no_binding, router_port_is_no_binding, router_port_is_no_lb, router_port_is_no_nat, router_port_is_no_route}
use Rattle.lr_units.proofs.Sources.{each_of_balancers, each_of_map, each_of_pieces, every_of_kind}
use Rattle.lr_units.proofs.Stages.{binding_at, nat_at, neighbour_at, port_in_at, port_route_at, router_in_at, router_nat_at, router_route_at, static_route_at, vip_addr_at, vip_router_at}
use Rattle.lr_units.proofs.Typed.{across_member, attached_member}
use Rattle.net_rows.specs.Build.{vip_input}

-- ---- stages

-- admission, learning neighbours and input; and routing, resolution, requests and delivery
abbrev is_of_input : Stage → Bool
is_of_input LrInAdmission = true
is_of_input LrInLearnNeighbor = true
is_of_input LrInIpInput = true
is_of_input other = false

abbrev is_of_routes : Stage → Bool
is_of_routes LrInIpRouting = true
is_of_routes LrInArpResolve = true
is_of_routes LrInArpRequest = true
is_of_routes LrOutDelivery = true
is_of_routes other = false

-- the stage of a row passes a test, or does not
abbrev Tells : (Stage → Bool) → Bool → Stage → Type 0
Tells test b stage = test stage ≡ b

abbrev StageTells : (Stage → Bool) → Bool → Row → Type 0
StageTells test b row = test row.stage ≡ b

-- the unit and the rule of a row
abbrev unit_in : Row → Unit
unit_in row = record { dp = row.dp; hint = row.hint }

abbrev rule_in : Row → Rule
rule_in row = record { stage = row.stage; priority = row.priority; matching = row.matching; actions = row.actions }

stages_apart : (test : Stage → Bool) (xs ys : List Row) → AllByRecursion (StageTells test true) xs → AllByRecursion (StageTells test false) ys → Across Differ xs ys
stages_apart test xs ys pass fail x y in_x in_y =
    rows_differ (unit_in x) (unit_in y) (rule_in x) (rule_in y) (by_stage test (rule_in x) (rule_in y) (every_member (StageTells test true) xs x pass in_x) (every_member (StageTells test false) ys y fail in_y))

stages_back : (test : Stage → Bool) (xs ys : List Row) → AllByRecursion (StageTells test false) xs → AllByRecursion (StageTells test true) ys → Across Differ xs ys
stages_back test xs ys fail pass x y in_x in_y =
    let turned = by_stage test (rule_in y) (rule_in x) (every_member (StageTells test true) ys y pass in_y) (every_member (StageTells test false) xs x fail in_x) in
    let straight : RulesDiffer (rule_in x) (rule_in y) = record { never = λ stage priority text. turned.never (sym stage) (sym priority) (sym text) } in
    rows_differ (unit_in x) (unit_in y) (rule_in x) (rule_in y) straight

-- ---- hints

-- the hint of a row is one of these numbers, or there is none
abbrev HasHint : List ObjId → Row → Type 0
HasHint ids row = Contains ids row.hint

abbrev NoHint : Row → Type 0
NoHint row = row.hint.0 ≡ 0

abbrev SomeHint : Row → Type 0
SomeHint row = 0 < row.hint.0

abbrev ApartIds : List ObjId → List ObjId → Type 0
ApartIds ids others = (x y : ObjId) → Contains ids x → Contains others y → x.0 ≢ y.0

hints_apart : (ids others : List ObjId) (xs ys : List Row) → ApartIds ids others → AllByRecursion (HasHint ids) xs → AllByRecursion (HasHint others) ys → Across Differ xs ys
hints_apart ids others xs ys apart of_xs of_ys x y in_x in_y = hints_differ x y (apart x.hint y.hint (every_member (HasHint ids) xs x of_xs in_x) (every_member (HasHint others) ys y of_ys in_y))

turned_round : (ids others : List ObjId) → ApartIds ids others → ApartIds others ids
turned_round ids others apart x y in_x in_y e = apart y x in_y in_x (sym e)

none_apart : (xs ys : List Row) → AllByRecursion NoHint xs → AllByRecursion SomeHint ys → Across Differ xs ys
none_apart xs ys none some x y in_x in_y =
    let no : x.hint.0 ≡ 0 = every_member NoHint xs x none in_x in
    let yes : 0 < y.hint.0 = every_member SomeHint ys y some in_y in
    hints_differ x y (λ e. absurd (omega (arith, no, yes, e)))

-- rows that differ from those of two lists
across_both : (xs ys zs : List Row) → Across Differ xs ys → Across Differ xs zs → Across Differ xs (ys ++ zs)
across_both xs ys zs first second x y in_x in_y = by (Contains-append_cases ys zs y in_y)
  where
    by : Contains ys y ⊎ Contains zs y → Differ x y
    by (inl at) = first x y in_x at
    by (inr at) = second x y in_x at

both_across : (xs ys zs : List Row) → Across Differ xs zs → Across Differ ys zs → Across Differ (xs ++ ys) zs
both_across xs ys zs first second x y in_x in_y = by (Contains-append_cases xs ys x in_x)
  where
    by : Contains xs x ⊎ Contains ys x → Differ x y
    by (inl at) = first x y at in_y
    by (inr at) = second x y at in_y

-- the hints of the rows of a kind, by its keys
of_keys : {K I : Type 0} (P : ObjId → Type 0) (unit_for : K → I → Unit) (rules_of : I → List Rule) (units : List (K × I)) → ((u : K × I) → Contains units u → P (unit_for u.0 u.1).hint) → AllByRecursion (λ row. P row.hint) (rows_of unit_for rules_of units)
of_keys P unit_for rules_of units each =
    every_of_kind (λ row. P row.hint) unit_for rules_of units (λ u there. every_from_members (λ r. P (row_of (unit_for u.0 u.1) r).hint) (rules_of u.1) (λ r in_rules. each u there))

module _ (net : Network) (sound : IsSound net) where
  -- numbers of objects are from 1 on
  positive : (ids : List ObjId) → IsTrue (list_all (λ n. nat_lt 0 n.0 && nat_lt n.0 net.next) ids) → (rows : List Row) → AllByRecursion (HasHint ids) rows → AllByRecursion SomeHint rows
  positive ids used rows of =
      every_from_members SomeHint rows
      (λ row there.
      let both = and_parts (nat_lt 0 row.hint.0) (nat_lt row.hint.0 net.next) (each_passes (λ n. nat_lt 0 n.0 && nat_lt n.0 net.next) ids row.hint used (every_member (HasHint ids) rows row of there)) in
      ltb-true 0 row.hint.0 both.0)

  -- ---- the hints of each kind

  abbrev IsZero : ObjId → Type 0
  IsZero number = number.0 ≡ 0

  router_in_hints : AllByRecursion NoHint (router_in_rows net)
  router_in_hints = of_keys IsZero (λ (router : ObjId) (input : ⊤). unit_of_datapath router) (λ input. router_in_rules) (router_units net) (λ u there. refl)

  router_route_hints : AllByRecursion NoHint (router_route_rows net)
  router_route_hints = of_keys IsZero (λ (router : ObjId) (input : ⊤). unit_of_datapath router) (λ input. router_route_rules) (router_units net) (λ u there. refl)

  router_nat_hints : AllByRecursion NoHint (router_nat_rows net)
  router_nat_hints = of_keys IsZero _ _ (router_nat_units net) (λ u there. refl)

  port_in_hints : AllByRecursion (HasHint (router_port_ids net)) (port_in_rows net)
  port_in_hints =
      of_keys (λ n. Contains (router_port_ids net) n) _ _ (port_in_units net)
      (each_of_map (λ (u : ObjId × PortInInput). Contains (router_port_ids net) u.0) (λ (p : RouterPort). (p.id, port_in_input net p)) net.router_ports (λ p there. Contains-map (λ (x : RouterPort). x.id) net.router_ports p there))

  port_route_hints : AllByRecursion (HasHint (router_port_ids net)) (port_route_rows net)
  port_route_hints =
      of_keys (λ n. Contains (router_port_ids net) n) _ _ (port_route_units net)
      (each_of_map (λ (u : ObjId × PortRouteInput). Contains (router_port_ids net) u.0) (λ (p : RouterPort). (p.id, port_route_input p)) net.router_ports (λ p there. Contains-map (λ (x : RouterPort). x.id) net.router_ports p there))

  static_route_hints : AllByRecursion (HasHint (route_ids net)) (static_route_rows net)
  static_route_hints =
      of_keys (λ n. Contains (route_ids net) n) _ _ (static_route_units net)
      (each_of_map (λ (u : ObjId × StaticRouteInput). Contains (route_ids net) u.0) (λ (r : Route). (r.id, static_route_input net r)) net.routes (λ r there. Contains-map (λ (x : Route). x.id) net.routes r there))

  nat_rule_hints : AllByRecursion (HasHint (nat_ids net)) (nat_rule_rows net)
  nat_rule_hints =
      of_keys (λ n. Contains (nat_ids net) n) _ _ (nat_rule_units net)
      (each_of_map (λ (u : ObjId × NatRuleInput). Contains (nat_ids net) u.0) (λ (n : Nat). (n.id, nat_rule_input n)) net.nats (λ n there. Contains-map (λ (x : Nat). x.id) net.nats n there))

  binding_hints : AllByRecursion (HasHint (binding_ids net)) (binding_rows net)
  binding_hints =
      of_keys (λ n. Contains (binding_ids net) n) _ _ (binding_units net)
      (each_of_pieces (λ (u : ObjId × BindingInput). Contains (binding_ids net) u.0) (bindings_of net) (λ port (b : Binding). (b.id, binding_input port b)) net.router_ports
      (λ port there b in_port. Contains-map (λ (x : Binding). x.id) net.bindings b (Contains-from_filter (λ (x : Binding). same port.id x.port) net.bindings b in_port)))

  neighbour_hints : AllByRecursion (HasHint (port_ids net)) (neighbour_rows net)
  neighbour_hints =
      of_keys (λ n. Contains (port_ids net) n) _ _ (neighbour_units net)
      (each_of_pieces (λ (u : (ObjId × ObjId) × NeighbourInput). Contains (port_ids net) u.0.1) (λ port. filter (has_hosts net) (across net port)) (λ port (o : Port). ((port.id, o.id), neighbour_input net port o)) net.router_ports
      (λ port there o at. Contains-map (λ (x : Port). x.id) net.ports o (across_member net port o (Contains-from_filter (has_hosts net) (across net port) o at))))

  vip_router_hints : AllByRecursion (HasHint (lb_ids net)) (vip_router_rows net)
  vip_router_hints =
      of_keys (λ n. Contains (lb_ids net) n) _ _ (vip_router_units net)
      (each_of_balancers (λ (u : (ObjId × Frontend × ObjId) × VipInput). Contains (lb_ids net) u.0.0) net (λ (lb : Lb). lb.vips) (λ router lb (vip : Vip). ((lb.id, vip.at, router.id), vip_input lb vip))
      (λ router there lb attached vip in_lb. Contains-map (λ (x : Lb). x.id) net.lbs lb (attached_member net sound router lb attached)))

  vip_addr_hints : AllByRecursion (HasHint (lb_ids net)) (vip_addr_rows net)
  vip_addr_hints =
      of_keys (λ n. Contains (lb_ids net) n) _ _ (vip_addr_units net)
      (each_of_balancers (λ (u : (ObjId × Ip4 × ObjId) × VipAddrInput). Contains (lb_ids net) u.0.0) net (λ (lb : Lb). addresses_once lb.vips) (λ router lb addr. ((lb.id, addr, router.id), vip_addr_input addr))
      (λ router there lb attached addr in_lb. Contains-map (λ (x : Lb). x.id) net.lbs lb (attached_member net sound router lb attached)))

  -- ---- the stages of each kind

  -- the rows of a kind, whose rules are in such stages
  in_stages : {K I : Type 0} (test : Stage → Bool) (b : Bool) (unit_for : K → I → Unit) (rules_of : I → List Rule) (units : List (K × I)) → ((i : I) → AllByRecursion (λ (r : Rule). Tells test b r.stage) (rules_of i)) → AllByRecursion (StageTells test b) (rows_of unit_for rules_of units)
  in_stages test b unit_for rules_of units each = every_of_kind (StageTells test b) unit_for rules_of units (λ u there. each u.1)

  of_input : AllByRecursion (StageTells is_of_input true) (rows_of_input net)
  of_input =
      every_append (StageTells is_of_input true) (router_in_rows net) (port_in_rows net)
      (in_stages is_of_input true (λ (router : ObjId) (input : ⊤). unit_of_datapath router) (λ input. router_in_rules) (router_units net) (λ i. router_in_at (Tells is_of_input true) refl refl refl))
      (in_stages is_of_input true _ _ (port_in_units net) (port_in_at (Tells is_of_input true) refl refl refl))

  input_no_routes : AllByRecursion (StageTells is_of_routes false) (rows_of_input net)
  input_no_routes =
      every_append (StageTells is_of_routes false) (router_in_rows net) (port_in_rows net)
      (in_stages is_of_routes false (λ (router : ObjId) (input : ⊤). unit_of_datapath router) (λ input. router_in_rules) (router_units net) (λ i. router_in_at (Tells is_of_routes false) refl refl refl))
      (in_stages is_of_routes false _ _ (port_in_units net) (port_in_at (Tells is_of_routes false) refl refl refl))

  abbrev after_networks : List Row
  after_networks = static_route_rows net ++ (binding_rows net ++ neighbour_rows net)

  of_routes : AllByRecursion (StageTells is_of_routes true) (rows_of_routes net)
  of_routes =
      let P = StageTells is_of_routes true in
      let T = Tells is_of_routes true in
      every_append P (router_route_rows net) (port_route_rows net ++ after_networks)
      (in_stages is_of_routes true (λ (router : ObjId) (input : ⊤). unit_of_datapath router) (λ input. router_route_rules) (router_units net) (λ i. router_route_at T refl refl refl refl))
      (every_append P (port_route_rows net) after_networks (in_stages is_of_routes true _ _ (port_route_units net) (port_route_at T refl refl))
      (every_append P (static_route_rows net) (binding_rows net ++ neighbour_rows net) (in_stages is_of_routes true _ _ (static_route_units net) (static_route_at T refl))
      (every_append P (binding_rows net) (neighbour_rows net) (in_stages is_of_routes true _ _ (binding_units net) (binding_at T refl)) (in_stages is_of_routes true _ _ (neighbour_units net) (neighbour_at T refl)))))

  nat_no_routes : AllByRecursion (StageTells is_of_routes false) (rows_of_nat net)
  nat_no_routes =
      let P = StageTells is_of_routes false in
      let T = Tells is_of_routes false in
      every_append P (router_nat_rows net) (nat_rule_rows net ++ (vip_router_rows net ++ vip_addr_rows net)) (in_stages is_of_routes false _ _ (router_nat_units net) (router_nat_at T refl refl refl refl refl))
      (every_append P (nat_rule_rows net) (vip_router_rows net ++ vip_addr_rows net) (in_stages is_of_routes false _ _ (nat_rule_units net) (nat_at T refl refl refl refl))
      (every_append P (vip_router_rows net) (vip_addr_rows net) (in_stages is_of_routes false _ _ (vip_router_units net) (vip_router_at T refl)) (in_stages is_of_routes false _ _ (vip_addr_units net) (vip_addr_at T refl))))

  -- ---- kinds of one group

  -- numbers that are used
  port_in_some : AllByRecursion SomeHint (port_in_rows net)
  port_in_some = positive (router_port_ids net) (are_used net sound.numbered.below).router_ports (port_in_rows net) port_in_hints

  input_apart : OfPairs Differ (rows_of_input net)
  input_apart = pairs_append Differ (router_in_rows net) (port_in_rows net) (kind.router_in net sound) (kind.port_in net sound) (none_apart (router_in_rows net) (port_in_rows net) router_in_hints port_in_some)

  routes_some : AllByRecursion SomeHint (port_route_rows net ++ after_networks)
  routes_some =
      every_append SomeHint (port_route_rows net) after_networks (positive (router_port_ids net) (are_used net sound.numbered.below).router_ports (port_route_rows net) port_route_hints)
      (every_append SomeHint (static_route_rows net) (binding_rows net ++ neighbour_rows net) (positive (route_ids net) (are_used net sound.numbered.below).routes (static_route_rows net) static_route_hints)
      (every_append SomeHint (binding_rows net) (neighbour_rows net) (positive (binding_ids net) (are_used net sound.numbered.below).bindings (binding_rows net) binding_hints)
      (positive (port_ids net) (are_used net sound.numbered.below).ports (neighbour_rows net) neighbour_hints)))

  routes_apart : OfPairs Differ (rows_of_routes net)
  routes_apart =
      pairs_append Differ (router_route_rows net) (port_route_rows net ++ after_networks) (kind.router_route net sound)
      (pairs_append Differ (port_route_rows net) after_networks (kind.port_route net sound)
      (pairs_append Differ (static_route_rows net) (binding_rows net ++ neighbour_rows net) (kind.static_route net sound)
      (pairs_append Differ (binding_rows net) (neighbour_rows net) (kind.binding net sound) (kind.neighbour net sound)
      (hints_apart (binding_ids net) (port_ids net) (binding_rows net) (neighbour_rows net) (turned_round (port_ids net) (binding_ids net) (port_is_no_binding net sound)) binding_hints neighbour_hints))
      (across_both (static_route_rows net) (binding_rows net) (neighbour_rows net)
      (hints_apart (route_ids net) (binding_ids net) (static_route_rows net) (binding_rows net) (route_is_no_binding net sound) static_route_hints binding_hints)
      (hints_apart (route_ids net) (port_ids net) (static_route_rows net) (neighbour_rows net) (turned_round (port_ids net) (route_ids net) (port_is_no_route net sound)) static_route_hints neighbour_hints)))
      (across_both (port_route_rows net) (static_route_rows net) (binding_rows net ++ neighbour_rows net)
      (hints_apart (router_port_ids net) (route_ids net) (port_route_rows net) (static_route_rows net) (router_port_is_no_route net sound) port_route_hints static_route_hints)
      (across_both (port_route_rows net) (binding_rows net) (neighbour_rows net)
      (hints_apart (router_port_ids net) (binding_ids net) (port_route_rows net) (binding_rows net) (router_port_is_no_binding net sound) port_route_hints binding_hints)
      (hints_apart (router_port_ids net) (port_ids net) (port_route_rows net) (neighbour_rows net) (turned_round (port_ids net) (router_port_ids net) (port_is_no_router_port net sound)) port_route_hints neighbour_hints))))
      (none_apart (router_route_rows net) (port_route_rows net ++ after_networks) router_route_hints routes_some)

  abbrev lb_rows : List Row
  lb_rows = vip_router_rows net ++ vip_addr_rows net

  lb_hints : AllByRecursion (HasHint (lb_ids net)) lb_rows
  lb_hints = every_append (HasHint (lb_ids net)) (vip_router_rows net) (vip_addr_rows net) vip_router_hints vip_addr_hints

  nat_some : AllByRecursion SomeHint (nat_rule_rows net ++ lb_rows)
  nat_some =
      every_append SomeHint (nat_rule_rows net) lb_rows (positive (nat_ids net) (are_used net sound.numbered.below).nats (nat_rule_rows net) nat_rule_hints)
      (positive (lb_ids net) (are_used net sound.numbered.below).lbs lb_rows lb_hints)

  nat_apart : OfPairs Differ (rows_of_nat net)
  nat_apart =
      pairs_append Differ (router_nat_rows net) (nat_rule_rows net ++ lb_rows) (kind.router_nat net sound)
      (pairs_append Differ (nat_rule_rows net) lb_rows (kind.nat_rule net sound)
      (pairs_append Differ (vip_router_rows net) (vip_addr_rows net) (kind.vip_router net sound) (kind.vip_addr net sound)
      (stages_back is_of_input (vip_router_rows net) (vip_addr_rows net) (in_stages is_of_input false _ _ (vip_router_units net) (vip_router_at (Tells is_of_input false) refl)) (in_stages is_of_input true _ _ (vip_addr_units net) (vip_addr_at (Tells is_of_input true) refl))))
      (hints_apart (nat_ids net) (lb_ids net) (nat_rule_rows net) lb_rows (nat_is_no_lb net sound) nat_rule_hints lb_hints))
      (none_apart (router_nat_rows net) (nat_rule_rows net ++ lb_rows) router_nat_hints nat_some)

  -- ---- kinds of two groups

  -- input and translation: by the stage, or by the hint
  input_and_nat : Across Differ (rows_of_input net) (rows_of_nat net)
  input_and_nat =
      across_both (rows_of_input net) (router_nat_rows net) (nat_rule_rows net ++ lb_rows)
      (stages_apart is_of_input (rows_of_input net) (router_nat_rows net) of_input (in_stages is_of_input false _ _ (router_nat_units net) (router_nat_at (Tells is_of_input false) refl refl refl refl refl)))
      (both_across (router_in_rows net) (port_in_rows net) (nat_rule_rows net ++ lb_rows) (none_apart (router_in_rows net) (nat_rule_rows net ++ lb_rows) router_in_hints nat_some)
      (across_both (port_in_rows net) (nat_rule_rows net) lb_rows
      (hints_apart (router_port_ids net) (nat_ids net) (port_in_rows net) (nat_rule_rows net) (router_port_is_no_nat net sound) port_in_hints nat_rule_hints)
      (hints_apart (router_port_ids net) (lb_ids net) (port_in_rows net) lb_rows (router_port_is_no_lb net sound) port_in_hints lb_hints)))

  pub pairs_differ : OfPairs Differ (router_rows net)
  pairs_differ =
      pairs_append Differ (rows_of_input net) (rows_of_routes net ++ rows_of_nat net) input_apart
      (pairs_append Differ (rows_of_routes net) (rows_of_nat net) routes_apart nat_apart (stages_apart is_of_routes (rows_of_routes net) (rows_of_nat net) of_routes nat_no_routes))
      (across_both (rows_of_input net) (rows_of_routes net) (rows_of_nat net) (stages_back is_of_routes (rows_of_input net) (rows_of_routes net) input_no_routes of_routes) input_and_nat)

-- no two rows of the routers of a sound network agree
pub router_rows_apart : (net : Network) → IsSound net → AreApart (router_rows net)
router_rows_apart net sound = all_pairs Differ (router_rows net) (pairs_differ net sound)
