-- The ways from a source to a destination, each with what its rule is of.
use Rattle.std.proofs.Common.{◌≡◌, ◌≢◌, ℕ, ◌+◌, ◌-◌, ◌*◌, ◌/◌, ◌^◌, true, false, List, [], ◌∷◌, ◌++◌, map, eqb, sym, ap, refl, ◌∙◌, ◌⊎◌, inl, inr, lit<}
use Rattle.std.specs.Prelude.{◌&&◌, Option, Some, None, filter, option_map}
use Rattle.std.specs.List.{Contains, filter_map, flat_map}
use Rattle.std.proofs.lemmas.Bool.{false≢true, eq-eqb, eqb-true, or_right}
use Rattle.std.proofs.lemmas.List.Elements.{Contains-append_left, Contains-append_right}
use Rattle.std.proofs.lemmas.Option.{same_Some, none-some}
use Rattle.nv_base.specs.Block.{Block}
use Rattle.nv_base.specs.declared.ip4.Ip4.{Ip4}
use Rattle.nv_base.specs.declared.object.ObjId.{ObjId}
use Rattle.nb_read.specs.Lists.{is_same_network}
use Rattle.nb_read.specs.Readings.{cleared}
use Rattle.nb_records.specs.declared.router.Route.{Route}
use Rattle.nb_records.specs.declared.router.RouteBy.{RouteBy}
use Rattle.nb_records.specs.declared.router.RouteBy.TheVariants.{Dst, Src}
use Rattle.nb_records.specs.declared.router.RouterPort.{RouterPort}
use Rattle.nb_model.specs.Addresses.{size_of}
use Rattle.nb_model.specs.Network.{Network, same}
use Rattle.nb_model.specs.Sound.{IsSound}
use Rattle.nb_router.specs.Vocabulary.{ports_of}
use Rattle.net_router.specs.Input.{is_in_network}
use Rattle.net_router.specs.Routing.{Way, asking, direct_ways, exit_of, hop_by, takes, way_of, ways}
use Rattle.net_rows.proofs.Elements.{Contains-filter, Contains-flat_map, Contains-from_filter, Contains-from_flat_map, Contains-from_map, Contains-map}
use Rattle.net_rows.proofs.Pairs.{OfPairs, every_from_members, pairs_append, pairs_as, pairs_filter, pairs_flat_map, pairs_map, pairs_weaker}
use Rattle.lr_rows.specs.Routes.{priority_of_route}
use Rattle.lr_units.proofs.Numbers as numbers
use Rattle.lr_units.proofs.Numbers.{router_ports_rise, routes_rise}
use Rattle.lr_units.proofs.SoundRouters.{OtherNets, router_port_is_sound}
use Rattle.ls_laws.proofs.Tables.{filter_passes}
use Rattle.lr_laws.proofs.Members.{of_either}
use Rattle.lr_laws.proofs.Ways.{Before, Candidate, filter_map_pieces, map_append, map_pieces, option_from, option_gives, option_list, option_pairs}

-- two networks of a port that both have an address have other lengths
lens_differ : (n : ℕ) (p q : Block) → is_in_network n p ≡ true → is_in_network n q ≡ true → is_same_network p q ≡ false → p.len ≢ q.len
lens_differ n p q in_p in_q apart same_len =
    false≢true
    (sym apart ∙ or_right (eqb p.base.0 q.base.0) (eqb (cleared p).base.0 (cleared q).base.0 && eqb p.len q.len) (rw (eq-eqb (cleared p).base.0 (cleared q).base.0 same_base, eq-eqb p.len q.len same_len) refl))
  where
    same_base : p.base.0 / size_of p * size_of p ≡ q.base.0 / size_of q * size_of q
    same_base =
        ap (λ m. m * size_of p) (sym (eqb-true (n / size_of p) (p.base.0 / size_of p) in_p)) ∙ ap (λ l. n / 2 ^ (32 - l) * 2 ^ (32 - l)) same_len
        ∙ ap (λ m. m * size_of q) (eqb-true (n / size_of q) (q.base.0 / size_of q) in_q)

map_map : {X Y Z : Type 0} (f : Y → Z) (g : X → Y) (xs : List X) → map f (map g xs) ≡ map (λ x. f (g x)) xs
map_map f g [] = refl
map_map f g (x ∷ xs) = ap (λ zs. f (g x) ∷ zs) (map_map f g xs)

-- how a policy ranks, and the address that it looks at
abbrev pub kind_of : RouteBy → ℕ
kind_of Dst = 2
kind_of Src = 1

abbrev pub looked : RouteBy → Ip4 → Ip4 → Ip4
looked Dst src dst = dst
looked Src src dst = src

pub rank_is : (by : RouteBy) (prefix : Block) → priority_of_route by prefix ≡ 4 * prefix.len + kind_of by
rank_is Dst prefix = refl
rank_is Src prefix = refl

module _ (net : Network) (router : ObjId) (src dst : Ip4) where
  abbrev pub direct_candidate : RouterPort → Block → Candidate
  direct_candidate port own = record { way = record { len = own.len; hop = hop_by port dst own.base }; kind = 3; hint = port.id.0 }

  abbrev of_port : RouterPort → List Candidate
  of_port port = map (direct_candidate port) (filter (is_in_network dst.0) port.nets)

  abbrev pub static_candidate : ℕ → Route → Option Candidate
  static_candidate kind route = option_map (λ way. record { way = way; kind = kind; hint = route.id.0 }) (way_of net route)

  abbrev of_routes : ℕ → List Route → List Candidate
  of_routes kind routes = flat_map (λ route. option_list (static_candidate kind route)) routes

  abbrev its_routes : RouteBy → List Route
  its_routes by = filter (takes router by (looked by src dst)) net.routes

  abbrev of_ports : List Candidate
  of_ports = flat_map of_port (ports_of net router)

  abbrev by_destination : List Candidate
  by_destination = of_routes 2 (its_routes Dst)

  abbrev by_source : List Candidate
  by_source = of_routes 1 (its_routes Src)

  abbrev pub candidates : List Candidate
  candidates = of_ports ++ by_destination ++ by_source

  -- ---- they are the ways

  abbrev way : Candidate → Way
  way c = c.way

  routes_are : (kind : ℕ) (routes : List Route) → map way (of_routes kind routes) ≡ filter_map (way_of net) routes
  routes_are kind routes =
      map_pieces way (λ route. option_list (static_candidate kind route)) (λ route. option_list (way_of net route)) routes (λ route. by (way_of net route) route) ∙ filter_map_pieces (way_of net) routes
    where
      by : (o : Option Way) (route : Route) → map way (option_list (option_map (λ w. record { way = w; kind = kind; hint = route.id.0 }) o)) ≡ option_list o
      by None route = refl
      by (Some w) route = refl

  pub ways_are : map way candidates ≡ ways net router src dst
  ways_are =
      map_append way (of_ports ++ by_destination) by_source
      ∙ (λ i. (map_append way of_ports by_destination ∙ (λ j. ports_are j ++ routes_are 2 (its_routes Dst) j)) i ++ routes_are 1 (its_routes Src) i)
    where
      ports_are : map way of_ports ≡ flat_map (direct_ways dst) (ports_of net router)
      ports_are = map_pieces way of_port (direct_ways dst) (ports_of net router) (λ port. map_map way (direct_candidate port) (filter (is_in_network dst.0) port.nets))

  -- ---- each is one of these

  pub record IsDirect (c : Candidate) : Type 0 where
    pub port : RouterPort
    pub among : Contains net.router_ports port
    pub own : Block
    pub of_port : Contains port.nets own
    pub has : is_in_network dst.0 own ≡ true
    pub of_router : port.router ≡ router
    pub is : c ≡ direct_candidate port own

  pub record IsStatic (c : Candidate) : Type 0 where
    pub by : RouteBy
    pub route : Route
    pub among : Contains net.routes route
    pub taking : takes router by (looked by src dst) route ≡ true
    pub is : static_candidate (kind_of by) route ≡ Some c

  abbrev pub IsCandidate : Candidate → Type 0
  IsCandidate c = IsDirect c ⊎ IsStatic c

  own_router : (port : RouterPort) → same router port.router ≡ true → port.router ≡ router
  own_router port is = let number = eqb-true router.0 port.router.0 is in λ i. record { 0 = sym number i }

  from_ports : (c : Candidate) → Contains of_ports c → IsDirect c
  from_ports c there =
      let at = Contains-from_flat_map of_port (ports_of net router) c there in
      let from = Contains-from_map (direct_candidate at.0) (filter (is_in_network dst.0) at.0.nets) c at.2 in
      record {
        port = at.0;
        among = Contains-from_filter (λ (p : RouterPort). same router p.router) net.router_ports at.0 at.1;
        own = from.0;
        of_port = Contains-from_filter (is_in_network dst.0) at.0.nets from.0 from.1;
        has = filter_passes (is_in_network dst.0) at.0.nets from.0 from.1;
        of_router = own_router at.0 (filter_passes (λ (p : RouterPort). same router p.router) net.router_ports at.0 at.1);
        is = sym from.2;
      }

  from_routes : (by : RouteBy) (c : Candidate) → Contains (of_routes (kind_of by) (its_routes by)) c → IsStatic c
  from_routes by c there =
      let at = Contains-from_flat_map (λ route. option_list (static_candidate (kind_of by) route)) (its_routes by) c there in
      record {
        by = by;
        route = at.0;
        among = Contains-from_filter (takes router by (looked by src dst)) net.routes at.0 at.1;
        taking = filter_passes (takes router by (looked by src dst)) net.routes at.0 at.1;
        is = option_gives (static_candidate (kind_of by) at.0) c at.2;
      }

  pub candidate-gives : (c : Candidate) → Contains candidates c → IsCandidate c
  candidate-gives c =
      of_either (of_ports ++ by_destination) by_source c (of_either of_ports by_destination c (λ at. inl (from_ports c at)) (λ at. inr (from_routes Dst c at))) (λ at. inr (from_routes Src c at))

  pub direct-from : (port : RouterPort) → Contains net.router_ports port → port.router ≡ router → (own : Block) → Contains port.nets own → is_in_network dst.0 own ≡ true → Contains candidates (direct_candidate port own)
  direct-from port there of_router own in_port has =
      let c = direct_candidate port own in
      let its = Contains-filter (λ (p : RouterPort). same router p.router) net.router_ports port there (eq-eqb router.0 port.router.0 (ap (λ (o : ObjId). o.0) (sym of_router))) in
      Contains-append_left (of_ports ++ by_destination) by_source c
      (Contains-append_left of_ports by_destination c
      (Contains-flat_map of_port (ports_of net router) port c its
      (Contains-map (direct_candidate port) (filter (is_in_network dst.0) port.nets) own (Contains-filter (is_in_network dst.0) port.nets own in_port has))))

  pub static-from : (by : RouteBy) (route : Route) → Contains net.routes route → takes router by (looked by src dst) route ≡ true → (c : Candidate) → static_candidate (kind_of by) route ≡ Some c → Contains candidates c
  static-from Dst route there taking c is =
      Contains-append_left (of_ports ++ by_destination) by_source c
      (Contains-append_right of_ports by_destination c
      (Contains-flat_map (λ r. option_list (static_candidate 2 r)) (its_routes Dst) route c (Contains-filter (takes router Dst dst) net.routes route there taking) (option_from (static_candidate 2 route) c is)))
  static-from Src route there taking c is =
      Contains-append_right (of_ports ++ by_destination) by_source c
      (Contains-flat_map (λ r. option_list (static_candidate 1 r)) (its_routes Src) route c (Contains-filter (takes router Src src) net.routes route there taking) (option_from (static_candidate 1 route) c is))

  -- a static one is by the port of its route
  pub record IsBy (kind : ℕ) (route : Route) (c : Candidate) : Type 0 where
    pub port : RouterPort
    pub found : exit_of net route ≡ Some port
    pub is : c ≡ record { way = record { len = route.prefix.len; hop = hop_by port route.nexthop (asking port route.nexthop) }; kind = kind; hint = route.id.0 }

  pub static-gives : (kind : ℕ) (route : Route) (c : Candidate) → static_candidate kind route ≡ Some c → IsBy kind route c
  static-gives kind route c = by (exit_of net route) refl
    where
      by : (o : Option RouterPort) → exit_of net route ≡ o
          → option_map (λ w. record { way = w; kind = kind; hint = route.id.0 }) (option_map (λ (port : RouterPort). record { len = route.prefix.len; hop = hop_by port route.nexthop (asking port route.nexthop) }) o) ≡ Some c → IsBy kind route c
      by None found is = absurd (none-some c is)
      by (Some port) found is = record { port = port; found = found; is = sym (same_Some _ c is) }

  -- ---- and they stand in order

  -- of routes with the higher number later
  static_pairs : (kind : ℕ) (routes : List Route) → OfPairs (numbers.Before (λ (r : Route). r.id)) routes → OfPairs Before (of_routes kind routes)
  static_pairs kind routes rise =
      pairs_flat_map Before (λ route. option_list (static_candidate kind route)) routes (every_from_members _ routes (λ route there. option_pairs Before (static_candidate kind route)))
      (pairs_as (numbers.Before (λ (r : Route). r.id)) _ routes
      (λ r s less c d in_c in_d.
      let of_c = static-gives kind r c (option_gives (static_candidate kind r) c in_c) in
      let of_d = static-gives kind s d (option_gives (static_candidate kind s) d in_d) in
      inr (ap (λ (x : Candidate). x.kind) of_d.is ∙ sym (ap (λ (x : Candidate). x.kind) of_c.is), inl (rw (ap (λ (x : Candidate). x.hint) of_c.is, ap (λ (x : Candidate). x.hint) of_d.is) less))) rise)

  module _ (sound : IsSound net) where
    port_pairs : (port : RouterPort) → Contains net.router_ports port → OfPairs Before (of_port port)
    port_pairs port there =
        pairs_map Before (direct_candidate port) (filter (is_in_network dst.0) port.nets)
        (pairs_weaker (λ (own : Block). is_in_network dst.0 own ≡ true) OtherNets _ (filter (is_in_network dst.0) port.nets) (λ p q in_p in_q apart. inr (refl, inr (lens_differ dst.0 p q in_p in_q apart)))
        (every_from_members _ (filter (is_in_network dst.0) port.nets) (λ own at. filter_passes (is_in_network dst.0) port.nets own at))
        (pairs_filter OtherNets (is_in_network dst.0) port.nets (router_port_is_sound net sound port there).apart))

    ports_pairs : OfPairs Before of_ports
    ports_pairs =
        pairs_flat_map Before of_port (ports_of net router)
        (every_from_members _ (ports_of net router) (λ port there. port_pairs port (Contains-from_filter (λ (p : RouterPort). same router p.router) net.router_ports port there)))
        (pairs_as (numbers.Before (λ (p : RouterPort). p.id)) _ (ports_of net router)
        (λ p q less c d in_c in_d.
        let of_c = Contains-from_map (direct_candidate p) (filter (is_in_network dst.0) p.nets) c in_c in
        let of_d = Contains-from_map (direct_candidate q) (filter (is_in_network dst.0) q.nets) d in_d in
        inr (sym (ap (λ (x : Candidate). x.kind) of_d.2) ∙ ap (λ (x : Candidate). x.kind) of_c.2, inl (rw (sym (ap (λ (x : Candidate). x.hint) of_c.2), sym (ap (λ (x : Candidate). x.hint) of_d.2)) less)))
        (pairs_filter (numbers.Before (λ (p : RouterPort). p.id)) (λ (p : RouterPort). same router p.router) net.router_ports (router_ports_rise net sound)))

    -- the kind of each
    of_kind : (by : RouteBy) (c : Candidate) → Contains (of_routes (kind_of by) (its_routes by)) c → c.kind ≡ kind_of by
    of_kind by c there =
        let at = Contains-from_flat_map (λ route. option_list (static_candidate (kind_of by) route)) (its_routes by) c there in
        ap (λ (x : Candidate). x.kind) (static-gives (kind_of by) at.0 c (option_gives (static_candidate (kind_of by) at.0) c at.2)).is

    of_port_kind : (c : Candidate) → Contains of_ports c → c.kind ≡ 3
    of_port_kind c there = ap (λ (x : Candidate). x.kind) (from_ports c there).is

    pub candidates_pairs : OfPairs Before candidates
    candidates_pairs =
        pairs_append Before (of_ports ++ by_destination) by_source
        (pairs_append Before of_ports by_destination ports_pairs
        (static_pairs 2 (its_routes Dst) (pairs_filter (numbers.Before (λ (r : Route). r.id)) (takes router Dst dst) net.routes (routes_rise net sound)))
        (λ c d in_c in_d. inl (rw (of_port_kind c in_c, of_kind Dst d in_d) (lit< tt))))
        (static_pairs 1 (its_routes Src) (pairs_filter (numbers.Before (λ (r : Route). r.id)) (takes router Src src) net.routes (routes_rise net sound)))
        (λ c d in_c in_d.
        inl
        (of_either of_ports by_destination c (λ at. rw (of_port_kind c at, of_kind Src d in_d) (lit< tt)) (λ at. rw (of_kind Dst c at, of_kind Src d in_d) (lit< tt)) in_c))
