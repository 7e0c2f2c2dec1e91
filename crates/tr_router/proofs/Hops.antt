-- The hop of a packet leads out by a port of the router, from an address of that, to an address.
use Rattle.std.proofs.Common.{◌≡◌, ◌<◌, ◌^◌, Bool, true, false, cond, nat_lt, List, [], ◌∷◌, sym, refl, ◌∙◌, subst, ◌⊎◌, inl, inr, lit<}
use Rattle.std.specs.Prelude.{◌&&◌, Option, Some, None, fold, option_map, slice_get}
use Rattle.std.specs.List.{AllByRecursion, Contains, find}
use Rattle.std.specs.Option.{option_map_or}
use Rattle.std.proofs.lemmas.Bool.{and_parts, ltb-true}
use Rattle.std.proofs.lemmas.Option.{same_Some, none-some}
use Rattle.nv_base.specs.Block.{Block}
use Rattle.nv_base.specs.Ip4.{address}
use Rattle.nv_base.specs.declared.ip4.Ip4.{Ip4}
use Rattle.nv_base.specs.declared.object.ObjId.{ObjId}
use Rattle.nb_records.specs.declared.router.Route.{Route}
use Rattle.nb_records.specs.declared.router.RouterPort.{RouterPort}
use Rattle.nb_model.specs.Belongs.{same_policy}
use Rattle.nb_model.specs.Network.{Network, same}
use Rattle.nb_model.specs.Readable.{is_cleared, is_ip4, is_nexthop, may_name}
use Rattle.nb_model.specs.Sound.{IsSound}
use Rattle.nb_model.proofs.Lists.{same_is}
use Rattle.nb_model.proofs.Readable.{of_route}
use Rattle.nb_router.specs.Vocabulary.{ports_of}
use Rattle.nv_table.proofs.Found.{found_there}
use Rattle.net_router.specs.Input.{first_address, is_in_network, is_own}
use Rattle.net_router.specs.Routing.{Hop, Way, asking, hop_for, is_exit, longer, route, ways}
use Rattle.net_rows.proofs.Elements.{one_first, one_later, Contains-from_filter, Contains-from_map}
use Rattle.net_rows.proofs.Pairs.{every_member}
use Rattle.net_rows.proofs.Sound.{each_passes}
use Rattle.net_rows.proofs.SoundObjects.{IsBlock}
use Rattle.lr_units.proofs.SoundRouters.{router_port_is_sound}
use Rattle.ls_laws.proofs.Tables.{filter_passes}
use Rattle.lr_laws.proofs.RouteWays.{IsBy, IsCandidate, IsDirect, IsStatic, candidate-gives, candidates, kind_of, looked, static-gives, ways_are}
use Rattle.lr_laws.proofs.Ways.{Candidate}

-- the hop of a packet on a router
pub record IsHop (net : Network) (router : ObjId) (hop : Hop) : Type 0 where
  pub port : Contains net.router_ports hop.port
  pub of_router : hop.port.router ≡ router
  pub via : hop.via.0 < 2 ^ 32
  pub from : hop.from.0 < 2 ^ 32

-- the way that is taken is one of them
best_there : (ws : List Way) (first : Option Way) (best : Way) → fold longer first ws ≡ Some best → (first ≡ Some best) ⊎ Contains ws best
best_there [] first best is = inl is
best_there (w ∷ ws) first best is = by first (best_there ws (longer first w) best is)
  where
    by_length : (old : Way) (b : Bool) → (cond b (Some w) (Some old) ≡ Some best) → (Some old ≡ Some best) ⊎ Contains (w ∷ ws) best
    by_length old true same_one = inr (one_first w ws best (same_Some w best same_one))
    by_length old false same_one = inl same_one

    by : (old : Option Way) → (longer old w ≡ Some best) ⊎ Contains ws best → (old ≡ Some best) ⊎ Contains (w ∷ ws) best
    by old (inr later) = inr (one_later w ws best later)
    by None (inl same_one) = inr (one_first w ws best (same_Some w best same_one))
    by (Some old) (inl same_one) = by_length old (nat_lt old.len w.len) same_one

module _ (net : Network) (sound : IsSound net) where
  -- the address from which a port asks is one of its own
  pub block_of : (port : RouterPort) → Contains net.router_ports port → (own : Block) → Contains port.nets own → own.base.0 < 2 ^ 32
  block_of port there own at = (every_member IsBlock port.nets own (router_port_is_sound net sound port there).is.blocks at).base

  pub asking_fits : (port : RouterPort) → Contains net.router_ports port → (ip : Ip4) → (asking port ip).0 < 2 ^ 32
  asking_fits port there ip = by (find (is_in_network ip.0) port.nets) refl
    where
      first : (nets : List Block) → AllByRecursion IsBlock nets → (option_map_or (λ (own : Block). own.base) (slice_get nets 0) (address 0)).0 < 2 ^ 32
      first [] all = lit< tt
      first (own ∷ nets) all = all.0.base

      by : (found : Option Block) → find (is_in_network ip.0) port.nets ≡ found → (option_map_or (λ (own : Block). own.base) found (first_address port)).0 < 2 ^ 32
      by None is = first port.nets (router_port_is_sound net sound port there).is.blocks
      by (Some own) is = block_of port there own (found_there (is_in_network ip.0) own port.nets is).0

  pub nexthop_fits : (r : Route) → Contains net.routes r → r.nexthop.0 < 2 ^ 32
  nexthop_fits r there =
      let all = each_passes of_route net.routes r sound.readable.routes there in
      let both = and_parts (is_cleared r.prefix) (is_nexthop r.nexthop) (and_parts (is_cleared r.prefix && is_nexthop r.nexthop) (may_name r.port) all).0 in
      ltb-true r.nexthop.0 (2 ^ 32) (and_parts (is_ip4 r.nexthop) (nat_lt 0 r.nexthop.0) both.1).0

  module _ (router : ObjId) (src dst : Ip4) (fits : dst.0 < 2 ^ 32) where
    of_direct : (c : Candidate) → IsDirect net router src dst c → IsHop net router c.way.hop
    of_direct c of =
        subst (λ (d : Candidate). IsHop net router d.way.hop) (sym of.is)
        (record { port = of.among; of_router = of.of_router; via = fits; from = block_of of.port of.among of.own of.of_port })

    of_static : (c : Candidate) → IsStatic net router src dst c → IsHop net router c.way.hop
    of_static c of = subst (λ (d : Candidate). IsHop net router d.way.hop) (sym by_it.is) (record { port = there; of_router = its; via = nexthop_fits of.route of.among; from = asking_fits by_it.port there of.route.nexthop })
      where
        by_it : IsBy net router src dst (kind_of of.by) of.route c
        by_it = static-gives net router src dst (kind_of of.by) of.route c of.is

        among : Contains (ports_of net of.route.router) by_it.port
        among = (found_there (is_exit of.route of.route.port) by_it.port (ports_of net of.route.router) by_it.found).0

        there : Contains net.router_ports by_it.port
        there = Contains-from_filter (λ (p : RouterPort). same of.route.router p.router) net.router_ports by_it.port among

        taking : same of.route.router router ≡ true
        taking =
            let parts = and_parts (same of.route.router router && same_policy of.route.by of.by) (is_in_network (looked of.by src dst).0 of.route.prefix) of.taking in
            (and_parts (same of.route.router router) (same_policy of.route.by of.by) parts.0).0

        its : by_it.port.router ≡ router
        its = sym (same_is of.route.router by_it.port.router (filter_passes (λ (p : RouterPort). same of.route.router p.router) net.router_ports by_it.port among)) ∙ same_is of.route.router router taking

    of_candidate : (c : Candidate) → IsCandidate net router src dst c → IsHop net router c.way.hop
    of_candidate c (inl of) = of_direct c of
    of_candidate c (inr of) = of_static c of

    of_way : (w : Way) → fold longer None (ways net router src dst) ≡ Some w → IsHop net router w.hop
    of_way w is = by (best_there (ways net router src dst) None w is)
      where
        by : (None ≡ Some w) ⊎ Contains (ways net router src dst) w → IsHop net router w.hop
        by (inl none) = absurd (none-some w none)
        by (inr there) =
            let at = Contains-from_map (λ (c : Candidate). c.way) (candidates net router src dst) w (subst (λ ws. Contains ws w) (sym (ways_are net router src dst)) there) in
            subst (λ (v : Way). IsHop net router v.hop) at.2 (of_candidate at.0 (candidate-gives net router src dst at.0 at.1))

    of_route_is : (hop : Hop) → route net router src dst ≡ Some hop → IsHop net router hop
    of_route_is hop = by (fold longer None (ways net router src dst)) refl
      where
        by : (found : Option Way) → fold longer None (ways net router src dst) ≡ found → option_map (λ (way : Way). way.hop) found ≡ Some hop → IsHop net router hop
        by None is found = absurd (none-some hop found)
        by (Some w) is found = subst (IsHop net router) (same_Some w.hop hop found) (of_way w is)

    -- so it is with the hop of a packet
    pub hop_is : (hop : Hop) → hop_for net router src dst ≡ Some hop → IsHop net router hop
    hop_is hop = by (is_own net router dst.0)
      where
        by : (own : Bool) → cond own None (route net router src dst) ≡ Some hop → IsHop net router hop
        by true found = absurd (none-some hop found)
        by false found = of_route_is hop found
