-- The external addresses of a router, as they are collected and looked for.
use Rattle.std.proofs.Common.{◌≡◌, List, ◌++◌, map, sym, ap, subst, ◌∙◌, ◌⊎◌, inl, inr, ◌&&◌, not}
use Rattle.std.specs.Prelude.{◌==◌, ◌↔◌, filter, find, Option, Some}
use Rattle.std.specs.List.{Contains, flat_map}
use Rattle.std.proofs.lemmas.Bool.{and_parts}
use Rattle.std.proofs.lemmas.List.Elements.{Contains-append_cases, Contains-append_left, Contains-append_right}
use Rattle.nv_base.specs.declared.ip4.Ip4.{Ip4}
use Rattle.nv_base.specs.declared.object.ObjId.{ObjId}
use Rattle.nb_records.specs.declared.router.Router.{Router}
use Rattle.nb_records.specs.declared.router.RouterPort.{RouterPort}
use Rattle.nb_model.specs.Network.{Network, same}
use Rattle.nb_model.specs.Sound.{IsSound}
use Rattle.nb_router.specs.Vocabulary.{addresses_at, external_addresses, is_address, lbs_of, nats_of, vip_addresses}
use Rattle.nb_store.proofs.Peering.{found_passes}
use Rattle.nv_table.specs.Table.{is_after, record_of}
use Rattle.lr_units.specs.Words.{free_addresses}
use Rattle.nd_router.specs.inner.Externals.{AreExternal}
use Rattle.nd_inputs.specs.inner.Numbered.{of_number}
use Rattle.nd_inputs.proofs.Any.{any_members, is_that}
use Rattle.nd_inputs.proofs.Attached.{from_attached, to_attached}

-- an element of two lists, where the second has those of another one
second_part : {X : Type 0} (xs ys zs : List X) (x : X) → (Contains ys x → Contains zs x) → Contains (xs ++ ys) x → Contains (xs ++ zs) x
second_part {X} xs ys zs x back at = by (Contains-append_cases xs ys x at)
  where
    by : Contains xs x ⊎ Contains ys x → Contains (xs ++ zs) x
    by (inl there) = Contains-append_left xs zs x there
    by (inr there) = Contains-append_right xs zs x (back there)

module _ (net : Network) (router : Router) where
  -- those of the NAT rules, and those of the load balancers that the router lists
  abbrev collected : List Ip4
  collected = map (λ nat. nat.external) (nats_of net router.id) ++ flat_map (of_number net vip_addresses) router.lbs

  pub are_collected : IsSound net → record_of (λ (r : Router). r.id) router.id net.routers ≡ Some router → (addrs : List Ip4) → addrs ≡ collected → AreExternal net router.id addrs
  are_collected sound there addrs is = record { are = λ addr. ap (is_address addr) is ∙ any_members (λ other. other.0 == addr.0) collected (external_addresses net router.id) members }
    where
      of_nats : List Ip4
      of_nats = map (λ nat. nat.external) (nats_of net router.id)

      members : (addr : Ip4) → Contains collected addr ↔ Contains (external_addresses net router.id) addr
      members addr = (
        second_part of_nats (flat_map (of_number net vip_addresses) router.lbs) (flat_map vip_addresses (lbs_of net router.id)) addr (to_attached net sound router there vip_addresses addr),
        second_part of_nats (flat_map vip_addresses (lbs_of net router.id)) (flat_map (of_number net vip_addresses) router.lbs) addr (from_attached net sound router there vip_addresses addr),
      )

module _ (net : Network) (addrs : List Ip4) where
  -- those of the router of a port that is found on it
  pub at_port : (router : ObjId) (after : Option ObjId) (port : RouterPort) → AreExternal net router addrs → Some port ≡ find (λ (p : RouterPort). is_after after p.id && same router p.router) net.router_ports → AreExternal net port.router addrs
  at_port router after port are found =
      let on = and_parts (is_after after port.id) (same router port.router) (found_passes (λ (p : RouterPort). is_after after p.id && same router p.router) net.router_ports port (sym found)) in
      subst (λ (n : ObjId). AreExternal net n addrs) (is_that router port.router on.1) are

  -- the others of a port are free
  pub are_free : (port : RouterPort) → AreExternal net port.router addrs → filter (λ addr. not (is_address addr addrs)) (addresses_at port) ≡ free_addresses net port
  are_free port external = ap (λ (test : Ip4 → _). filter (λ addr. not (test addr)) (addresses_at port)) (λ i addr. external.are addr i)
