-- The addresses of a router: which ports have them, and which of them are free.
use Rattle.std.proofs.Common.{◌≡◌, ℕ, Bool, true, false, List, [], ◌∷◌, eqb, sym, ap, refl, ◌∙◌}
use Rattle.std.specs.Prelude.{not}
use Rattle.std.specs.List.{flat_map}
use Rattle.std.proofs.lemmas.Bool.{eq-eqb, eqb-true, false≢true}
use Rattle.nv_base.specs.declared.ip4.Ip4.{Ip4}
use Rattle.nv_base.specs.declared.object.ObjId.{ObjId}
use Rattle.nb_records.specs.declared.router.Router.{Router}
use Rattle.nb_records.specs.declared.router.RouterPort.{RouterPort}
use Rattle.nb_model.specs.Applies.{is_empty}
use Rattle.nb_model.specs.Network.{Network, same}
use Rattle.nb_router.specs.Vocabulary.{addresses_at, external_addresses, is_address, ports_of}
use Rattle.net_meaning.specs.Switches.{is_among_ips}
use Rattle.net_router.specs.Input.{is_external, is_own}
use Rattle.net_rows.proofs.Elements.{any_from, any_gives, Contains-filter, Contains-flat_map, Contains-from_filter, Contains-from_flat_map}
use Rattle.ls_laws.proofs.Tables.{filter_passes}
use Rattle.lr_units.specs.Words.{free_addresses}
use Rattle.lr_laws.specs.Steps.{IsPortOf}

-- a port of the router that has the address
pub record HasAddress (net : Network) (router : Router) (ip : ℕ) : Type 0 where
  pub port : RouterPort
  pub its : IsPortOf net router port
  pub has : is_among_ips ip (addresses_at port) ≡ true

module _ (net : Network) (router : Router) where
  -- an address of a port is the router's own
  pub own-from : (ip : ℕ) (port : RouterPort) → IsPortOf net router port → is_among_ips ip (addresses_at port) ≡ true → is_own net router.id ip ≡ true
  own-from ip port its is =
      let found = any_gives (λ (a : Ip4). eqb a.0 ip) (addresses_at port) is in
      let among = Contains-filter (λ (p : RouterPort). same router.id p.router) net.router_ports port its.0 (eq-eqb router.id.0 port.router.0 (ap (λ (o : ObjId). o.0) (sym its.1))) in
      any_from (λ (a : Ip4). eqb a.0 ip) (flat_map addresses_at (ports_of net router.id)) found.0 (Contains-flat_map addresses_at (ports_of net router.id) port found.0 among found.1) found.2

  -- and each own address is one of a port
  pub own-gives : (ip : ℕ) → is_own net router.id ip ≡ true → HasAddress net router ip
  own-gives ip is =
      let found = any_gives (λ (a : Ip4). eqb a.0 ip) (flat_map addresses_at (ports_of net router.id)) is in
      let at = Contains-from_flat_map addresses_at (ports_of net router.id) found.0 found.1 in
      let number = eqb-true router.id.0 at.0.router.0 (filter_passes (λ (p : RouterPort). same router.id p.router) net.router_ports at.0 at.1) in
      record {
        port = at.0;
        its = (Contains-from_filter (λ (p : RouterPort). same router.id p.router) net.router_ports at.0 at.1, λ i. record { 0 = sym number i });
        has = any_from (λ (a : Ip4). eqb a.0 ip) (addresses_at at.0) found.0 at.2 found.2;
      }

  module _ (ip : ℕ) (port : RouterPort) (its : port.router ≡ router.id) where
    -- the address is not external
    abbrev is_free : Ip4 → Bool
    is_free addr = not (is_address addr (external_addresses net port.router))

    -- an address of a port that is free is not external
    pub free-gives : is_among_ips ip (free_addresses net port) ≡ true → (is_among_ips ip (addresses_at port) ≡ true) × (not (is_external net router.id ip) ≡ true)
    free-gives is =
        let found = any_gives (λ (a : Ip4). eqb a.0 ip) (free_addresses net port) is in
        let apart : not (is_external net port.router found.0.0) ≡ true = filter_passes is_free (addresses_at port) found.0 found.1 in (
          any_from (λ (a : Ip4). eqb a.0 ip) (addresses_at port) found.0 (Contains-from_filter is_free (addresses_at port) found.0 found.1) found.2,
          (λ i. not (is_external net (sym its i) (sym (eqb-true found.0.0 ip found.2) i))) ∙ apart,
        )

    -- and one that is not external is free
    pub free-from : is_among_ips ip (addresses_at port) ≡ true → not (is_external net router.id ip) ≡ true → is_among_ips ip (free_addresses net port) ≡ true
    free-from is apart =
        let found = any_gives (λ (a : Ip4). eqb a.0 ip) (addresses_at port) is in
        let free : is_free found.0 ≡ true = (λ i. not (is_external net (its i) (eqb-true found.0.0 ip found.2 i))) ∙ apart in
        any_from (λ (a : Ip4). eqb a.0 ip) (free_addresses net port) found.0 (Contains-filter is_free (addresses_at port) found.0 found.1 free) found.2

-- a list with such an address is not empty
pub not_empty : (ip : ℕ) (addrs : List Ip4) → is_among_ips ip addrs ≡ true → is_empty addrs ≡ false
not_empty ip [] is = absurd (false≢true is)
not_empty ip (addr ∷ addrs) is = refl
