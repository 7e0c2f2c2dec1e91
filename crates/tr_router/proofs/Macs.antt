-- The MAC that a next host has is one of 48 bits, where what was learnt is.
use Rattle.std.proofs.Common.{◌≡◌, ℕ, ◌<◌, ◌^◌, Bool, true, false, cond, nat_lt, List, [], ◌∷◌, refl, subst, lit<}
use Rattle.std.specs.Prelude.{◌&&◌, ◌==◌, Option, Some, None, option_map, option_and_then, unwrap_or}
use Rattle.std.specs.Option.{option_map_or}
use Rattle.std.specs.Bool.{IsTrue}
use Rattle.std.specs.List.{Contains, find, flat_map, list_all}
use Rattle.std.proofs.lemmas.Bool.{and_parts, ltb-true}
use Rattle.std.proofs.lemmas.Option.{same_Some, none-some}
use Rattle.nv_base.specs.declared.ip4.Ip4.{Ip4}
use Rattle.ct_core.specs.declared.neighbour.Neighbour.{Neighbour}
use Rattle.ct_core.specs.Neighbours.{IsNeighbour, is_of, mac_of}
use Rattle.ct_core.specs.State.{State}
use Rattle.nb_read.specs.Readings.{is_unicast}
use Rattle.nb_records.specs.declared.router.Binding.{Binding}
use Rattle.nb_records.specs.declared.router.RouterPort.{RouterPort}
use Rattle.nb_records.specs.declared.switch.Addr.{Addr}
use Rattle.nb_records.specs.declared.switch.Addr.TheVariants as addr
use Rattle.nb_records.specs.declared.switch.Port.{Port}
use Rattle.nb_model.specs.Belongs.{either, is_port, is_to_router, peer_port, peer_router_port}
use Rattle.nb_model.specs.Network.{Network, same}
use Rattle.nb_model.specs.Readable.{is_ip4, is_mac, macs_of}
use Rattle.nb_model.specs.Sound.{IsSound}
use Rattle.nb_model.proofs.Readable.{of_binding}
use Rattle.nb_router.specs.Vocabulary.{addresses_at}
use Rattle.nv_table.proofs.Found.{found_there}
use Rattle.net_meaning.specs.Switches.{has_ip, is_among_ips, mac_with}
use Rattle.net_router.specs.Resolution.{bound_mac, is_beside, mac_at, mac_beyond, mac_for, router_mac}
use Rattle.net_rows.proofs.Pairs.{every_member}
use Rattle.net_rows.proofs.Sound.{each_passes, port_of_sound, ports_rise}
use Rattle.lr_laws.proofs.Hosts.{IsFirst, first-gives}
use Rattle.tr_router.specs.Parts.{IsState}
use Rattle.tr_router.proofs.Networks.{mac_fits}

abbrev pub IsMac : ℕ → Type 0
IsMac mac = mac < 2 ^ 48

pub mac_is : (mac : ℕ) → IsTrue (is_mac mac) → IsMac mac
mac_is mac is = ltb-true mac (2 ^ 48) (and_parts (nat_lt mac (2 ^ 48)) (is_unicast mac) is).0

-- the MAC that goes with an address is one of the port's
with_fits : (ip : ℕ) (addresses : List Addr) → IsTrue (list_all is_mac (flat_map macs_of addresses)) → IsMac (mac_with ip addresses)
with_fits ip [] all = lit< tt
with_fits ip (addr.Unknown ∷ addresses) all = with_fits ip addresses all
with_fits ip (addr.Router ∷ addresses) all = with_fits ip addresses all
with_fits ip (addr.Host mac ips ∷ addresses) all =
    let parts = and_parts (is_mac mac) (list_all is_mac (flat_map macs_of addresses)) all in
    by (is_among_ips ip ips) (mac_is mac parts.0) (with_fits ip addresses parts.1)
  where
    by : (b : Bool) → IsMac mac → IsMac (mac_with ip addresses) → IsMac (cond b mac (mac_with ip addresses))
    by true here rest = here
    by false here rest = rest

-- a MAC, where there is one
abbrev pub MayBeMac : Option ℕ → Type 0
MayBeMac found = (mac : ℕ) → found ≡ Some mac → IsMac mac

module _ (net : Network) (sound : IsSound net) where
  bound_fits : (port : RouterPort) (ip : Ip4) → MayBeMac (bound_mac net port ip)
  bound_fits port ip mac = by (find (λ (own : Binding). same own.port port.id && (own.addr.0 == ip.0)) net.bindings) refl
    where
      by : (found : Option Binding) → find (λ (own : Binding). same own.port port.id && (own.addr.0 == ip.0)) net.bindings ≡ found → option_map (λ (own : Binding). own.mac) found ≡ Some mac → IsMac mac
      by None is at = absurd (none-some mac at)
      by (Some own) is at =
          let there = (found_there (λ (b : Binding). same b.port port.id && (b.addr.0 == ip.0)) own net.bindings is).0 in
          subst IsMac (same_Some own.mac mac at) (mac_is own.mac (and_parts (is_ip4 own.addr) (is_mac own.mac) (each_passes of_binding net.bindings own sound.readable.bindings there)).1)

  pub at_fits : (ip : Ip4) (port : Port) → Contains net.ports port → MayBeMac (mac_at net ip port)
  at_fits ip port there mac = by (is_to_router port) (peer_router_port net port) refl
    where
      of_peer : (peer : RouterPort) → IsMac peer.mac → (b : Bool) → cond b (Some peer.mac) None ≡ Some mac → IsMac mac
      of_peer peer fits true at = subst IsMac (same_Some peer.mac mac at) fits
      of_peer peer fits false at = absurd (none-some mac at)

      of_host : (b : Bool) → cond b (Some (mac_with ip.0 port.addresses)) None ≡ Some mac → IsMac mac
      of_host true at = subst IsMac (same_Some (mac_with ip.0 port.addresses) mac at) (with_fits ip.0 port.addresses (port_of_sound net sound port there).unicast)
      of_host false at = absurd (none-some mac at)

      by : (to_router : Bool) (peer : Option RouterPort) → peer_router_port net port ≡ peer
          → cond to_router (option_and_then (router_mac ip) peer) (cond (has_ip ip.0 port) (Some (mac_with ip.0 port.addresses)) None) ≡ Some mac → IsMac mac
      by true None is at = absurd (none-some mac at)
      by true (Some peer) is at =
          of_peer peer (mac_fits net sound peer (found_there (λ (other : RouterPort). is_port port (peer_port net other)) peer net.router_ports is).0) (is_among_ips ip.0 (addresses_at peer)) at
      by false peer is at = of_host (has_ip ip.0 port) at

  beyond_fits : (ip : Ip4) (peer : Option Port) → MayBeMac (mac_beyond net ip peer)
  beyond_fits ip None mac at = absurd (none-some mac at)
  beyond_fits ip (Some peer) mac at =
      let first : IsFirst (is_beside peer) (mac_at net ip) net.ports mac = first-gives (is_beside peer) (mac_at net ip) net.ports mac (ports_rise net sound) at in
      at_fits ip first.port first.among mac first.finds_it

  module _ (state : State) (are : IsState state) where
    learnt_fits : (port : RouterPort) (ip : Ip4) → IsMac (mac_of state.nbrs port.id ip)
    learnt_fits port ip = by (find (is_of port.id ip) state.nbrs) refl
      where
        by : (found : Option Neighbour) → find (is_of port.id ip) state.nbrs ≡ found → IsMac (option_map_or (λ (n : Neighbour). n.mac) found 0)
        by None is = lit< tt
        by (Some n) is = (every_member IsNeighbour state.nbrs n are.nbrs.fit (found_there (is_of port.id ip) n state.nbrs is).0).mac

    -- so it is with that of the next host
    pub mac_for_fits : (port : RouterPort) (ip : Ip4) → mac_for net port ip state.nbrs < 2 ^ 48
    mac_for_fits port ip = by (bound_mac net port ip) refl (mac_beyond net ip (peer_port net port)) refl
      where
        by : (bound : Option ℕ) → bound_mac net port ip ≡ bound → (beyond : Option ℕ) → mac_beyond net ip (peer_port net port) ≡ beyond → IsMac (unwrap_or (either bound beyond) (mac_of state.nbrs port.id ip))
        by (Some mac) is beyond of = bound_fits port ip mac is
        by None is (Some mac) of = beyond_fits ip (peer_port net port) mac of
        by None is None of = learnt_fits port ip
