-- No two hosts at a port of a sound network have one address, and no two router ports have one name.
use Rattle.std.proofs.Common.{◌≡◌, ◌≢◌, ℕ, Bool, true, false, eqb, ◌&&◌, List, [], ◌∷◌, ◌++◌, map, refl, sym, ap, subst, ◌∙◌}
use Rattle.std.specs.Prelude.{Option, Some, None, if◌then◌else◌}
use Rattle.std.specs.List.{AllByRecursion, Contains, flat_map}
use Rattle.std.specs.Str.{bytes_eq}
use Rattle.std.proofs.lemmas.Bool.{eq-eqb, false≢true, or_left}
use Rattle.std.proofs.lemmas.List.{map-append}
use Rattle.std.proofs.lemmas.Slice.Eq.{bytes_eq-Decides}
use Rattle.nv_base.specs.Block.{Block}
use Rattle.nv_base.specs.declared.ip4.Ip4.{Ip4}
use Rattle.nb_records.specs.declared.router.RouterPort.{RouterPort}
use Rattle.nb_records.specs.declared.switch.Addr.{Addr}
use Rattle.nb_records.specs.declared.switch.Addr.TheVariants as addr
use Rattle.nb_records.specs.declared.switch.Port.{Port}
use Rattle.nb_read.specs.Readings.{cleared}
use Rattle.nb_model.specs.Belongs.{is_port, is_to_router, peer_port, peer_router_port}
use Rattle.nb_model.specs.Network.{Network}
use Rattle.nb_model.specs.Readable.{ips_of}
use Rattle.nb_model.specs.Sound.{IsSound}
use Rattle.nb_router.specs.Vocabulary.{addresses_at}
use Rattle.nv_table.proofs.Found.{found_there}
use Rattle.net_rows.proofs.Pairs.{OfPairs, pairs_as, pairs_map, pairs_parts}
use Rattle.net_rows.proofs.SoundObjects.{Unlike, port_is_sound, unlike_pairs}
use Rattle.lr_rows.specs.declared.inputs.Host.{Host}
use Rattle.lr_units.specs.Words.{hosts_at, hosts_of, hosts_of_peer}
use Rattle.lr_units.proofs.ApartRules.{OtherHosts}
use Rattle.lr_units.proofs.SoundRouters.{OtherNets, router_port_is_sound}

-- what holds of every two images holds of their elements
pairs_unmap : {X Y : Type 0} (R : Y → Y → Type 0) (f : X → Y) (xs : List X) → OfPairs R (map f xs) → OfPairs (λ x y. R (f x) (f y)) xs
pairs_unmap R f [] of = tt
pairs_unmap {X} R f (x ∷ xs) of = (later xs of.0, pairs_unmap R f xs of.1)
  where
    later : (ys : List X) → AllByRecursion (R (f x)) (map f ys) → AllByRecursion (λ y. R (f x) (f y)) ys
    later [] all = tt
    later (y ∷ ys) all = (all.0, later ys all.1)

-- two addresses
abbrev OtherIps : Ip4 → Ip4 → Type 0
OtherIps a b = a.0 ≢ b.0

-- ---- hosts

-- the addresses of the hosts that addresses tell are their IPv4 addresses
same_ips : (mac : ℕ) (ips : List Ip4) → map (λ (host : Host). host.addr) (hosts_of (addr.Host mac ips)) ≡ ips
same_ips mac [] = refl
same_ips mac (ip ∷ ips) = ap (λ xs. ip ∷ xs) (same_ips mac ips)

ips_of_address : (address : Addr) → map (λ (host : Host). host.addr) (hosts_of address) ≡ ips_of address
ips_of_address addr.Unknown = refl
ips_of_address addr.Router = refl
ips_of_address (addr.Host mac ips) = same_ips mac ips

ips_of_all : (addresses : List Addr) → map (λ (host : Host). host.addr) (flat_map hosts_of addresses) ≡ flat_map ips_of addresses
ips_of_all [] = refl
ips_of_all (address ∷ addresses) =
    map-append (λ (host : Host). host.addr) (hosts_of address) (flat_map hosts_of addresses)
    ∙ ap (λ xs. xs ++ map (λ (host : Host). host.addr) (flat_map hosts_of addresses)) (ips_of_address address)
    ∙ ap (λ xs. ips_of address ++ xs) (ips_of_all addresses)

module _ (net : Network) (sound : IsSound net) where
  -- those of a router port
  peer_apart : (peer : Option RouterPort) → ((port : RouterPort) → peer ≡ Some port → Contains net.router_ports port) → OfPairs OtherHosts (hosts_of_peer peer)
  peer_apart None there = tt
  peer_apart (Some peer) there =
      pairs_map OtherHosts (λ (ip : Ip4). record { mac = peer.mac; addr = ip }) (addresses_at peer)
      (pairs_map OtherIps (λ (n : Block). n.base) peer.nets (pairs_as OtherNets (λ (m n : Block). m.base.0 ≢ n.base.0) peer.nets bases (router_port_is_sound net sound peer (there peer refl)).apart))
    where
      bases : (m n : Block) → OtherNets m n → m.base.0 ≢ n.base.0
      bases m n other same = false≢true (sym other ∙ or_left (eqb m.base.0 n.base.0) (eqb (cleared m).base.0 (cleared n).base.0 && eqb m.len n.len) (eq-eqb m.base.0 n.base.0 same))

  pub hosts_apart : (port : Port) → Contains net.ports port → OfPairs OtherHosts (hosts_at net port)
  hosts_apart port there = by (is_to_router port)
    where
      by : (b : Bool) → OfPairs OtherHosts (if b then hosts_of_peer (peer_router_port net port) else flat_map hosts_of port.addresses)
      by true = peer_apart (peer_router_port net port) (λ peer found. (found_there (λ (other : RouterPort). is_port port (peer_port net other)) peer net.router_ports found).0)
      by false =
          pairs_unmap OtherIps (λ (host : Host). host.addr) (flat_map hosts_of port.addresses) (subst (λ (ips : List Ip4). OfPairs OtherIps ips) (sym (ips_of_all port.addresses)) (port_is_sound net sound port there).ips_apart)

  -- ---- names

  pub names_apart : OfPairs (λ (p q : RouterPort). p.name ≢ q.name) net.router_ports
  names_apart =
      let of_ports = map (λ (p : Port). p.name) net.ports in
      let of_router_ports = map (λ (p : RouterPort). p.name) net.router_ports in
      pairs_unmap (λ (m n : List ℕ). m ≢ n) (λ (p : RouterPort). p.name) net.router_ports
      (pairs_as (Unlike bytes_eq) (λ (m n : List ℕ). m ≢ n) of_router_ports (λ m n unlike same. false≢true (sym unlike ∙ (bytes_eq-Decides m n).1 same))
      (pairs_parts (Unlike bytes_eq) of_ports of_router_ports (unlike_pairs bytes_eq (of_ports ++ of_router_ports) sound.named.ports)).1)
