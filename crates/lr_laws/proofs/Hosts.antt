-- Which MAC goes with an address at a port of a switch: the one of a host there, or of the router port that it leads to.
use Rattle.std.proofs.Common.{◌≡◌, ◌≢◌, ℕ, ◌<◌, Bool, true, false, cond, List, [], ◌∷◌, map, eqb, sym, ap, refl, ◌∙◌, subst, ◌⊎◌, inl, inr}
use Rattle.std.specs.Prelude.{Option, Some, None, filter, slice_get, option_and_then}
use Rattle.std.specs.List.{Contains, cons_option, filter_map, flat_map}
use Rattle.std.proofs.lemmas.Bool.{false≢true, eq-eqb, eqb-true}
use Rattle.std.proofs.lemmas.Option.{same_Some, none-some}
use Rattle.nv_base.specs.declared.ip4.Ip4.{Ip4}
use Rattle.nb_records.specs.declared.router.RouterPort.{RouterPort}
use Rattle.nb_records.specs.declared.switch.Addr.{Addr}
use Rattle.nb_records.specs.declared.switch.Addr.TheVariants as addr
use Rattle.nb_records.specs.declared.switch.Port.{Port}
use Rattle.nb_model.specs.Belongs.{is_to_router, peer_router_port}
use Rattle.nb_model.specs.Network.{Network}
use Rattle.nb_model.specs.Readable.{ips_of}
use Rattle.nb_model.specs.Sound.{IsSound}
use Rattle.nb_router.specs.Vocabulary.{addresses_at}
use Rattle.net_meaning.specs.Switches.{has_ip, is_among_ips, mac_with}
use Rattle.net_router.specs.Resolution.{mac_at, router_mac}
use Rattle.net_rows.proofs.Elements.{any_from, any_gives, one_first, one_later, one_of, one_of_none, Contains-flat_map, Contains-from_flat_map, Contains-from_map, Contains-map}
use Rattle.net_rows.proofs.Pairs.{Across, OfPairs, pairs_parts}
use Rattle.net_rows.proofs.Sound.{PortsRise}
use Rattle.net_rows.proofs.SoundObjects.{port_is_sound}
use Rattle.lr_rows.specs.declared.inputs.Host.{Host}
use Rattle.lr_units.specs.Words.{hosts_at, hosts_of, hosts_of_peer}
use Rattle.ls_laws.proofs.RuleStages.{each_of}
use Rattle.lr_laws.proofs.Members.{of_either}

-- an address with its MAC
abbrev pub host : ℕ → Ip4 → Host
host mac ip = record { mac = mac; addr = ip }

-- two addresses
abbrev Other : Ip4 → Ip4 → Type 0
Other a b = a.0 ≢ b.0

-- an address is among these where one of its number is
among_ips-from : (ip : Ip4) (ips : List Ip4) → Contains ips ip → is_among_ips ip.0 ips ≡ true
among_ips-from ip ips there = any_from (λ (a : Ip4). eqb a.0 ip.0) ips ip there (eq-eqb ip.0 ip.0 refl)

among_ips-gives : (ip : Ip4) (ips : List Ip4) → is_among_ips ip.0 ips ≡ true → Contains ips ip
among_ips-gives ip ips is =
    let found = any_gives (λ (a : Ip4). eqb a.0 ip.0) ips is in
    let number = eqb-true found.0.0 ip.0 found.2 in
    let same : found.0 ≡ ip = λ i. record { 0 = number i } in
    subst (λ a. Contains ips a) same found.1

-- ---- hosts by addresses

-- a host's address is one of the port's
host_ip : (addresses : List Addr) (own : Host) → Contains (flat_map hosts_of addresses) own → Contains (flat_map ips_of addresses) own.addr
host_ip addresses own there =
    let at = Contains-from_flat_map hosts_of addresses own there in
    Contains-flat_map ips_of addresses at.0 own.addr at.1 (by at.0 at.2)
  where
    by : (a : Addr) → Contains (hosts_of a) own → Contains (ips_of a) own.addr
    by addr.Unknown at = absurd (one_of_none own at)
    by addr.Router at = absurd (one_of_none own at)
    by (addr.Host mac ips) at =
        let from = Contains-from_map (host mac) ips own at in
        subst (λ (ip : Ip4). Contains ips ip) (ap (λ (h : Host). h.addr) from.2) from.1

-- where no address is there twice, each goes with the MAC that it is written with
host_mac : (addresses : List Addr) (own : Host) → OfPairs Other (flat_map ips_of addresses) → Contains (flat_map hosts_of addresses) own → mac_with own.addr.0 addresses ≡ own.mac
host_mac [] own apart there = absurd (one_of_none own there)
host_mac (addr.Unknown ∷ others) own apart there = host_mac others own apart there
host_mac (addr.Router ∷ others) own apart there = host_mac others own apart there
host_mac (addr.Host mac ips ∷ others) own apart there = of_either (map (host mac) ips) (flat_map hosts_of others) own here (λ later. after later (host_mac others own parts.1 later)) there
  where
    parts : OfPairs Other ips × OfPairs Other (flat_map ips_of others) × Across Other ips (flat_map ips_of others)
    parts = pairs_parts Other ips (flat_map ips_of others) apart

    here : Contains (map (host mac) ips) own → cond (is_among_ips own.addr.0 ips) mac (mac_with own.addr.0 others) ≡ own.mac
    here at =
        let from = Contains-from_map (host mac) ips own at in
        let among : is_among_ips own.addr.0 ips ≡ true = among_ips-from own.addr ips (subst (λ (ip : Ip4). Contains ips ip) (ap (λ (h : Host). h.addr) from.2) from.1) in
        rw among (ap (λ (h : Host). h.mac) from.2)

    after : Contains (flat_map hosts_of others) own → mac_with own.addr.0 others ≡ own.mac → cond (is_among_ips own.addr.0 ips) mac (mac_with own.addr.0 others) ≡ own.mac
    after later is = by (is_among_ips own.addr.0 ips) refl
      where
        by : (b : Bool) → is_among_ips own.addr.0 ips ≡ b → cond b mac (mac_with own.addr.0 others) ≡ own.mac
        by true among = absurd (parts.2 own.addr own.addr (among_ips-gives own.addr ips among) (host_ip others own later) refl)
        by false among = is

-- and where the port has the address there is a host
host_there : (addresses : List Addr) (ip : Ip4) → is_among_ips ip.0 (flat_map ips_of addresses) ≡ true → (mac : ℕ) × Contains (flat_map hosts_of addresses) (host mac ip)
host_there addresses ip is =
    let at = Contains-from_flat_map ips_of addresses ip (among_ips-gives ip (flat_map ips_of addresses) is) in
    by at.0 at.1 at.2
  where
    by : (a : Addr) → Contains addresses a → Contains (ips_of a) ip → (mac : ℕ) × Contains (flat_map hosts_of addresses) (host mac ip)
    by addr.Unknown there among = absurd (one_of_none ip among)
    by addr.Router there among = absurd (one_of_none ip among)
    by (addr.Host mac ips) there among = (mac, Contains-flat_map hosts_of addresses (addr.Host mac ips) (host mac ip) there (Contains-map (host mac) ips ip among))

-- ---- at a port

module _ (net : Network) (sound : IsSound net) (port : Port) (there : Contains net.ports port) where
  apart : OfPairs Other (flat_map ips_of port.addresses)
  apart = (port_is_sound net sound port there).ips_apart

  -- a host's address goes with its MAC
  pub mac_at-from : (own : Host) → Contains (hosts_at net port) own → mac_at net own.addr port ≡ Some own.mac
  mac_at-from own = by (is_to_router port) (peer_router_port net port)
    where
      by : (to_router : Bool) (peer : Option RouterPort) → Contains (cond to_router (hosts_of_peer peer) (flat_map hosts_of port.addresses)) own
          → cond to_router (option_and_then (router_mac own.addr) peer) (cond (has_ip own.addr.0 port) (Some (mac_with own.addr.0 port.addresses)) None) ≡ Some own.mac
      by true None at = absurd (one_of_none own at)
      by true (Some peer) at =
          let from = Contains-from_map (host peer.mac) (addresses_at peer) own at in
          let among = among_ips-from own.addr (addresses_at peer) (subst (λ (ip : Ip4). Contains (addresses_at peer) ip) (ap (λ (h : Host). h.addr) from.2) from.1) in
          rw among (ap (λ (h : Host). Some h.mac) from.2)
      by false peer at = rw (among_ips-from own.addr (flat_map ips_of port.addresses) (host_ip port.addresses own at)) (ap Some (host_mac port.addresses own apart at))

  -- and what goes with an address is that of a host
  pub mac_at-gives : (ip : Ip4) (mac : ℕ) → mac_at net ip port ≡ Some mac → Contains (hosts_at net port) (host mac ip)
  mac_at-gives ip mac = by (is_to_router port) (peer_router_port net port)
    where
      of_peer : (peer : RouterPort) (b : Bool) → is_among_ips ip.0 (addresses_at peer) ≡ b → cond b (Some peer.mac) None ≡ Some mac → Contains (hosts_of_peer (Some peer)) (host mac ip)
      of_peer peer true among is =
          let same : peer.mac ≡ mac = same_Some peer.mac mac is in
          subst (λ (m : ℕ). Contains (hosts_of_peer (Some peer)) (host m ip)) same (Contains-map (host peer.mac) (addresses_at peer) ip (among_ips-gives ip (addresses_at peer) among))
      of_peer peer false among is = absurd (none-some mac is)

      of_hosts : (b : Bool) → has_ip ip.0 port ≡ b → cond b (Some (mac_with ip.0 port.addresses)) None ≡ Some mac → Contains (flat_map hosts_of port.addresses) (host mac ip)
      of_hosts true has is =
          let at = host_there port.addresses ip has in
          let same : at.0 ≡ mac = sym (host_mac port.addresses (host at.0 ip) apart at.1) ∙ same_Some (mac_with ip.0 port.addresses) mac is in
          subst (λ (m : ℕ). Contains (flat_map hosts_of port.addresses) (host m ip)) same at.1
      of_hosts false has is = absurd (none-some mac is)

      by : (to_router : Bool) (peer : Option RouterPort) → cond to_router (option_and_then (router_mac ip) peer) (cond (has_ip ip.0 port) (Some (mac_with ip.0 port.addresses)) None) ≡ Some mac
          → Contains (cond to_router (hosts_of_peer peer) (flat_map hosts_of port.addresses)) (host mac ip)
      by true None is = absurd (none-some mac is)
      by true (Some peer) is = of_peer peer (is_among_ips ip.0 (addresses_at peer)) refl is
      by false peer is = of_hosts (has_ip ip.0 port) refl is

-- ---- the first of several ports

-- the first of those that pass, at which something is found, and what is found there
pub record IsFirst {A : Type 0} (passes : Port → Bool) (finds : Port → Option A) (ports : List Port) (found : A) : Type 0 where
  pub port : Port
  pub among : Contains ports port
  pub passed : passes port ≡ true
  pub finds_it : finds port ≡ Some found
  pub others : (other : Port) → Contains ports other → passes other ≡ true → (a : A) → finds other ≡ Some a → (other ≡ port) ⊎ (port.id.0 < other.id.0)

module _ {A : Type 0} (passes : Port → Bool) (finds : Port → Option A) where
  abbrev pub first_found : List Port → Option A
  first_found ports = slice_get (filter_map finds (filter passes ports)) 0

  pub first-gives : (ports : List Port) (found : A) → PortsRise ports → first_found ports ≡ Some found → IsFirst passes finds ports found
  first-gives [] found rise is = absurd (none-some found is)
  first-gives (p ∷ ports) found rise is = by (passes p) refl is (first-gives ports found rise.1)
    where
      later_first : (none : (a : A) → passes p ≡ true → finds p ≡ Some a → ⊥) → IsFirst passes finds ports found → IsFirst passes finds (p ∷ ports) found
      later_first none rest =
          record { port = rest.port; among = one_later p ports rest.port rest.among; passed = rest.passed; finds_it = rest.finds_it; others = λ other there passed a is. each other passed a is (one_of p ports other there) }
        where
          each : (other : Port) → passes other ≡ true → (a : A) → finds other ≡ Some a → (p ≡ other) ⊎ Contains ports other → (other ≡ rest.port) ⊎ (rest.port.id.0 < other.id.0)
          each other passed a is (inl same) = absurd (none a (ap passes same ∙ passed) (ap finds same ∙ is))
          each other passed a is (inr later) = rest.others other later passed a is

      of : passes p ≡ true → (o : Option A) → finds p ≡ o → slice_get (cons_option o (filter_map finds (filter passes ports))) 0 ≡ Some found
          → (first_found ports ≡ Some found → IsFirst passes finds ports found) → IsFirst passes finds (p ∷ ports) found
      of passed (Some a) finds_a at rest =
          record { port = p; among = one_first p ports p refl; passed = passed; finds_it = finds_a ∙ at; others = λ other there passed_too b is. each other (one_of p ports other there) }
        where
          each : (other : Port) → (p ≡ other) ⊎ Contains ports other → (other ≡ p) ⊎ (p.id.0 < other.id.0)
          each other (inl same) = inl (sym same)
          each other (inr later) = inr (each_of (λ (q : Port). p.id.0 < q.id.0) ports other rise.0 later)
      of passed None finds_none at rest = later_first (λ a passed_too is. none-some a (sym finds_none ∙ is)) (rest at)

      by : (b : Bool) → passes p ≡ b → slice_get (filter_map finds (cond b (p ∷ filter passes ports) (filter passes ports))) 0 ≡ Some found
          → (first_found ports ≡ Some found → IsFirst passes finds ports found) → IsFirst passes finds (p ∷ ports) found
      by true passed at rest = of passed (finds p) refl at rest
      by false passed at rest = later_first (λ a passed_too is. false≢true (sym passed ∙ passed_too)) (rest at)

  -- where none is found, none is there
  pub first-none : (ports : List Port) → first_found ports ≡ None → (other : Port) → Contains ports other → passes other ≡ true → (a : A) → finds other ≡ Some a → ⊥
  first-none [] none other there passed a is = one_of_none other there
  first-none (p ∷ ports) none other there passed a is = by (passes p) refl none (one_of p ports other there) (λ rest later. first-none ports rest other later passed a is)
    where
      of : (o : Option A) → finds p ≡ o → slice_get (cons_option o (filter_map finds (filter passes ports))) 0 ≡ None → (p ≡ other) ⊎ Contains ports other → (first_found ports ≡ None → Contains ports other → ⊥) → ⊥
      of (Some b) finds_b at which rest = none-some b (sym at)
      of None finds_none at (inl same) rest = none-some a (sym finds_none ∙ ap finds same ∙ is)
      of None finds_none at (inr later) rest = rest at later

      by : (b : Bool) → passes p ≡ b → slice_get (filter_map finds (cond b (p ∷ filter passes ports) (filter passes ports))) 0 ≡ None → (p ≡ other) ⊎ Contains ports other
          → (first_found ports ≡ None → Contains ports other → ⊥) → ⊥
      by true passes_p at which rest = of (finds p) refl at which rest
      by false passes_p at (inl same) rest = false≢true (sym passes_p ∙ ap passes same ∙ passed)
      by false passes_p at (inr later) rest = rest at later
