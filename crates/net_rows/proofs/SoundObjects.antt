-- What soundness says of the objects that rows are made for, in the forms that the proofs of rows use.
use Rattle.std.proofs.Common.{◌≡◌, ◌≢◌, ℕ, ◌<◌, ◌≤◌, ◌^◌, Bool, true, false, not, nat_lt, nat_le, eqb, ◌&&◌, cond, List, [], ◌∷◌, ◌++◌, Option, Some, None, refl, subst, sym, ◌∙◌}
use Rattle.std.specs.Bool.{IsTrue}
use Rattle.std.specs.List.{AllByRecursion, Contains, find, flat_map, list_all}
use Rattle.std.specs.Option.{option_map}
use Rattle.std.proofs.lemmas.Bool.{and_parts, eq-eqb, false≢true, leb-true, ltb-true, not-true}
use Rattle.std.proofs.lemmas.List.Elements.{Contains-append_left, Contains-append_right}
use Rattle.expr_check.specs.Printed.{IsPrintable}
use Rattle.nv_base.specs.Block.{Block}
use Rattle.nv_base.specs.Name.{is_object_name}
use Rattle.nv_base.specs.declared.ip4.Ip4.{Ip4}
use Rattle.nv_base.specs.declared.object.ObjId.{ObjId}
use Rattle.nb_records.specs.declared.acl.Acl.{Acl}
use Rattle.nb_records.specs.declared.balancer.Lb.{Lb}
use Rattle.nb_records.specs.declared.router.RouterPort.{RouterPort}
use Rattle.nb_records.specs.declared.switch.Guard.{Guard}
use Rattle.nb_records.specs.declared.switch.Port.{Port}
use Rattle.nb_records.specs.declared.switch.Switch.{Switch}
use Rattle.nb_read.specs.Lists.{is_base, is_ip}
use Rattle.nb_read.specs.Readings.{is_unicast, role_of}
use Rattle.nb_model.specs.Belongs.{peer_router_port, is_port, peer_port}
use Rattle.nb_model.specs.Network.{Network, same}
use Rattle.nb_model.specs.Readable.{are_addresses, are_apart, are_guards, ips_of, is_block, is_ip4, is_mac, macs_of, may_name, nets_of, same_number}
use Rattle.nb_model.specs.Sound.{IsSound, acl_ids, binding_ids, group_ids, lb_ids, nat_ids, port_ids, route_ids, router_ids, router_port_ids, set_ids, switch_ids}
use Rattle.nb_model.proofs.Numbered.{are_used}
use Rattle.nb_model.proofs.Readable.{of_port, of_router_port}
use Rattle.nv_table.specs.Table.{NumbersRise}
use Rattle.net_rows.specs.Build.{peer_mac}
use Rattle.net_rows.proofs.Elements.{Contains-map}
use Rattle.net_rows.proofs.Pairs.{OfPairs, every_member, every_piece, every_weaker, pairs_as, pairs_parts}
use Rattle.net_rows.proofs.Sound.{from_one, rises}

-- ---- tests of lists

-- of elements that all pass each one does
pub every : {X : Type 0} (p : X → Bool) (xs : List X) → IsTrue (list_all p xs) → AllByRecursion (λ x. IsTrue (p x)) xs
every p [] all = tt
every p (x ∷ xs) all = let parts = and_parts (p x) (list_all p xs) all in (parts.0, every p xs parts.1)

-- what is not the same
abbrev pub Unlike : {X : Type 0} → (X → X → Bool) → X → X → Type 0
Unlike same x y = same x y ≡ false

-- elements that are apart
pub unlike_pairs : {X : Type 0} (same : X → X → Bool) (xs : List X) → IsTrue (are_apart same xs) → OfPairs (Unlike same) xs
unlike_pairs same [] apart = tt
unlike_pairs {X} same (x ∷ xs) apart =
    let parts = and_parts (list_all (λ y. not (same x y)) xs) (are_apart same xs) apart in
    (every_weaker (λ y. IsTrue (not (same x y))) (Unlike same x) xs (λ y is. not-true (same x y) is) (every (λ y. not (same x y)) xs parts.0), unlike_pairs same xs parts.1)

-- elements that are apart are such as two unlike ones are
unlike_gives : {X : Type 0} (same : X → X → Bool) (R : X → X → Type 0) (xs : List X) → ((x y : X) → Unlike same x y → R x y) → IsTrue (are_apart same xs) → OfPairs R xs
unlike_gives same R xs gives apart = pairs_as (Unlike same) R xs gives (unlike_pairs same xs apart)

-- numbers that are told apart by a test of their equality differ
pub unlike_numbers : (m n : ℕ) → eqb m n ≡ false → m ≢ n
unlike_numbers m n unlike same = false≢true (sym unlike ∙ eq-eqb m n same)

-- of numbers that rise an earlier one is lower
rising_pairs : {R : Type 0} (number : R → ObjId) (rs : List R) → NumbersRise number rs → OfPairs (λ r s. (number r).0 < (number s).0) rs
rising_pairs number [] rise = tt
rising_pairs number (r ∷ rs) rise = (rise.0, rising_pairs number rs rise.1)

-- ---- ports

-- an IPv4 prefix
pub record IsBlock (net : Block) : Type 0 where
  pub base : net.base.0 < 2 ^ 32
  pub len : net.len ≤ 32

-- a guard: a MAC, and prefixes
pub record IsGuard (guard : Guard) : Type 0 where
  pub mac : guard.mac < 2 ^ 48
  pub nets : AllByRecursion IsBlock guard.nets

-- A port has the name of an object, MACs, addresses and guards; and none of its MACs, of its addresses and of the MACs of its guards
-- twice.
pub record IsSoundPort (port : Port) : Type 0 where
  pub named : IsTrue (is_object_name port.name)
  pub macs : AllByRecursion (λ (mac : ℕ). mac < 2 ^ 48) (flat_map macs_of port.addresses)
  pub macs_apart : OfPairs (λ (m n : ℕ). m ≢ n) (flat_map macs_of port.addresses)
  pub ips : AllByRecursion (λ (ip : Ip4). ip.0 < 2 ^ 32) (flat_map ips_of port.addresses)
  pub ips_apart : OfPairs (λ (a b : Ip4). a.0 ≢ b.0) (flat_map ips_of port.addresses)
  pub guards : AllByRecursion IsGuard port.security
  pub guards_apart : OfPairs (λ (g h : Guard). g.mac ≢ h.mac) port.security

-- a MAC has 48 bits
below_48 : (mac : ℕ) → IsTrue (is_mac mac) → mac < 2 ^ 48
below_48 mac is = ltb-true mac (2 ^ 48) (and_parts (nat_lt mac (2 ^ 48)) (is_unicast mac) is).0

below_32 : (ip : Ip4) → IsTrue (is_ip4 ip) → ip.0 < 2 ^ 32
below_32 ip is = ltb-true ip.0 (2 ^ 32) is

a_block : (net : Block) → IsTrue (is_block net) → IsBlock net
a_block net is = let parts = and_parts (is_ip4 net.base) (nat_le net.len 32) is in record { base = below_32 net.base parts.0; len = leb-true net.len 32 parts.1 }

-- guards with the MACs and the prefixes of guards
guards_of : (guards : List Guard) → AllByRecursion (λ (guard : Guard). IsTrue (is_mac guard.mac)) guards → AllByRecursion (λ (guard : Guard). AllByRecursion (λ net. IsTrue (is_block net)) guard.nets) guards
    → AllByRecursion IsGuard guards
guards_of [] macs nets = tt
guards_of (guard ∷ guards) macs nets =
    (record { mac = below_48 guard.mac macs.0; nets = every_weaker (λ net. IsTrue (is_block net)) IsBlock guard.nets a_block nets.0 }, guards_of guards macs.1 nets.1)

abbrev same_mac : Guard → Guard → Bool
same_mac a b = eqb a.mac b.mac

-- the parts of what the tests of a port say
one_port : (port : Port) → IsTrue (of_port port) → IsSoundPort port
one_port port all =
    let macs = flat_map macs_of port.addresses in
    let ips = flat_map ips_of port.addresses in
    let nets = flat_map nets_of port.security in
    let last = and_parts (is_object_name port.name && may_name port.router_port && are_addresses port.addresses) (are_guards port.security) all in
    let third = and_parts (is_object_name port.name && may_name port.router_port) (are_addresses port.addresses) last.0 in
    let first = and_parts (is_object_name port.name) (may_name port.router_port) third.0 in
    let addresses_3 = and_parts (list_all is_mac macs && are_apart same_number macs && list_all is_ip4 ips) (are_apart is_ip ips) third.1 in
    let addresses_2 = and_parts (list_all is_mac macs && are_apart same_number macs) (list_all is_ip4 ips) addresses_3.0 in
    let addresses_1 = and_parts (list_all is_mac macs) (are_apart same_number macs) addresses_2.0 in
    let guards_3 = and_parts (list_all (λ (guard : Guard). is_mac guard.mac) port.security && are_apart same_mac port.security && list_all is_block nets) (are_apart is_base nets) last.1 in
    let guards_2 = and_parts (list_all (λ (guard : Guard). is_mac guard.mac) port.security && are_apart same_mac port.security) (list_all is_block nets) guards_3.0 in
    let guards_1 = and_parts (list_all (λ (guard : Guard). is_mac guard.mac) port.security) (are_apart same_mac port.security) guards_2.0 in
    record {
      named = first.0;
      macs = every_weaker (λ mac. IsTrue (is_mac mac)) (λ (mac : ℕ). mac < 2 ^ 48) macs below_48 (every is_mac macs addresses_1.0);
      macs_apart = unlike_gives same_number (λ m n. m ≢ n) macs (λ m n unlike. unlike_numbers m n unlike) addresses_1.1;
      ips = every_weaker (λ ip. IsTrue (is_ip4 ip)) (λ (ip : Ip4). ip.0 < 2 ^ 32) ips below_32 (every is_ip4 ips addresses_2.1);
      ips_apart = unlike_gives is_ip (λ a b. a.0 ≢ b.0) ips (λ a b unlike same_ip. unlike_numbers b.0 a.0 unlike (sym same_ip)) addresses_3.1;
      guards = guards_of port.security (every (λ guard. is_mac guard.mac) port.security guards_1.0) (every_piece (λ net. IsTrue (is_block net)) nets_of port.security (every is_block nets guards_2.1));
      guards_apart = unlike_gives same_mac (λ g h. g.mac ≢ h.mac) port.security (λ g h unlike. unlike_numbers g.mac h.mac unlike) guards_1.1;
    }

-- ---- numbers of objects

-- the numbers of one part are none of the other's
apart_of_parts : (xs ys : List ObjId) → IsTrue (are_apart same (xs ++ ys)) → (x y : ObjId) → Contains xs x → Contains ys y → x.0 ≢ y.0
apart_of_parts xs ys apart x y in_xs in_ys = unlike_numbers x.0 y.0 ((pairs_parts (Unlike same) xs ys (unlike_pairs same (xs ++ ys) apart)).2 x y in_xs in_ys)

apart_later : (xs ys : List ObjId) → IsTrue (are_apart same (xs ++ ys)) → IsTrue (are_apart same ys)
apart_later [] ys apart = apart
apart_later (x ∷ xs) ys apart = apart_later xs ys (and_parts (list_all (λ y. not (same x y)) (xs ++ ys)) (are_apart same (xs ++ ys)) apart).1

-- what is found among elements that pass a test passes it
find_passes : {X : Type 0} (P : X → Type 0) (p : X → Bool) (xs : List X) (x : X) → AllByRecursion P xs → find p xs ≡ Some x → P x
find_passes P p [] x all found = absurd cc
find_passes {X} P p (y ∷ ys) x all found = by (p y) found (find_passes P p ys x all.1)
  where
    by : (b : Bool) → cond b (Some y) (find p ys) ≡ Some x → (find p ys ≡ Some x → P x) → P x
    by true at rest = let same_one : y ≡ x = cc in subst P same_one all.0
    by false at rest = rest at

module _ (net : Network) (sound : IsSound net) where
  pub switches_in_pairs : OfPairs (λ (s t : Switch). s.id.0 < t.id.0) net.switches
  switches_in_pairs = rising_pairs (λ (s : Switch). s.id) net.switches (rises (λ (s : Switch). s.id) net.switches sound.numbered.order.switches)

  pub ports_in_pairs : OfPairs (λ (p q : Port). p.id.0 < q.id.0) net.ports
  ports_in_pairs = rising_pairs (λ (p : Port). p.id) net.ports (rises (λ (p : Port). p.id) net.ports sound.numbered.order.ports)

  pub acls_in_pairs : OfPairs (λ (a b : Acl). a.id.0 < b.id.0) net.acls
  acls_in_pairs = rising_pairs (λ (a : Acl). a.id) net.acls (rises (λ (a : Acl). a.id) net.acls sound.numbered.order.acls)

  pub acls_from_one : AllByRecursion (λ (a : Acl). 0 < a.id.0) net.acls
  acls_from_one = from_one (λ (a : Acl). a.id) net.next net.acls (are_used net sound.numbered.below).acls

  pub lbs_in_pairs : OfPairs (λ (a b : Lb). a.id.0 < b.id.0) net.lbs
  lbs_in_pairs = rising_pairs (λ (b : Lb). b.id) net.lbs (rises (λ (b : Lb). b.id) net.lbs sound.numbered.order.lbs)

  pub lbs_from_one : AllByRecursion (λ (b : Lb). 0 < b.id.0) net.lbs
  lbs_from_one = from_one (λ (b : Lb). b.id) net.next net.lbs (are_used net sound.numbered.below).lbs

  -- the numbers from a kind on
  abbrev from_acls : List ObjId
  from_acls = acl_ids net ++ (set_ids net ++ (group_ids net ++ binding_ids net))

  abbrev from_lbs : List ObjId
  from_lbs = lb_ids net ++ from_acls

  abbrev from_nats : List ObjId
  from_nats = nat_ids net ++ from_lbs

  abbrev from_routes : List ObjId
  from_routes = route_ids net ++ from_nats

  abbrev from_router_ports : List ObjId
  from_router_ports = router_port_ids net ++ from_routes

  abbrev from_routers : List ObjId
  from_routers = router_ids net ++ from_router_ports

  -- those of load balancers and of what comes after them are among those of routers and of what comes after these
  later_numbers : (number : ObjId) → Contains from_lbs number → Contains from_routers number
  later_numbers number there =
      Contains-append_right (router_ids net) from_router_ports number
      (Contains-append_right (router_port_ids net) from_routes number (Contains-append_right (route_ids net) from_nats number (Contains-append_right (nat_ids net) from_lbs number there)))

  -- no number of a port is one of these
  port_is_none : (port : Port) → Contains net.ports port → (number : ObjId) → Contains from_lbs number → port.id.0 ≢ number.0
  port_is_none port in_ports number there =
      apart_of_parts (port_ids net) from_routers (apart_later (switch_ids net) (port_ids net ++ from_routers) sound.numbered.apart) port.id number
      (Contains-map (λ (p : Port). p.id) net.ports port in_ports) (later_numbers number there)

  acl_number : (acl : Acl) → Contains net.acls acl → Contains from_acls acl.id
  acl_number acl there = Contains-append_left (acl_ids net) (set_ids net ++ (group_ids net ++ binding_ids net)) acl.id (Contains-map (λ (a : Acl). a.id) net.acls acl there)

  lb_number : (lb : Lb) → Contains net.lbs lb → Contains (lb_ids net) lb.id
  lb_number lb there = Contains-map (λ (b : Lb). b.id) net.lbs lb there

  -- no port has the number of an ACL
  pub port_is_no_acl : (port : Port) (acl : Acl) → Contains net.ports port → Contains net.acls acl → port.id.0 ≢ acl.id.0
  port_is_no_acl port acl in_ports in_acls = port_is_none port in_ports acl.id (Contains-append_right (lb_ids net) from_acls acl.id (acl_number acl in_acls))

  -- or that of a load balancer
  pub port_is_no_lb : (port : Port) (lb : Lb) → Contains net.ports port → Contains net.lbs lb → port.id.0 ≢ lb.id.0
  port_is_no_lb port lb in_ports in_lbs = port_is_none port in_ports lb.id (Contains-append_left (lb_ids net) from_acls lb.id (lb_number lb in_lbs))

  -- and no ACL has that
  pub acl_is_no_lb : (acl : Acl) (lb : Lb) → Contains net.acls acl → Contains net.lbs lb → acl.id.0 ≢ lb.id.0
  acl_is_no_lb acl lb in_acls in_lbs e =
      apart_of_parts (lb_ids net) from_acls from_here lb.id acl.id (lb_number lb in_lbs) (acl_number acl in_acls) (sym e)
    where
      from_here : IsTrue (are_apart same from_lbs)
      from_here =
          apart_later (nat_ids net) from_lbs
          (apart_later (route_ids net) from_nats
          (apart_later (router_port_ids net) from_routes
          (apart_later (router_ids net) from_router_ports (apart_later (port_ids net) from_routers (apart_later (switch_ids net) (port_ids net ++ from_routers) sound.numbered.apart)))))

  -- each port
  pub port_is_sound : (port : Port) → Contains net.ports port → IsSoundPort port
  port_is_sound port there = one_port port (every_member (λ (p : Port). IsTrue (of_port p)) net.ports port (every of_port net.ports sound.readable.ports) there)

  -- the MAC of a port's peer
  pub peer_mac_of_sound : (port : Port) (mac : ℕ) → peer_mac net port ≡ Some mac → mac < 2 ^ 48
  peer_mac_of_sound port mac is = by (peer_router_port net port) refl is
    where
      macs : AllByRecursion (λ (p : RouterPort). p.mac < 2 ^ 48) net.router_ports
      macs = every_weaker (λ (p : RouterPort). IsTrue (of_router_port p)) (λ (p : RouterPort). p.mac < 2 ^ 48) net.router_ports has_mac (every of_router_port net.router_ports sound.readable.router_ports)
        where
          has_mac : (p : RouterPort) → IsTrue (of_router_port p) → p.mac < 2 ^ 48
          has_mac p is_one = below_48 p.mac (and_parts (is_object_name p.name) (is_mac p.mac) (and_parts (is_object_name p.name && is_mac p.mac) _ is_one).0).1

      by : (found : Option RouterPort) → peer_router_port net port ≡ found → option_map (λ (p : RouterPort). p.mac) found ≡ Some mac → mac < 2 ^ 48
      by None found at = absurd cc
      by (Some peer) found at =
          let low : peer.mac < 2 ^ 48 = find_passes (λ (p : RouterPort). p.mac < 2 ^ 48) (λ (other : RouterPort). is_port port (peer_port net other)) net.router_ports peer macs found in
          let same_mac : peer.mac ≡ mac = cc in
          subst (λ (m : ℕ). m < 2 ^ 48) same_mac low

  -- each ACL
  pub acl_of_sound : (acl : Acl) → Contains net.acls acl → IsPrintable (role_of acl.way) acl.matching
  acl_of_sound acl there = every_member (λ (a : Acl). IsPrintable (role_of a.way) a.matching) net.acls acl sound.readable.matches there
