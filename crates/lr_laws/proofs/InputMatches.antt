-- What the matches of the rules of input ask of a packet.
use Rattle.std.proofs.Common.{◌≡◌, ℕ, zero, suc, ◌/◌, ◌%◌, ◌^◌, ◌<◌, Bool, true, false, nat_lt, List, [], ◌∷◌, eqb, sym, ap, refl, ◌∙◌, lit<, lit≤, arith}
use Rattle.std.specs.Prelude.{◌&&◌, ◌||◌}
use Rattle.std.proofs.lemmas.Bool.{and_parts, eqb-true, le-ltb, ne_eqb}
use Rattle.nv_base.specs.declared.field.Field.TheVariants.{Inport, EthDst, EthType, IpProto, IpTtl, Ip4Src, Ip4Dst, ArpOp, ArpTpa, Icmp4Type, Icmp4Code}
use Rattle.nv_base.specs.declared.field.Prerequisite.TheVariants as needs
use Rattle.nv_base.specs.declared.ip4.Ip4.{Ip4}
use Rattle.pkt_core.specs.Packet.{IsPacket, Values, value}
use Rattle.pkt_core.specs.Prerequisite.{is_ip4, meets}
use Rattle.expr_core.specs.Lookup.{Lookup}
use Rattle.expr_core.specs.declared.predicate.Pred.TheVariants as is
use Rattle.expr_eval.specs.MatchMeaning.{holds}
use Rattle.expr_eval.specs.Relation.{equals_item}
use Rattle.nb_records.specs.declared.router.RouterPort.{RouterPort}
use Rattle.nb_model.specs.Network.{Network}
use Rattle.nb_router.specs.Vocabulary.{addresses_at}
use Rattle.sb_model.specs.Make.{is_port, is_predicate, one_of}
use Rattle.net_meaning.specs.Switches.{is_among_ips, is_request}
use Rattle.net_router.specs.Input.{is_echo_request, is_multicast_ip, is_of_no_host}
use Rattle.lr_rows.specs.Input.{echo_rule, eight_bits, is_for, is_from_many, is_from_no_host, is_to_no_host, own_arp_rule, own_source_rule}
use Rattle.lr_rows.specs.Make.{arp_rule_for}
use Rattle.lr_units.specs.Units.{port_in_input}
use Rattle.lr_laws.proofs.Networks.{addresses_item, addresses_of_item, prefix_tells}
use Rattle.lr_laws.proofs.PortRules.{expiring_rule, reset_rule, unreachable_rule}

-- ---- truth values

or_none : (b : Bool) → (b || false) ≡ b
or_none true = refl
or_none false = refl

and_all : (b : Bool) → (b && true) ≡ b
and_all true = refl
and_all false = refl

refused_terms : (ip4 many none_from all none_to : Bool) → ((ip4 && many) || ((ip4 && (all || none_from)) || ((ip4 && none_to) || false))) ≡ (ip4 && (many || all || none_from || none_to))
refused_terms false many none_from all none_to = refl
refused_terms true true none_from all none_to = refl
refused_terms true false none_from true none_to = refl
refused_terms true false true false none_to = refl
refused_terms true false false false true = refl
refused_terms true false false false false = refl

request_terms : (arp op own : Bool) → ((arp && op) && ((arp && own) && true)) ≡ (arp && op && own)
request_terms false op own = refl
request_terms true false own = refl
request_terms true true true = refl
request_terms true true false = refl

echo_terms : (ip4 own icmp type code : Bool) → ((ip4 && own) && ((ip4 && icmp && type) && ((ip4 && icmp && code) && true))) ≡ (ip4 && icmp && type && code && own)
echo_terms false own icmp type code = refl
echo_terms true false icmp type code = sym (never (icmp && type && code))
  where
    never : (b : Bool) → (b && false) ≡ false
    never true = refl
    never false = refl
echo_terms true true false type code = refl
echo_terms true true true false code = refl
echo_terms true true true true true = refl
echo_terms true true true true false = refl

service_terms : (ip4 own protocol : Bool) → ((ip4 && own) && (((ip4 && protocol) || false) && true)) ≡ (ip4 && own && (ip4 && protocol))
service_terms false own protocol = refl
service_terms true false protocol = refl
service_terms true true true = refl
service_terms true true false = refl

-- ---- numbers

-- the first four of 32 bits
first_bits : (n : ℕ) → n < 2 ^ 32 → n / 2 ^ 28 % 2 ^ 4 ≡ n / 2 ^ 28
first_bits n fits = omega arith

-- 0 or 1
low : (n : ℕ) → (eqb n 0 || (eqb n 1 || false)) ≡ nat_lt n 2
low zero = refl
low (suc zero) = refl
low (suc (suc n)) = rw (ne_eqb (suc (suc n)) 0 (λ e. omega (arith, e)), ne_eqb (suc (suc n)) 1 (λ e. omega (arith, e)), le-ltb (suc (suc n)) 2 (omega arith)) refl

module _ (known : Lookup) (packet : Values) (formed : IsPacket packet) where
  -- ---- the rules of a router

  no_host_item : (n : ℕ) → n < 2 ^ 32 → (equals_item known 32 n (eight_bits 0x7f00_0000) || (equals_item known 32 n (eight_bits 0) || false)) ≡ is_of_no_host n
  no_host_item n fits =
      (λ i. prefix_tells n 0x7f00_0000 24 fits (lit< tt) (lit≤ tt) i || (prefix_tells n 0 24 fits (lit< tt) (lit≤ tt) i || false)) ∙ ap (λ b. eqb (n / 2 ^ 24) 127 || b) (or_none (eqb (n / 2 ^ 24) 0))

  pub refused_match : holds known packet (one_of (is_from_many ∷ is_from_no_host ∷ is_to_no_host ∷ []))
      ≡ (is_ip4 packet && (is_multicast_ip (value packet Ip4Src) || eqb (value packet Ip4Src) 0xffff_ffff || is_of_no_host (value packet Ip4Src) || is_of_no_host (value packet Ip4Dst)))
  refused_match =
      (λ i. (is_ip4 packet && eqb (first_bits (value packet Ip4Src) (formed.fits Ip4Src) i) 0xe)
      || ((is_ip4 packet && (eqb (value packet Ip4Src) 0xffff_ffff || no_host_item (value packet Ip4Src) (formed.fits Ip4Src) i)) || ((is_ip4 packet && no_host_item (value packet Ip4Dst) (formed.fits Ip4Dst) i) || false)))
      ∙ refused_terms (is_ip4 packet) (is_multicast_ip (value packet Ip4Src)) (is_of_no_host (value packet Ip4Src)) (eqb (value packet Ip4Src) 0xffff_ffff) (is_of_no_host (value packet Ip4Dst))

  pub arp_match : holds known packet (is_predicate is.Arp) ≡ meets packet needs.Arp
  arp_match = or_none (meets packet needs.Arp)

  pub many_match : holds known packet (one_of (is_predicate is.EthBcast ∷ is_predicate is.Ip4Mcast ∷ [])) ≡ (eqb (value packet EthDst) 0xffff_ffff_ffff || (is_ip4 packet && is_multicast_ip (value packet Ip4Dst)))
  many_match =
      (λ i. or_none (eqb (value packet EthDst) 0xffff_ffff_ffff) i || (((is_ip4 packet && eqb (first_bits (value packet Ip4Dst) (formed.fits Ip4Dst) i) 0xe) || false) || false))
      ∙ ap (λ b. eqb (value packet EthDst) 0xffff_ffff_ffff || b)
      (or_none ((is_ip4 packet && is_multicast_ip (value packet Ip4Dst)) || false) ∙ or_none (is_ip4 packet && is_multicast_ip (value packet Ip4Dst)))

  pub ip4_match : holds known packet (is_predicate is.Ip4) ≡ is_ip4 packet
  ip4_match = or_none (is_ip4 packet)

  -- ---- the rules of a port

  module _ (net : Network) (port : RouterPort) where
    pub own_source_match : holds known packet (own_source_rule (port_in_input net port)).matching ≡ (is_ip4 packet && is_among_ips (value packet Ip4Src) (addresses_at port))
    own_source_match = (λ i. is_ip4 packet && addresses_of_item known (value packet Ip4Src) port.nets i)

    pub own_arp_match : holds known packet (own_arp_rule (port_in_input net port)).matching ≡ (holds known packet (is_port Inport port.name) && (is_request packet && is_among_ips (value packet ArpTpa) (addresses_at port)))
    own_arp_match =
        ap (λ b. holds known packet (is_port Inport port.name) && b)
        ((λ i. is_request packet && ((meets packet needs.Arp && addresses_of_item known (value packet ArpTpa) port.nets i) && true))
        ∙ request_terms (meets packet needs.Arp) (eqb (value packet ArpOp) 1) (is_among_ips (value packet ArpTpa) (addresses_at port)))

    pub echo_match : holds known packet (echo_rule (port_in_input net port)).matching ≡ (is_echo_request packet && is_among_ips (value packet Ip4Dst) (addresses_at port))
    echo_match =
        (λ i. (is_ip4 packet && addresses_of_item known (value packet Ip4Dst) port.nets i)
        && ((meets packet needs.Icmp4 && eqb (value packet Icmp4Type) 8) && ((meets packet needs.Icmp4 && eqb (value packet Icmp4Code) 0) && true)))
        ∙ echo_terms (is_ip4 packet) (is_among_ips (value packet Ip4Dst) (addresses_at port)) (eqb (value packet IpProto) 1) (eqb (value packet Icmp4Type) 8) (eqb (value packet Icmp4Code) 0)

  -- of an external address
  pub asking_match : (addr : Ip4) → holds known packet (arp_rule_for addr).matching ≡ (is_request packet && eqb (value packet ArpTpa) addr.0)
  asking_match addr = request_terms (meets packet needs.Arp) (eqb (value packet ArpOp) 1) (eqb (value packet ArpTpa) addr.0)

  -- for one of these addresses
  pub for_match : (addrs : List Ip4) → holds known packet (is_for addrs) ≡ (is_ip4 packet && is_among_ips (value packet Ip4Dst) addrs)
  for_match addrs = (λ i. is_ip4 packet && addresses_item known (value packet Ip4Dst) addrs i)

  pub reset_match : (addrs : List Ip4) → holds known packet (reset_rule addrs).matching ≡ (is_ip4 packet && is_among_ips (value packet Ip4Dst) addrs && meets packet needs.Tcp)
  reset_match addrs = ap (λ b. b && ((meets packet needs.Tcp || false) && true)) (for_match addrs) ∙ service_terms (is_ip4 packet) (is_among_ips (value packet Ip4Dst) addrs) (eqb (value packet IpProto) 6)

  pub unreachable_match : (addrs : List Ip4) → holds known packet (unreachable_rule addrs).matching ≡ (is_ip4 packet && is_among_ips (value packet Ip4Dst) addrs && meets packet needs.Udp)
  unreachable_match addrs = ap (λ b. b && ((meets packet needs.Udp || false) && true)) (for_match addrs) ∙ service_terms (is_ip4 packet) (is_among_ips (value packet Ip4Dst) addrs) (eqb (value packet IpProto) 17)

  pub expiring_match : (name : List ℕ) (first : Ip4) → holds known packet (expiring_rule name first).matching ≡ (holds known packet (is_port Inport name) && (is_ip4 packet && nat_lt (value packet IpTtl) 2))
  expiring_match name first =
      ap (λ b. holds known packet (is_port Inport name) && b) (and_all (is_ip4 packet && (eqb (value packet IpTtl) 0 || (eqb (value packet IpTtl) 1 || false))) ∙ ap (λ b. is_ip4 packet && b) (low (value packet IpTtl)))

-- ---- what a packet can't be at once

module _ (packet : Values) where
  pub arp_no_ip4 : meets packet needs.Arp ≡ true → is_ip4 packet ≡ false
  arp_no_ip4 arp = ap (λ n. eqb n 0x800) (eqb-true (value packet EthType) 0x806 arp)

  pub ip4_no_arp : is_ip4 packet ≡ true → meets packet needs.Arp ≡ false
  ip4_no_arp ip4 = ap (λ n. eqb n 0x806) (eqb-true (value packet EthType) 0x800 ip4)

  pub udp_no_tcp : meets packet needs.Udp ≡ true → meets packet needs.Tcp ≡ false
  udp_no_tcp udp =
      let parts = and_parts (is_ip4 packet) (eqb (value packet IpProto) 17) udp in
      λ i. parts.0 i && eqb (eqb-true (value packet IpProto) 17 parts.1 i) 6
