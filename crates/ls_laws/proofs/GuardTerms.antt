-- What the rules of a guard ask for, beside the port and the MAC, is what the guard lets through.
use Rattle.std.proofs.Common.{◌≡◌, ◌<◌, ◌^◌, Bool, true, false, cond, List, [], ◌∷◌, ◌++◌, eqb, sym, ap, refl, ◌∙◌}
use Rattle.std.specs.Prelude.{◌&&◌, ◌||◌, not}
use Rattle.std.specs.List.{Contains, list_any}
use Rattle.std.proofs.lemmas.List.Folds.{list_any-append}
use Rattle.std.proofs.Math.Bool.{and-true, or-false}
use Rattle.nv_base.specs.Block.{Block}
use Rattle.nv_base.specs.declared.field.Field.TheVariants.{EthType, Ip4Src, Ip4Dst, IpProto, ArpSpa, ArpSha, UdpSrc, UdpDst}
use Rattle.nv_base.specs.declared.field.Prerequisite.TheVariants.{Ip4, Arp}
use Rattle.pkt_core.specs.Packet.{Values, IsPacket, value}
use Rattle.pkt_core.specs.Prerequisite.{meets, is_ip4}
use Rattle.expr_core.specs.Formula.{Formula, formulas}
use Rattle.expr_core.specs.Lookup.{Lookup}
use Rattle.expr_core.specs.declared.typed.TypedAtom.{TypedAtom}
use Rattle.expr_eval.specs.MatchMeaning.{holds, all_hold}
use Rattle.expr_eval.specs.Relation.{equals_item}
use Rattle.nb_records.specs.declared.switch.Guard.{Guard}
use Rattle.sb_model.specs.Make.{in_hexadecimal, is_one_of, differs, is_none_of, one_of}
use Rattle.nb_model.specs.Applies.{is_empty}
use Rattle.net_meaning.specs.Guards.{covers, is_dhcp_discover, is_ip6, tells_mac, lets_any_in, lets_nets_in, is_for_many, lets_nets_out}
use Rattle.net_rows.specs.PortSecurity.{own_items, items_for_many, ip4_type, arp_type, ip6_type, tells, discovers}
use Rattle.ls_laws.proofs.Coverage.{items_cover, items_are_for_many}

-- terms of which all are to hold
abbrev pub Terms : Type 0
Terms = List (Formula TypedAtom)

-- what the rules of a guard ask for in ingress
abbrev pub open_in_terms : Guard → List Terms
open_in_terms guard = (one_of (tells guard.mac ∷ differs EthType (in_hexadecimal 0x806) ∷ []) ∷ []) ∷ []

abbrev pub closed_in_terms : Guard → List Terms
closed_in_terms guard =
    (is_one_of Ip4Src (own_items guard) ∷ [])
    ∷ discovers
    ∷ (tells guard.mac ∷ is_one_of ArpSpa (own_items guard) ∷ [])
    ∷ (is_none_of EthType (ip4_type ∷ arp_type ∷ ip6_type ∷ []) ∷ [])
    ∷ []

abbrev pub in_terms : Guard → List Terms
in_terms guard = cond (is_empty guard.nets) (open_in_terms guard) (closed_in_terms guard)

-- and in egress
abbrev pub open_out_terms : List Terms
open_out_terms = [] ∷ []

abbrev pub closed_out_terms : Guard → List Terms
closed_out_terms guard = (is_one_of Ip4Dst (own_items guard ++ items_for_many guard) ∷ []) ∷ (is_none_of EthType (ip4_type ∷ ip6_type ∷ []) ∷ []) ∷ []

abbrev pub out_terms : Guard → List Terms
out_terms guard = cond (is_empty guard.nets) open_out_terms (closed_out_terms guard)

-- the networks of a guard have addresses of 32 bits
abbrev pub AreNets : Guard → Type 0
AreNets guard = (net : Block) → Contains guard.nets net → net.base.0 < 2 ^ 32

-- ---- truth values

one_told : (arp tells : Bool) → (arp && tells || (not arp || false)) ≡ (not arp || arp && tells)
one_told true tells = or-false tells
one_told false tells = refl

-- each field of a UDP packet asks for UDP and for IPv4
udp_fields : (ip4 udp src dst sport dport : Bool) → (ip4 && src && (ip4 && dst && (ip4 && udp && sport && (ip4 && udp && dport && true)))) ≡ (ip4 && udp && src && dst && sport && dport)
udp_fields false udp src dst sport dport = refl
udp_fields true udp src dst sport dport = by src dst udp sport dport
  where
    by : (src dst udp sport dport : Bool) → (src && (dst && (udp && sport && (udp && dport && true)))) ≡ (udp && src && dst && sport && dport)
    by false dst true sport dport = refl
    by false dst false sport dport = refl
    by true false true sport dport = refl
    by true false false sport dport = refl
    by true true false sport dport = refl
    by true true true false dport = refl
    by true true true true dport = and-true dport

-- and each field of an ARP packet for ARP
arp_fields : (arp told covered : Bool) → (arp && told && (arp && covered && true)) ≡ (arp && told && covered)
arp_fields true true covered = and-true covered
arp_fields true false covered = refl
arp_fields false told covered = refl

-- the sum of what a list of items or rules asks for
sum_of_three : (a b c : Bool) → (a || (b || (c || false))) ≡ (a || b || c)
sum_of_three true b c = refl
sum_of_three false true c = refl
sum_of_three false false c = or-false c

sum_of_four : (a b c d : Bool) → (a || (b || (c || (d || false)))) ≡ (a || b || c || d)
sum_of_four true b c d = refl
sum_of_four false b c d = sum_of_three b c d

-- ---- what is asked for

module _ (known : Lookup) (packet : Values) (formed : IsPacket packet) (guard : Guard) where
  -- all of the terms hold
  abbrev all_of_terms : Terms → Bool
  all_of_terms terms = all_hold known packet (formulas terms)

  abbrev src_covered : Bool
  src_covered = list_any (covers (value packet Ip4Src)) guard.nets

  abbrev spa_covered : Bool
  spa_covered = list_any (covers (value packet ArpSpa)) guard.nets

  abbrev dst_covered : Bool
  dst_covered = list_any (covers (value packet Ip4Dst)) guard.nets

  -- ---- ingress

  open_in : list_any all_of_terms (open_in_terms guard) ≡ lets_any_in guard packet
  open_in =
      or-false (all_of_terms (one_of (tells guard.mac ∷ differs EthType (in_hexadecimal 0x806) ∷ []) ∷ []))
      ∙ and-true (holds known packet (one_of (tells guard.mac ∷ differs EthType (in_hexadecimal 0x806) ∷ [])))
      ∙ one_told (meets packet Arp) (eqb (value packet ArpSha) guard.mac)

  discover : all_of_terms discovers ≡ is_dhcp_discover packet
  discover = udp_fields (is_ip4 packet) (eqb (value packet IpProto) 17) (eqb (value packet Ip4Src) 0) (eqb (value packet Ip4Dst) 0xffff_ffff) (eqb (value packet UdpSrc) 68) (eqb (value packet UdpDst) 67)

  from_nets : AreNets guard → all_of_terms (is_one_of Ip4Src (own_items guard) ∷ []) ≡ (meets packet Ip4 && src_covered)
  from_nets nets = and-true (holds known packet (is_one_of Ip4Src (own_items guard))) ∙ ap (λ b. meets packet Ip4 && b) (items_cover known (value packet Ip4Src) (formed.fits Ip4Src) guard.nets nets)

  arp_from_nets : AreNets guard → all_of_terms (tells guard.mac ∷ is_one_of ArpSpa (own_items guard) ∷ []) ≡ (tells_mac packet guard.mac && spa_covered)
  arp_from_nets nets =
      arp_fields (meets packet Arp) (eqb (value packet ArpSha) guard.mac) (list_any (equals_item known 32 (value packet ArpSpa)) (own_items guard))
      ∙ ap (λ b. tells_mac packet guard.mac && b) (items_cover known (value packet ArpSpa) (formed.fits ArpSpa) guard.nets nets)

  of_no_kind : all_of_terms (is_none_of EthType (ip4_type ∷ arp_type ∷ ip6_type ∷ []) ∷ []) ≡ not (meets packet Ip4 || meets packet Arp || is_ip6 packet)
  of_no_kind = and-true (holds known packet (is_none_of EthType (ip4_type ∷ arp_type ∷ ip6_type ∷ []))) ∙ ap not (sum_of_three (meets packet Ip4) (meets packet Arp) (is_ip6 packet))

  closed_in : AreNets guard → list_any all_of_terms (closed_in_terms guard) ≡ lets_nets_in guard packet
  closed_in nets =
      let each : list_any all_of_terms (closed_in_terms guard)
      ≡ (meets packet Ip4 && src_covered || (is_dhcp_discover packet || (tells_mac packet guard.mac && spa_covered || (not (meets packet Ip4 || meets packet Arp || is_ip6 packet) || false)))) =
      λ i. from_nets nets i || (discover i || (arp_from_nets nets i || (of_no_kind i || false))) in
      each ∙ sum_of_four (meets packet Ip4 && src_covered) (is_dhcp_discover packet) (tells_mac packet guard.mac && spa_covered) (not (meets packet Ip4 || meets packet Arp || is_ip6 packet))

  pub in_meaning : AreNets guard → list_any all_of_terms (in_terms guard) ≡ (is_empty guard.nets && lets_any_in guard packet || not (is_empty guard.nets) && lets_nets_in guard packet)
  in_meaning nets = by (is_empty guard.nets)
    where
      by : (empty : Bool) → list_any all_of_terms (cond empty (open_in_terms guard) (closed_in_terms guard)) ≡ (empty && lets_any_in guard packet || not empty && lets_nets_in guard packet)
      by true = open_in ∙ sym (or-false (lets_any_in guard packet))
      by false = closed_in nets

  -- ---- egress

  to_nets : AreNets guard → all_of_terms (is_one_of Ip4Dst (own_items guard ++ items_for_many guard) ∷ []) ≡ (meets packet Ip4 && (dst_covered || is_for_many (value packet Ip4Dst) guard.nets))
  to_nets nets =
      let n = value packet Ip4Dst in
      let each : (list_any (equals_item known 32 n) (own_items guard) || list_any (equals_item known 32 n) (items_for_many guard)) ≡ (dst_covered || is_for_many n guard.nets) =
      λ i. items_cover known n (formed.fits Ip4Dst) guard.nets nets i || items_are_for_many known n (formed.fits Ip4Dst) guard i in
      and-true (holds known packet (is_one_of Ip4Dst (own_items guard ++ items_for_many guard)))
      ∙ ap (λ b. meets packet Ip4 && b) (list_any-append (equals_item known 32 n) (own_items guard) (items_for_many guard) ∙ each)

  of_no_ip : all_of_terms (is_none_of EthType (ip4_type ∷ ip6_type ∷ []) ∷ []) ≡ not (meets packet Ip4 || is_ip6 packet)
  of_no_ip = and-true (holds known packet (is_none_of EthType (ip4_type ∷ ip6_type ∷ []))) ∙ ap (λ b. not (meets packet Ip4 || b)) (or-false (is_ip6 packet))

  closed_out : AreNets guard → list_any all_of_terms (closed_out_terms guard) ≡ lets_nets_out guard packet
  closed_out nets =
      let each : list_any all_of_terms (closed_out_terms guard)
      ≡ (meets packet Ip4 && (dst_covered || is_for_many (value packet Ip4Dst) guard.nets) || (not (meets packet Ip4 || is_ip6 packet) || false)) =
      λ i. to_nets nets i || (of_no_ip i || false) in
      each ∙ ap (λ b. meets packet Ip4 && (dst_covered || is_for_many (value packet Ip4Dst) guard.nets) || b) (or-false (not (meets packet Ip4 || is_ip6 packet)))

  pub out_meaning : AreNets guard → list_any all_of_terms (out_terms guard) ≡ (is_empty guard.nets || lets_nets_out guard packet)
  out_meaning nets = by (is_empty guard.nets)
    where
      by : (empty : Bool) → list_any all_of_terms (cond empty open_out_terms (closed_out_terms guard)) ≡ (empty || lets_nets_out guard packet)
      by true = refl
      by false = closed_out nets
