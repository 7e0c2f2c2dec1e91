-- What a router does with a packet that comes in is what the meaning says.
use Rattle.std.proofs.Common.{◌≡◌, ℕ, Bool, true, false, nat_lt, cond, ◌/◌, ◌%◌, eqb, sym, ap, refl, ◌∙◌, arith}
use Rattle.std.specs.Prelude.{◌&&◌, ◌||◌, not, Option, Some, None}
use Rattle.std.proofs.lemmas.Bool.{false≢true}
use Rattle.nv_base.specs.declared.field.Field.{Field}
use Rattle.nv_base.specs.declared.field.Field.TheVariants.{Outport, EthSrc, EthDst, EthType, IpProto, IpTtl, Ip4Src, Ip4Dst, ArpOp, ArpTpa, TcpFlags, Icmp4Type, Icmp4Code}
use Rattle.nv_base.specs.declared.field.Prerequisite.TheVariants as needs
use Rattle.pkt_core.specs.Packet.{Values, place, value, with_value}
use Rattle.pkt_core.specs.Prerequisite.{carries, is_ip4, meets}
use Rattle.pkt_core.specs.Replies.{arp_reply, icmp_error, is_answerable, reset}
use Rattle.pkt_core.specs.declared.replies.IcmpReason.TheVariants.{PortUnreachable, TtlExceeded}
use Rattle.nb_records.specs.declared.router.Router.{Router}
use Rattle.nb_records.specs.declared.router.RouterPort.{RouterPort}
use Rattle.nb_model.specs.Network.{Network}
use Rattle.nb_router.specs.Vocabulary.{addresses_at}
use Rattle.sb_model.specs.declared.stage.Stage.TheVariants.{LrInIpInput}
use Rattle.net_meaning.specs.Switches.{is_among_ips, turned_back}
use Rattle.net_meaning.specs.Walk.{Passed}
use Rattle.net_meaning.specs.Walk.Passed.{GoesOn, Drops, Makes}
use Rattle.net_meaning.specs.Walk.Target.{OnePort, Late}
use Rattle.net_meaning.specs.declared.answer.Answer.TheVariants.{Reject}
use Rattle.net_meaning.specs.declared.cause.Cause.TheVariants.{IpInput}
use Rattle.net_router.specs.Input.{echo_reply, first_address, is_echo_request, is_external, is_multicast_ip, is_no_source, is_of_no_host, is_own, is_refused, taken_in}
use Rattle.tr_stage.specs.declared.outcome.Outcome.TheVariants as outcomes
use Rattle.tr_pipe.specs.Machine.{StageEnd, step}
use Rattle.tr_pipe.specs.Machine.StageEnd.{Ends}
use Rattle.tr_pipe.specs.Tracking.{Flight}
use Rattle.lr_laws.specs.Steps.{TakesIn, flows_at, going_back, late, taken_or_passed}
use Rattle.lr_laws.proofs.InputEnds.{dropped, echoes, goes, replies}
use Rattle.lr_laws.proofs.InputLayers.{Comes, echo_asked, is_for_it, last_layer, layers, stands_for, taker, to_own}
use Rattle.lr_laws.proofs.InputMatches.{arp_no_ip4}
use Rattle.lr_laws.proofs.InputPackets.{kept}
use Rattle.lr_laws.proofs.InputRows.{rows_are}
use Rattle.lr_laws.proofs.Layers.{any_holds, any_holds-from, first_end}
use Rattle.lr_laws.proofs.StageLayers.{step_by_layers}

module _ (net : Network) (router : Router) (flight : Flight) (port : RouterPort) where
  abbrev packet : Values
  packet = flight.packet

  abbrev turned : Values
  turned = going_back port packet

  -- ---- what the meaning says, by the tests of the packet

  abbrev answered : Values → Passed
  answered answer = Makes Reject port.id (turned_back (with_value answer EthSrc port.mac))

  -- of what is no ARP, is not refused and asks for no echo
  abbrev passed_on : (for_it ip4 may tcp udp all many expired : Bool) → Option Passed
  passed_on for_it ip4 may tcp udp all many expired =
      cond for_it (Some (cond (may && (tcp || udp)) (answered (cond tcp (reset turned) (icmp_error turned PortUnreachable))) (Drops IpInput)))
      (cond (not ip4 || all || many) (Some (Drops IpInput))
      (cond expired (Some (cond may (answered (with_value (icmp_error turned TtlExceeded) Ip4Src (first_address port).0)) (Drops IpInput))) None))

  abbrev decided : (refused arp op stands echo : Bool) → Option Passed → Option Passed
  decided refused arp op stands echo rest =
      cond refused (Some (Drops IpInput))
      (cond arp (Some (cond (arp && op && stands) (GoesOn (OnePort port.id) (turned_back (arp_reply turned port.mac))) (Drops IpInput)))
      (cond echo (Some (GoesOn (Late port.id) (turned_back (echo_reply port turned)))) rest))

  -- ---- and what the layers say

  abbrev made : Values → StageEnd
  made answer = Ends (Some (outcomes.Made (turned_back (with_value answer EthSrc port.mac)) late Reject)) flight.state

  abbrev if_answerable : Bool → Values → StageEnd
  if_answerable may answer = cond may (made answer) (dropped port flight)

  abbrev passed_by_layers : (for_it ip4 may tcp udp all many expired : Bool) → StageEnd
  passed_by_layers for_it ip4 may tcp udp all many expired =
      cond (for_it && (tcp || udp)) (cond tcp (if_answerable may (reset turned)) (if_answerable may (icmp_error turned PortUnreachable)))
      (cond for_it (dropped port flight)
      (cond (all || (ip4 && many)) (dropped port flight)
      (cond (ip4 && expired) (if_answerable may (with_value (icmp_error turned TtlExceeded) Ip4Src (first_address port).0)) (cond ip4 (goes port flight) (dropped port flight)))))

  passed_alike : (for_it ip4 may tcp udp all many expired : Bool) → passed_by_layers for_it ip4 may tcp udp all many expired ≡ taken_or_passed (passed_on for_it ip4 may tcp udp all many expired) flight
  passed_alike true ip4 true true udp all many expired = refl
  passed_alike true ip4 false true udp all many expired = refl
  passed_alike true ip4 true false true all many expired = refl
  passed_alike true ip4 false false true all many expired = refl
  passed_alike true ip4 true false false all many expired = refl
  passed_alike true ip4 false false false all many expired = refl
  passed_alike false false may tcp udp true many expired = refl
  passed_alike false false may tcp udp false many expired = refl
  passed_alike false true may tcp udp true many expired = refl
  passed_alike false true may tcp udp false true expired = refl
  passed_alike false true true tcp udp false false true = refl
  passed_alike false true false tcp udp false false true = refl
  passed_alike false true may tcp udp false false false = refl

  -- an ARP packet asks for no echo
  abbrev decided_by_layers : (refused arp op stands echo : Bool) → StageEnd → StageEnd
  decided_by_layers refused arp op stands echo rest =
      cond refused (dropped port flight) (cond (arp && op && stands || echo) (cond (arp && op && stands) (replies port flight) (echoes port flight)) (cond arp (dropped port flight) rest))

  decided_alike : (refused arp op stands echo : Bool) (rest : StageEnd) (then : Option Passed) → (arp ≡ true → echo ≡ false) → rest ≡ taken_or_passed then flight
      → decided_by_layers refused arp op stands echo rest ≡ taken_or_passed (decided refused arp op stands echo then) flight
  decided_alike true arp op stands echo rest then apart alike = refl
  decided_alike false true op stands true rest then apart alike = absurd (false≢true (sym (apart refl)))
  decided_alike false true true true false rest then apart alike = refl
  decided_alike false true true false false rest then apart alike = refl
  decided_alike false true false stands false rest then apart alike = refl
  decided_alike false false op stands true rest then apart alike = refl
  decided_alike false false op stands false rest then apart alike = alike

  module _ (here : Comes net router flight port) where
    -- ---- the tests of the packet are those of the packet that is to go out by the port

    same : (field : Field) → eqb (place Outport) (place field) ≡ false → value packet field ≡ value turned field
    same field other = sym (kept packet here.on.formed.count port.id.0 field other)

    own_router : router.id ≡ port.router
    own_router = sym here.its.1

    ip4_same : is_ip4 packet ≡ is_ip4 turned
    ip4_same = λ i. eqb (same EthType refl i) 0x800

    carries_same : (protocol : ℕ) → carries packet protocol ≡ carries turned protocol
    carries_same protocol = λ i. ip4_same i && eqb (same IpProto refl i) protocol

    refused_same : is_refused net router.id packet ≡ is_refused net port.router turned
    refused_same = λ i. ip4_same i && (is_no_source net (own_router i) (same Ip4Src refl i) || is_of_no_host (same Ip4Dst refl i))

    answerable_same : is_answerable packet ≡ is_answerable turned
    answerable_same =
        λ i. ip4_same i && not (carries_same 6 i && eqb (same TcpFlags refl i / 4 % 2) 1) && not (carries_same 1 i && (eqb (same Icmp4Type refl i) 3 || eqb (same Icmp4Type refl i) 11))

    echo_same : echo_asked net router flight port ≡ (is_echo_request turned && is_own net port.router (value turned Ip4Dst))
    echo_same = λ i. (carries_same 1 i && eqb (same Icmp4Type refl i) 8 && eqb (same Icmp4Code refl i) 0) && is_own net (own_router i) (same Ip4Dst refl i)

    -- the meaning, by the tests of the packet
    abbrev meant : Option Passed
    meant =
        decided (is_refused net router.id packet) (meets packet needs.Arp) (eqb (value packet ArpOp) 1) (stands_for net router flight port) (echo_asked net router flight port)
        (passed_on (is_for_it net router flight port) (is_ip4 packet) (is_answerable packet) (meets packet needs.Tcp) (meets packet needs.Udp) (eqb (value packet EthDst) 0xffff_ffff_ffff)
        (is_multicast_ip (value packet Ip4Dst)) (nat_lt (value packet IpTtl) 2))

    meaning_is : meant ≡ taken_in net port turned
    meaning_is =
        λ i. decided (refused_same i) (eqb (same EthType refl i) 0x806) (eqb (same ArpOp refl i) 1)
        (is_among_ips (same ArpTpa refl i) (addresses_at port) || is_external net (own_router i) (same ArpTpa refl i)) (echo_same i)
        (passed_on (ip4_same i && is_own net (own_router i) (same Ip4Dst refl i) && not (is_external net (own_router i) (same Ip4Dst refl i))) (ip4_same i) (answerable_same i) (carries_same 6 i) (carries_same 17 i) (eqb (same EthDst refl i) 0xffff_ffff_ffff)
        (is_multicast_ip (same Ip4Dst refl i)) (nat_lt (same IpTtl refl i) 2))

    -- ---- the stage

    no_echo : meets packet needs.Arp ≡ true → echo_asked net router flight port ≡ false
    no_echo arp =
        ap (λ b. (b && eqb (value packet IpProto) 1 && eqb (value packet Icmp4Type) 8 && eqb (value packet Icmp4Code) 0) && to_own net router flight port) (arp_no_ip4 packet arp)

    layers_are : first_end (layers net router flight port) (dropped port flight) ≡ taken_or_passed meant flight
    layers_are =
        decided_alike (is_refused net router.id packet) (meets packet needs.Arp) (eqb (value packet ArpOp) 1) (stands_for net router flight port) (echo_asked net router flight port)
        (passed_by_layers (is_for_it net router flight port) (is_ip4 packet) (is_answerable packet) (meets packet needs.Tcp) (meets packet needs.Udp) (eqb (value packet EthDst) 0xffff_ffff_ffff)
        (is_multicast_ip (value packet Ip4Dst)) (nat_lt (value packet IpTtl) 2))
        (passed_on (is_for_it net router flight port) (is_ip4 packet) (is_answerable packet) (meets packet needs.Tcp) (meets packet needs.Udp) (eqb (value packet EthDst) 0xffff_ffff_ffff)
        (is_multicast_ip (value packet Ip4Dst)) (nat_lt (value packet IpTtl) 2))
        no_echo
        (passed_alike (is_for_it net router flight port) (is_ip4 packet) (is_answerable packet) (meets packet needs.Tcp) (meets packet needs.Udp) (eqb (value packet EthDst) 0xffff_ffff_ffff)
        (is_multicast_ip (value packet Ip4Dst)) (nat_lt (value packet IpTtl) 2))

    some_holds : any_holds (layers net router flight port) ≡ true
    some_holds = any_holds-from (layers net router flight port) (last_layer net router flight port) (8, omega arith, refl) refl

    by_layers : step (flows_at net router.id) LrInIpInput flight ≡ taken_or_passed (taken_in net port turned) flight
    by_layers =
        step_by_layers net router flight here.on LrInIpInput (layers net router flight port) (dropped port flight) (omega arith) (taker net router flight port here) (rows_are net router flight port here) some_holds
        ∙ layers_are ∙ ap (λ o. taken_or_passed o flight) meaning_is

pub takes_in : TakesIn
takes_in net router flight on port its at has = by_layers net router flight port (record { on = on; its = its; at = at; has = has })
