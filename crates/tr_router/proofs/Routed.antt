-- What a router passes on is routed by its rows as the router routes it: it goes to the MAC of the next host, or that is asked for.
use Rattle.std.proofs.Common.{◌≡◌, ℕ, ◌-◌, ◌<◌, ◌^◌, Bool, true, false, cond, List, [], ◌∷◌, eqb, sym, ap, refl, subst, ◌∙◌, arith, lit<}
use Rattle.std.specs.Prelude.{Option, Some, None}
use Rattle.std.specs.List.{Contains}
use Rattle.std.proofs.lemmas.Bool.{false≢true}
use Rattle.nv_base.specs.Ip4.{address}
use Rattle.nv_base.specs.Field.{is_header}
use Rattle.nv_base.specs.declared.field.Field.{Field}
use Rattle.nv_base.specs.declared.field.Field.TheVariants.{Inport, Outport, FlagsLoopback, EthSrc, EthDst, EthType, IpTtl, Ip4Src, Ip4Dst, ArpOp, ArpSpa, ArpSha, ArpTpa, Reg0, Reg1}
use Rattle.nv_base.specs.declared.ip4.Ip4.{Ip4}
use Rattle.pkt_core.specs.Packet.{Values, IsPacket, is_working, value, with_value, workings, zero_packet}
use Rattle.pkt_core.specs.Prerequisite.{is_ip4}
use Rattle.pkt_core.proofs.Only.{length-only, only_value}
use Rattle.ct_core.specs.State.{State}
use Rattle.nb_records.specs.declared.router.Router.{Router}
use Rattle.nb_records.specs.declared.router.RouterPort.{RouterPort}
use Rattle.nb_model.specs.Network.{Network}
use Rattle.nb_model.specs.Sound.{IsSound}
use Rattle.sb_model.specs.declared.stage.Stage.TheVariants.{LrInIpRouting, LrInArpResolve, LrInArpRequest}
use Rattle.net_meaning.specs.Switches.{Did}
use Rattle.net_meaning.specs.Walk.Passed.{GoesOn, Makes}
use Rattle.net_meaning.specs.Walk.Target.{OnePort}
use Rattle.net_meaning.specs.declared.answer.Answer.TheVariants as answer
use Rattle.net_router.specs.Resolution.{mac_for}
use Rattle.net_router.specs.Routers as means
use Rattle.net_router.specs.Routers.{asked_about, did, passed_on, routed, sent_to}
use Rattle.net_router.specs.Routing.{Hop, hop_for}
use Rattle.tr_stage.specs.Machine.{Flows}
use Rattle.tr_stage.specs.declared.outcome.Outcome.TheVariants as outcomes
use Rattle.tr_pipe.specs.Machine.{PipelineRun, go_on, run_from}
use Rattle.tr_pipe.specs.Machine.StageEnd.{On, Ends}
use Rattle.tr_pipe.specs.Tracking.{Flight, with_packet}
use Rattle.ls_laws.proofs.Packets.{fits_with, set_value}
use Rattle.lr_laws.specs.Steps.{IsOnRouter, IsPortOf, asked, asking, flows_at, on_way, resolved, sent_by}
use Rattle.lr_laws.proofs.Changes.{changed_value, number_after}
use Rattle.lr_laws.proofs.Requests.{asks}
use Rattle.lr_laws.proofs.Resolution.{resolves}
use Rattle.lr_laws.proofs.RoutedPackets.{routes}
use Rattle.tr_router.specs.Parts.{Arrives, Carries, DoesPart, IsState}
use Rattle.tr_router.proofs.Alike.{StandsFor, both_carry, both_given, carried_same, goes_on as goes_along}
use Rattle.tr_router.proofs.Formed.{Fit, fits_values}
use Rattle.tr_router.proofs.Hops.{IsHop, hop_is}
use Rattle.tr_router.proofs.Macs.{mac_for_fits}
use Rattle.tr_router.proofs.Networks.{mac_fits, number_fits, on_router}
use Rattle.tr_router.proofs.Runs.{after_step}

one_less : (n : ℕ) → n < 2 ^ 8 → n - 1 < 2 ^ 8
one_less n fits = omega (arith, fits)

pub zero_at : (field : Field) → value zero_packet field ≡ 0
zero_at Inport = refl
zero_at _ = refl

-- a header field of the working fields alone
no_working : (packet : Values) (field : Field) → is_header field ≡ true → value (workings packet) field ≡ 0
no_working packet field header = only_value packet is_working field ∙ rw header refl

module _ (net : Network) (sound : IsSound net) (router : Router) (among : Contains net.routers router) (arrival : RouterPort) (its : IsPortOf net router arrival) (flight : Flight) (formed : IsPacket flight.packet)
    (are : IsState flight.state) (came : value flight.packet Inport ≡ arrival.id.0) (packet : Values) (it : StandsFor (value flight.packet Outport) flight.packet packet) where
  abbrev flows : Flows
  flows = flows_at net router.id

  abbrev own : Values
  own = flight.packet

  abbrev state : State
  state = flight.state

  abbrev does : PipelineRun → Did → Type 0
  does = DoesPart Arrives

  on : (k : Values) → IsPacket k → IsOnRouter net router k
  on k is = on_router net sound router among k is

  module _ (hop : Hop) (of : IsHop net router.id hop) where
    abbrev numbers : ℕ → List (Field × ℕ)
    numbers mac = (IpTtl, value own IpTtl - 1) ∷ (Reg0, hop.via.0) ∷ (Reg1, hop.from.0) ∷ (EthSrc, hop.port.mac) ∷ (Outport, hop.port.id.0) ∷ (FlagsLoopback, 1) ∷ (EthDst, mac) ∷ []

    -- the packet of the rows on its way, and with the MAC of the next host
    abbrev pub sent : Values
    sent = on_way hop own

    abbrev pub known : ℕ → Values
    known mac = with_value sent EthDst mac

    pub sent_is : IsPacket sent
    sent_is = fits_values own ((IpTtl, value own IpTtl - 1) ∷ (Reg0, hop.via.0) ∷ (Reg1, hop.from.0) ∷ (EthSrc, hop.port.mac) ∷ (Outport, hop.port.id.0) ∷ (FlagsLoopback, 1) ∷ []) formed fit
      where
        fit : Fit ((IpTtl, value own IpTtl - 1) ∷ (Reg0, hop.via.0) ∷ (Reg1, hop.from.0) ∷ (EthSrc, hop.port.mac) ∷ (Outport, hop.port.id.0) ∷ (FlagsLoopback, 1) ∷ [])
        fit = (one_less (value own IpTtl) (formed.fits IpTtl), (of.via, (of.from, (mac_fits net sound hop.port of.port, (number_fits net sound hop.port of.port, (lit< tt, tt))))))

    -- a field of it
    known_at : (mac : ℕ) (field : Field) → value (known mac) field ≡ number_after (numbers mac) field (value own field)
    known_at mac field = changed_value own (numbers mac) field formed.count

    -- ---- to the MAC of the next host

    abbrev meant : ℕ → Values
    meant mac = with_value (passed_on hop packet) EthDst mac

    abbrev meant_numbers : ℕ → ℕ → List (Field × ℕ)
    meant_numbers ttl mac = (IpTtl, ttl - 1) ∷ (EthSrc, hop.port.mac) ∷ (FlagsLoopback, 1) ∷ (EthDst, mac) ∷ []

    stands : (mac : ℕ) → StandsFor hop.port.id.0 (known mac) (meant mac)
    stands mac =
        both_given (value own Outport) own packet it (numbers mac) (meant_numbers (value packet IpTtl) mac)
        (λ field going old. by field going old ∙ ap (λ ttl. number_after (meant_numbers ttl mac) field old) (it.same IpTtl refl)) hop.port.id.0 refl
      where
        by : (field : Field) → goes_along field ≡ true → (old : ℕ) → number_after (numbers mac) field old ≡ number_after (meant_numbers (value own IpTtl) mac) field old
        by Outport going old = absurd (false≢true going)
        by Reg0 going old = absurd (false≢true going)
        by Reg1 going old = absurd (false≢true going)
        by _ going old = refl

    goes : (mac : ℕ) → Carries hop.port.id (known mac) (meant mac)
    goes mac =
        both_carry hop.port.id.0 (known mac) (meant mac) (stands mac) hop.port.id refl
        (known_at mac FlagsLoopback ∙ sym (changed_value packet (meant_numbers (value packet IpTtl) mac) FlagsLoopback it.long))

    -- ---- where the MAC is asked for

    abbrev request_numbers : ℕ → ℕ → ℕ → List (Field × ℕ)
    request_numbers mac from via = (EthSrc, mac) ∷ (EthDst, 0xffff_ffff_ffff) ∷ (EthType, 0x806) ∷ (ArpOp, 1) ∷ (ArpSpa, from) ∷ (ArpSha, mac) ∷ (ArpTpa, via) ∷ []

    abbrev meant_request : List (Field × ℕ)
    meant_request =
        (EthSrc, hop.port.mac) ∷ (EthDst, 0xffff_ffff_ffff) ∷ (EthType, 0x806) ∷ (ArpOp, 1) ∷ (ArpSpa, hop.from.0) ∷ (ArpSha, hop.port.mac) ∷ (ArpTpa, hop.via.0) ∷ (Inport, arrival.id.0) ∷ (FlagsLoopback, 1) ∷ []

    -- a field of the request
    request_at : (mac : ℕ) (field : Field) → value (asking (known mac)) field ≡ number_after (request_numbers hop.port.mac hop.from.0 hop.via.0) field (value (workings (known mac)) field)
    request_at mac field =
        changed_value (workings (known mac)) (request_numbers (value (known mac) EthSrc) (value (known mac) Reg1) (value (known mac) Reg0)) field (length-only (known mac) is_working)
        ∙ (λ i. number_after (request_numbers (known_at mac EthSrc i) (known_at mac Reg1 i) (known_at mac Reg0 i)) field (value (workings (known mac)) field))

    meant_at : (field : Field) → value (asked_about arrival hop) field ≡ number_after meant_request field 0
    meant_at field = changed_value zero_packet meant_request field refl ∙ ap (number_after meant_request field) (zero_at field)

    -- a working field of it
    working_at : (mac : ℕ) (field : Field) → is_header field ≡ false → value (workings (known mac)) field ≡ value (known mac) field
    working_at mac field is = only_value (known mac) is_working field ∙ rw is refl

    asks_for : (mac : ℕ) → Carries hop.port.id (asking (known mac)) (asked_about arrival hop)
    asks_for mac = record {
      by_port = request_at mac Outport ∙ working_at mac Outport refl ∙ known_at mac Outport;
      alike =
          carried_same (asking (known mac)) (asked_about arrival hop)
          (λ field header. request_at mac field ∙ ap (number_after (request_numbers hop.port.mac hop.from.0 hop.via.0) field) (no_working (known mac) field header) ∙ by field header ∙ sym (meant_at field))
          (request_at mac Inport ∙ working_at mac Inport refl ∙ known_at mac Inport ∙ came ∙ sym (meant_at Inport))
          (request_at mac FlagsLoopback ∙ working_at mac FlagsLoopback refl ∙ known_at mac FlagsLoopback ∙ sym (meant_at FlagsLoopback));
    }
      where
        by : (field : Field) → is_header field ≡ true → number_after (request_numbers hop.port.mac hop.from.0 hop.via.0) field 0 ≡ number_after meant_request field 0
        by Inport header = absurd (false≢true header)
        by FlagsLoopback header = absurd (false≢true header)
        by _ header = refl

    -- ---- the stages

    abbrev with_mac : ℕ → Flight
    with_mac mac = with_packet flight (known mac)

    request_is : (mac : ℕ) → mac < 2 ^ 48 → does (run_from flows 120 LrInArpRequest (with_mac mac)) (did (sent_to arrival hop packet mac) state)
    request_is mac fits =
        after_step Arrives flows (did (sent_to arrival hop packet mac) state) 119 LrInArpRequest (with_mac mac) (asked (with_mac mac)) (asks net router (with_mac mac) (on (known mac) (fits_with sent EthDst mac sent_is fits)))
        (subst (λ n. does (go_on (run_from flows 119) (cond (eqb n 0) (Ends (Some (outcomes.Made (asking (known mac)) 0 answer.Arp)) state) (Ends (Some (outcomes.Leave (known mac) 0)) state))) (did (sent_to arrival hop packet mac) state))
        (sym (set_value sent EthDst mac sent_is.count)) (by (eqb mac 0)))
      where
        by : (unknown : Bool)
            → does (go_on (run_from flows 119) (cond unknown (Ends (Some (outcomes.Made (asking (known mac)) 0 answer.Arp)) state) (Ends (Some (outcomes.Leave (known mac) 0)) state)))
            (did (cond unknown (Makes answer.Arp hop.port.id (asked_about arrival hop)) (GoesOn (OnePort hop.port.id) (meant mac))) state)
        by true = record { passes = (asking (known mac), refl, asks_for mac); leaves = refl }
        by false = record { passes = (known mac, refl, goes mac); leaves = refl }

    abbrev mac_of : Ip4 → ℕ
    mac_of ip = mac_for net hop.port ip state.nbrs

    -- a field of the packet on its way
    pub sent_at : (field : Field) → value sent field ≡ number_after ((IpTtl, value own IpTtl - 1) ∷ (Reg0, hop.via.0) ∷ (Reg1, hop.from.0) ∷ (EthSrc, hop.port.mac) ∷ (Outport, hop.port.id.0) ∷ (FlagsLoopback, 1) ∷ []) field (value own field)
    sent_at field = changed_value own ((IpTtl, value own IpTtl - 1) ∷ (Reg0, hop.via.0) ∷ (Reg1, hop.from.0) ∷ (EthSrc, hop.port.mac) ∷ (Outport, hop.port.id.0) ∷ (FlagsLoopback, 1) ∷ []) field formed.count

    resolve_is : does (run_from flows 121 LrInArpResolve (with_packet flight sent)) (did (sent_to arrival hop packet (mac_of hop.via)) state)
    resolve_is =
        after_step Arrives flows (did (sent_to arrival hop packet (mac_of hop.via)) state) 120 LrInArpResolve (with_packet flight sent) (On LrInArpRequest (resolved net hop.port (with_packet flight sent)))
        (resolves net router (with_packet flight sent) (on sent sent_is) hop.port (of.port, of.of_router) (sent_at Outport))
        (subst (λ n. does (run_from flows 120 LrInArpRequest (with_mac (mac_of (address n)))) (did (sent_to arrival hop packet (mac_of hop.via)) state)) (sym (sent_at Reg0))
        (request_is (mac_of hop.via) (mac_for_fits net sound state are hop.port hop.via)))

  -- ---- the hop

  abbrev src : Ip4
  src = address (value own Ip4Src)

  abbrev dst : Ip4
  dst = address (value own Ip4Dst)

  -- it is the one of the router's packet
  same_hop : hop_for net router.id src dst ≡ hop_for net arrival.router (address (value packet Ip4Src)) (address (value packet Ip4Dst))
  same_hop = λ i. hop_for net (sym its.1 i) (address (it.same Ip4Src refl i)) (address (it.same Ip4Dst refl i))

  pub routed_is : is_ip4 own ≡ true → does (run_from flows 122 LrInIpRouting flight) (routed net arrival packet state)
  routed_is ip4 =
      subst (λ (found : Option Hop). does (run_from flows 122 LrInIpRouting flight) (did (means.sent_by net arrival found packet state) state)) same_hop
      (after_step Arrives flows (did (means.sent_by net arrival (hop_for net router.id src dst) packet state) state) 121 LrInIpRouting flight (sent_by (hop_for net router.id src dst) flight) (routes net router flight (on own formed) ip4)
      (by (hop_for net router.id src dst) refl))
    where
      by : (found : Option Hop) → hop_for net router.id src dst ≡ found → does (go_on (run_from flows 121) (sent_by found flight)) (did (means.sent_by net arrival found packet state) state)
      by None is = record { passes = refl; leaves = refl }
      by (Some hop) is = resolve_is hop (hop_is net sound router.id src dst (formed.fits Ip4Dst) hop is)
