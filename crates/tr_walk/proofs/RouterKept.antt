-- What routers make of packets: they stay among the ports of the network, and are packets.
use Rattle.std.proofs.Common.{◌≡◌, ℕ, ◌<◌, ◌^◌, ◌-◌, Bool, true, false, cond, nat_lt, List, [], ◌∷◌, refl, sym, subst, ◌∙◌, arith, lit<}
use Rattle.std.specs.Prelude.{Option, Some, None, not, option_map, slice_get, ◌&&◌, ◌||◌, ◌==◌}
use Rattle.std.specs.List.{AllByRecursion, Contains}
use Rattle.std.specs.Option.{option_map_or}
use Rattle.nv_base.specs.Block.{Block}
use Rattle.nv_base.specs.Ip4.{address}
use Rattle.nv_base.specs.declared.field.Field.{Field}
use Rattle.nv_base.specs.declared.field.Field.TheVariants.{Inport, EthSrc, EthDst, EthType, IpTtl, Ip4Src, Ip4Dst, ArpOp, ArpSpa, ArpSha, ArpTpa, Icmp4Type}
use Rattle.nv_base.specs.declared.field.Prerequisite.TheVariants.{Arp, Tcp, Udp}
use Rattle.nv_base.specs.Field.{field_width}
use Rattle.pkt_core.specs.Packet.{Values, IsPacket, value, with_value, with_values, exchanged, zero_packet}
use Rattle.pkt_core.specs.Prerequisite.{is_ip4, meets}
use Rattle.pkt_core.specs.Replies.{is_answerable, arp_reply, arp_request, icmp_error}
use Rattle.pkt_core.specs.declared.replies.IcmpReason.TheVariants.{TtlExceeded}
use Rattle.ct_core.specs.State.{State}
use Rattle.nb_records.specs.declared.router.RouterPort.{RouterPort}
use Rattle.nb_model.specs.Network.{Network}
use Rattle.nb_model.specs.Sound.{IsSound}
use Rattle.nb_router.specs.Vocabulary.{addresses_at}
use Rattle.net_meaning.specs.Switches.{is_among_ips, is_request, rejection, turned_back}
use Rattle.net_meaning.specs.Walk.{Passed, carrying}
use Rattle.net_meaning.specs.Walk.Passed.{GoesOn, Drops, Makes}
use Rattle.net_meaning.specs.Walk.Target.{OnePort, Late}
use Rattle.net_meaning.specs.declared.answer.Answer.TheVariants as answer
use Rattle.net_meaning.specs.declared.cause.Cause.TheVariants.{Admission, Delivery, IpInput}
use Rattle.net_router.specs.Input.{after_learning, answered_by, arp_answered, echo_reply, expiry_answered, first_address, is_admitted, is_echo_request, is_external, is_not_routed, is_own, is_refused, service_answered, taken_in}
use Rattle.net_router.specs.Resolution.{mac_for}
use Rattle.net_router.specs.Routers.{arriving_at, asked_about, delivered, did, leaving_by, leaving_late, passed_on, redirected_on, routed, sent_by, sent_to, taken_by, then_on, unless_taken}
use Rattle.net_router.specs.Routing.{Hop, hop_for}
use Rattle.net_router.specs.Translation.{Changed, changed_out, dnatted, unsnatted}
use Rattle.net_router.specs.Translation.Changed.{Onward, Stopped}
use Rattle.net_walks.specs.Alike.{IsKept, IsPort}
use Rattle.net_rows.proofs.SoundObjects.{IsBlock}
use Rattle.lr_units.proofs.SoundRouters.{router_port_is_sound}
use Rattle.ls_laws.proofs.Packets.{set_value, other_value, fits_with}
use Rattle.tr_router.specs.Parts.{IsState}
use Rattle.tr_router.proofs.Changed.{IsLeftOf, KeepsRest, changed_out_left, dnatted_left, unsnatted_left}
use Rattle.tr_router.proofs.Formed.{learning_state}
use Rattle.tr_router.proofs.Hops.{IsHop, hop_is}
use Rattle.tr_router.proofs.Macs.{IsMac, mac_for_fits}
use Rattle.tr_router.proofs.Networks.{its_router_fits, mac_fits, number_fits as router_port_number_fits}
use Rattle.tr_walk.proofs.Formed.{Fit, Others, fits_exchanged, fits_values, other_exchanged, other_values, replied, replied_inport, rejection_is, rejection_inport, error_is, error_inport}
use Rattle.tr_walk.proofs.Kept.{inside, turned_is, turned_inport}
use Rattle.tr_walk.proofs.NetworkPorts.{its_router_port, number_fits}

-- ---- packets that routers make

-- the packet of zeros is one
zero_fits : (field : Field) → value zero_packet field < 2 ^ field_width field
zero_fits Inport = lit< tt
zero_fits _ = lit< tt

zero_is : IsPacket zero_packet
zero_is = record { count = refl; fits = zero_fits }

-- an ARP request
abbrev request_numbers : ℕ → ℕ → ℕ → List (Field × ℕ)
request_numbers mac from wanted = (EthSrc, mac) ∷ (EthDst, 0xffff_ffff_ffff) ∷ (EthType, 0x806) ∷ (ArpOp, 1) ∷ (ArpSpa, from) ∷ (ArpSha, mac) ∷ (ArpTpa, wanted) ∷ []

request_is : (mac from wanted : ℕ) → mac < 2 ^ 48 → from < 2 ^ 32 → wanted < 2 ^ 32 → IsPacket (with_values zero_packet (request_numbers mac from wanted))
request_is mac from wanted of_mac of_from of_wanted =
    let fit : Fit (request_numbers mac from wanted) = (of_mac, (lit< tt, (lit< tt, (lit< tt, (of_from, (of_mac, (of_wanted, tt))))))) in
    fits_values zero_packet (request_numbers mac from wanted) zero_is fit

-- an echo reply
abbrev echo_numbers : RouterPort → Values → List (Field × ℕ)
echo_numbers port packet = (EthSrc, port.mac) ∷ (EthDst, value packet EthSrc) ∷ (IpTtl, 255) ∷ (Icmp4Type, 0) ∷ []

echo_is : (port : RouterPort) (packet : Values) → IsMac port.mac → IsPacket packet → IsPacket (echo_reply port packet)
echo_is port packet mac is =
    let fit : Fit (echo_numbers port packet) = (mac, (is.fits EthSrc, (lit< tt, (lit< tt, tt)))) in
    fits_values (exchanged packet Ip4Src Ip4Dst) (echo_numbers port packet) (fits_exchanged packet Ip4Src Ip4Dst refl is) fit

echo_inport : (port : RouterPort) (packet : Values) → value (echo_reply port packet) Inport ≡ value packet Inport
echo_inport port packet =
    let others : Others Inport (echo_numbers port packet) = (refl, (refl, (refl, (refl, tt)))) in
    other_values (exchanged packet Ip4Src Ip4Dst) (echo_numbers port packet) Inport others ∙ other_exchanged packet Ip4Src Ip4Dst Inport refl refl

-- the packet on its way
abbrev on_numbers : Hop → Values → List (Field × ℕ)
on_numbers hop packet = (IpTtl, value packet IpTtl - 1) ∷ (EthSrc, hop.port.mac) ∷ []

passed_is : (hop : Hop) (packet : Values) → IsMac hop.port.mac → IsPacket packet → IsPacket (passed_on hop packet)
passed_is hop packet mac is =
    let ttl = is.fits IpTtl in
    let fit : Fit (on_numbers hop packet) = (omega (arith, ttl), (mac, tt)) in
    turned_is (with_values packet (on_numbers hop packet)) (fits_values packet (on_numbers hop packet) is fit)

passed_inport : (hop : Hop) (packet : Values) → value (passed_on hop packet) Inport ≡ value packet Inport
passed_inport hop packet =
    let others : Others Inport (on_numbers hop packet) = (refl, (refl, tt)) in
    turned_inport (with_values packet (on_numbers hop packet)) ∙ other_values packet (on_numbers hop packet) Inport others

-- ---- what they make of packets

-- the first address of a port
first_of : (nets : List Block) → AllByRecursion IsBlock nets → (option_map_or (λ (own : Block). own.base) (slice_get nets 0) (address 0)).0 < 2 ^ 32
first_of [] all = lit< tt
first_of (own ∷ nets) all = all.0.base

module _ (net : Network) (sound : IsSound net) (port : RouterPort) (there : Contains net.router_ports port) where
  first_is : (first_address port).0 < 2 ^ 32
  first_is = first_of port.nets (router_port_is_sound net sound port there).is.blocks

  abbrev KeptIf : Option Passed → Type 0
  KeptIf passed = IsKept net (option_map carrying passed)

  -- it goes back by the port, or is made there
  back : (p packet : Values) → IsPort net (record { 0 = value packet Inport }) → IsPacket p → value p Inport ≡ value packet Inport → KeptIf (Some (GoesOn (OnePort port.id) (turned_back p)))
  back p packet from is same_port = (
    its_router_port net port there,
    inside net (turned_back p) (turned_is p is) (subst (λ n. IsPort net (record { 0 = n })) (sym (turned_inport p ∙ same_port)) from),
  )

  module _ (packet : Values) (is : IsPacket packet) (from : IsPort net (record { 0 = value packet Inport })) where
    mac : IsMac port.mac
    mac = mac_fits net sound port there

    arp_kept : KeptIf (Some (arp_answered net port packet))
    arp_kept = by (is_request packet && (is_among_ips (value packet ArpTpa) (addresses_at port) || is_external net port.router (value packet ArpTpa)))
      where
        by : (b : Bool) → KeptIf (Some (cond b (GoesOn (OnePort port.id) (turned_back (arp_reply packet port.mac))) (Drops IpInput)))
        by true = back (arp_reply packet port.mac) packet from (replied packet port.mac is mac) (replied_inport packet port.mac)
        by false = tt

    -- from the MAC of the port
    answered_kept : (p : Values) → IsPacket p → value p Inport ≡ value packet Inport → KeptIf (Some (answered_by port p))
    answered_kept p formed same_port =
        back (with_value p EthSrc port.mac) packet from (fits_with p EthSrc port.mac formed mac) (other_value p EthSrc Inport port.mac refl ∙ same_port)

    service_kept : KeptIf (Some (service_answered port packet))
    service_kept = by (is_answerable packet && (meets packet Tcp || meets packet Udp))
      where
        by : (b : Bool) → KeptIf (Some (cond b (answered_by port (rejection packet)) (Drops IpInput)))
        by true = answered_kept (rejection packet) (rejection_is packet is) (rejection_inport packet)
        by false = tt

    expiry_kept : KeptIf (Some (expiry_answered port packet))
    expiry_kept = by (is_answerable packet)
      where
        from_first : Values
        from_first = with_value (icmp_error packet TtlExceeded) Ip4Src (first_address port).0

        by : (b : Bool) → KeptIf (Some (cond b (answered_by port (with_value (icmp_error packet TtlExceeded) Ip4Src (first_address port).0)) (Drops IpInput)))
        by true =
            answered_kept (with_value (icmp_error packet TtlExceeded) Ip4Src (first_address port).0)
            (fits_with (icmp_error packet TtlExceeded) Ip4Src (first_address port).0 (error_is packet TtlExceeded is) first_is)
            (other_value (icmp_error packet TtlExceeded) Ip4Src Inport (first_address port).0 refl ∙ error_inport packet TtlExceeded)
        by false = tt

    taken_kept : KeptIf (taken_in net port packet)
    taken_kept =
        by (is_refused net port.router packet) (meets packet Arp) (is_echo_request packet && is_own net port.router (value packet Ip4Dst))
        (is_ip4 packet && is_own net port.router (value packet Ip4Dst) && not (is_external net port.router (value packet Ip4Dst))) (is_not_routed packet) (nat_lt (value packet IpTtl) 2)
      where
        by : (refused arp echo own other expired : Bool) → KeptIf
            (cond refused (Some (Drops IpInput))
            (cond arp (Some (arp_answered net port packet))
            (cond echo (Some (GoesOn (Late port.id) (turned_back (echo_reply port packet))))
            (cond own (Some (service_answered port packet))
            (cond other (Some (Drops IpInput))
            (cond expired (Some (expiry_answered port packet)) None))))))
        by true arp echo own other expired = tt
        by false true echo own other expired = arp_kept
        by false false true own other expired = back (echo_reply port packet) packet from (echo_is port packet mac is) (echo_inport port packet)
        by false false false true other expired = service_kept
        by false false false false true expired = tt
        by false false false false false true = expiry_kept
        by false false false false false false = tt

    -- ---- what is passed on

    request_kept : (hop : Hop) → IsHop net port.router hop → KeptIf (Some (Makes answer.Arp hop.port.id (asked_about port hop)))
    request_kept hop good =
        let request = arp_request hop.port.mac hop.from hop.via in
        let formed = request_is hop.port.mac hop.from.0 hop.via.0 (mac_fits net sound hop.port good.port) good.from good.via in
        let asked = with_value request Inport port.id.0 in (
          its_router_port net hop.port good.port,
          inside net (turned_back asked) (turned_is asked (fits_with request Inport port.id.0 formed port_fits)) (subst (λ n. IsPort net (record { 0 = n })) (sym (turned_inport asked ∙ set_value request Inport port.id.0 formed.count)) (its_router_port net port there)),
        )
      where
        port_fits : port.id.0 < 2 ^ 32
        port_fits = number_fits net sound port.id (its_router_port net port there)

    sent_kept : (hop : Hop) → IsHop net port.router hop → (next : ℕ) → IsMac next → KeptIf (Some (sent_to port hop packet next))
    sent_kept hop good next of_mac = by (next == 0)
      where
        on : Values
        on = passed_on hop packet

        on_is : IsPacket (passed_on hop packet)
        on_is = passed_is hop packet (mac_fits net sound hop.port good.port) is

        by : (b : Bool) → KeptIf (Some (cond b (Makes answer.Arp hop.port.id (asked_about port hop)) (GoesOn (OnePort hop.port.id) (with_value (passed_on hop packet) EthDst next))))
        by true = request_kept hop good
        by false = (
          its_router_port net hop.port good.port,
          inside net (with_value (passed_on hop packet) EthDst next) (fits_with (passed_on hop packet) EthDst next on_is of_mac)
              (subst (λ n. IsPort net (record { 0 = n })) (sym (other_value (passed_on hop packet) EthDst Inport next refl ∙ passed_inport hop packet)) from),
        )

    module _ (state : State) (are : IsState state) where
      by_hop : (hop : Option Hop) → ((h : Hop) → hop ≡ Some h → IsHop net port.router h) → KeptIf (Some (sent_by net port hop packet state))
      by_hop None good = tt
      by_hop (Some hop) good = sent_kept hop (good hop refl) (mac_for net hop.port hop.via state.nbrs) (mac_for_fits net sound state are hop.port hop.via)

      routed_kept : KeptIf (Some (routed net port packet state).passed)
      routed_kept =
          by_hop (hop_for net port.router (address (value packet Ip4Src)) (address (value packet Ip4Dst)))
          (hop_is net sound port.router (address (value packet Ip4Src)) (address (value packet Ip4Dst)) (is.fits Ip4Dst))

    delivered_kept : KeptIf (Some (delivered port packet))
    delivered_kept = by port.enabled
      where
        by : (b : Bool) → KeptIf (Some (cond b (GoesOn (OnePort port.id) packet) (Drops Delivery)))
        by true = (its_router_port net port there, inside net packet is from)
        by false = tt

  -- ---- where addresses change

  numbered : port.router.0 < 2 ^ 32
  numbered = its_router_fits net sound port there

  module _ (packet : Values) (is : IsPacket packet) (from : IsPort net (record { 0 = value packet Inport })) (state : State) (are : IsState state) where
    -- the packet as it is after a change came in by the same port
    came_in : (p : Values) → KeepsRest packet p → IsPort net (record { 0 = value p Inport })
    came_in p rest = subst (λ n. IsPort net (record { 0 = n })) (sym (rest Inport refl)) from

    -- what is routed after a change, or delivered, stays inside, and leaves a state
    then_routed : (changed : Changed) → IsLeftOf packet changed → KeptIf (Some (then_on changed state (routed net port)).passed)
    then_routed (Onward p after) left = routed_kept p left.0 (came_in p left.2) after left.1
    then_routed (Stopped cause) left = tt

    routed_state : (changed : Changed) → IsLeftOf packet changed → IsState (then_on changed state (routed net port)).state
    routed_state (Onward p after) left = left.1
    routed_state (Stopped cause) left = are

    then_delivered : (changed : Changed) → IsLeftOf packet changed → KeptIf (Some (then_on changed state (leaving_late port)).passed)
    then_delivered (Onward p after) left = delivered_kept p left.0 (came_in p left.2)
    then_delivered (Stopped cause) left = tt

    delivered_state : (changed : Changed) → IsLeftOf packet changed → IsState (then_on changed state (leaving_late port)).state
    delivered_state (Onward p after) left = left.1
    delivered_state (Stopped cause) left = are

    pub leaving_kept : KeptIf (Some (leaving_by net port packet state).passed)
    leaving_kept = then_delivered (changed_out net port.router packet state) (changed_out_left net sound port.router numbered packet state is are)

    pub leaving_state : IsState (leaving_by net port packet state).state
    leaving_state = delivered_state (changed_out net port.router packet state) (changed_out_left net sound port.router numbered packet state is are)

  -- ---- arriving

  module _ (packet : Values) (is : IsPacket packet) (from : IsPort net (record { 0 = value packet Inport })) (state : State) (are : IsState state) where
    -- a reply to an external address came in by the same port
    abbrev coming_back : Values
    coming_back = unsnatted net port.router state.conns packet

    left_back : IsLeftOf packet (Onward coming_back state)
    left_back = unsnatted_left net sound port.router numbered packet state is are

    back_left : IsLeftOf coming_back (dnatted net port.router coming_back state)
    back_left = dnatted_left net sound port.router numbered coming_back state left_back.0 are

    passed_kept : KeptIf (Some (redirected_on net port coming_back state).passed)
    passed_kept = then_routed coming_back left_back.0 (came_in packet is from state are coming_back left_back.2) state are (dnatted net port.router coming_back state) back_left

    passed_state : IsState (redirected_on net port coming_back state).state
    passed_state = routed_state coming_back left_back.0 (came_in packet is from state are coming_back left_back.2) state are (dnatted net port.router coming_back state) back_left

    by_taken : (taken : Option Passed) → KeptIf taken → KeptIf (Some (unless_taken net port taken packet state).passed)
    by_taken (Some passed) kept = kept
    by_taken None kept = passed_kept

    taken_by_kept : KeptIf (Some (taken_by net port packet state).passed)
    taken_by_kept = by_taken (taken_in net port packet) (taken_kept packet is from)

    taken_state : (taken : Option Passed) → IsState (unless_taken net port taken packet state).state
    taken_state (Some passed) = are
    taken_state None = passed_state

  -- ---- a router's parts

  module _ (packet : Values) (state : State) (is : IsPacket packet) (from : IsPort net (record { 0 = value packet Inport })) (are : IsState state) where
    abbrev later : State
    later = after_learning port packet state

    later_is : IsState later
    later_is = learning_state port packet state (router_port_number_fits net sound port there) is are

    pub arriving_kept : KeptIf (Some (arriving_at net port packet state).passed)
    arriving_kept = by (is_admitted port packet)
      where
        by : (b : Bool) → KeptIf (Some (cond b (taken_by net port packet later) (did (Drops Admission) state)).passed)
        by true = taken_by_kept packet is from later later_is
        by false = tt

    pub arriving_state : IsState (arriving_at net port packet state).state
    arriving_state = by (is_admitted port packet)
      where
        by : (b : Bool) → IsState (cond b (taken_by net port packet later) (did (Drops Admission) state)).state
        by true = taken_state packet is from later later_is (taken_in net port packet)
        by false = are

    pub late_kept : KeptIf (Some (leaving_late port packet state).passed)
    late_kept = delivered_kept packet is from
