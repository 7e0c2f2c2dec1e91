-- What switches make of packets: they stay among the ports of the network, and are packets.
use Rattle.std.proofs.Common.{◌≡◌, ℕ, ◌<◌, ◌^◌, Bool, true, false, cond, nat_lt, eqb, List, [], ◌∷◌, sym, ap, refl, subst, ◌∙◌, lit<}
use Rattle.std.specs.Prelude.{Option, Some, None, not, ◌&&◌}
use Rattle.std.specs.Bool.{IsTrue}
use Rattle.std.specs.List.{AllByRecursion, Contains, filter, list_all, flat_map}
use Rattle.std.proofs.lemmas.Bool.{and_parts, false≢true, ltb-true}
use Rattle.nv_base.specs.declared.object.ObjId.{ObjId}
use Rattle.nv_base.specs.declared.field.Field.{Field}
use Rattle.nv_base.specs.declared.field.Field.TheVariants.{Inport, Outport, FlagsLoopback, ArpTpa, EthDst, CtState, CtMarkBlocked, Reg0, Reg1, Reg2, Reg3, Reg4, Reg5, Reg6}
use Rattle.nv_base.specs.Field.{is_header}
use Rattle.pkt_core.specs.Packet.{Values, IsPacket, place, value, with_value, headers}
use Rattle.pkt_core.specs.Prerequisite.{is_there}
use Rattle.pkt_core.specs.Replies.{is_answerable, arp_reply, start}
use Rattle.nb_records.specs.declared.acl.Way.TheVariants.{From, To}
use Rattle.nb_records.specs.declared.switch.Addr.{Addr}
use Rattle.nb_records.specs.declared.switch.Addr.TheVariants as addr
use Rattle.nb_records.specs.declared.switch.Port.{Port}
use Rattle.nb_model.specs.Network.{Network}
use Rattle.nb_model.specs.Readable.{is_mac, macs_of}
use Rattle.nb_model.specs.Sound.{IsSound}
use Rattle.ct_core.specs.State.{State}
use Rattle.net_meaning.specs.AclVerdict.{Decision}
use Rattle.net_meaning.specs.AclVerdict.Decision.{Allowed, Dropped, Rejected, Full}
use Rattle.net_meaning.specs.Tracked.{Ruled, ruled}
use Rattle.net_meaning.specs.Address.{is_multicast}
use Rattle.net_meaning.specs.Guards.{is_let_in, is_let_out}
use Rattle.nb_model.specs.Ports.{is_open, takes_unknown}
use Rattle.net_meaning.specs.Switches.{after_acls, is_among_ips, mac_with, has_mac, is_answering, answering, port_for, numbers, open_ports, unknown_ports, to_unknown, to_port, sent_on, turned_back, is_request, answered_for, asked, rejected, rejection, decided, arriving_at, let_out, leaving_by}
use Rattle.net_meaning.specs.Walk.{Passed, carried, carrying}
use Rattle.net_meaning.specs.Walk.Passed.{GoesOn, Drops, Makes}
use Rattle.net_meaning.specs.Walk.Target.{OnePort, Ports}
use Rattle.net_meaning.specs.declared.answer.Answer.TheVariants.{Reject}
use Rattle.net_meaning.specs.declared.cause.Cause.TheVariants.{Acl, PortSec}
use Rattle.net_walks.specs.Alike.{ArePackets, IsClean, IsInside, IsKept, IsPort, is_register}
use Rattle.net_rows.proofs.Elements.{one_first, one_later}
use Rattle.pkt_core.proofs.Only.{only_value}
use Rattle.net_rows.proofs.Sound.{port_of_sound}
use Rattle.tr_router.specs.Parts.{IsState}
use Rattle.tr_router.proofs.Changed.{KeepsRest}
use Rattle.tr_walk.specs.Refined.{IsFresh}
use Rattle.tr_walk.proofs.NetworkPorts.{find_gives, its_port, number_fits, other_side}
use Rattle.tr_walk.proofs.Formed.{Fit, Others, fits_values, other_values, started, started_inport, replied, replied_inport, rejection_is, rejection_inport}
use Rattle.tr_walk.proofs.States.{ruled_left}
use Rattle.ls_laws.proofs.Packets.{set_value, other_value, fits_with, fits_only}

-- ---- what a packet carries

abbrev carried_numbers : Values → List (Field × ℕ)
carried_numbers packet = (Inport, value packet Inport) ∷ (FlagsLoopback, value packet FlagsLoopback) ∷ []

carried_is : (packet : Values) → IsPacket packet → IsPacket (carried packet)
carried_is packet is =
    let fit : Fit (carried_numbers packet) = (is.fits Inport, (is.fits FlagsLoopback, tt)) in
    fits_values (headers packet) (carried_numbers packet) (fits_only packet _ is) fit

carried_inport : (packet : Values) → IsPacket packet → value (carried packet) Inport ≡ value packet Inport
carried_inport packet is =
    other_value (with_value (headers packet) Inport (value packet Inport)) FlagsLoopback Inport (value packet FlagsLoopback) refl
    ∙ set_value (headers packet) Inport (value packet Inport) (fits_only packet _ is).count

-- a field that a packet has on its way alone is no header field
no_header : (packet : Values) (field : Field) → is_header field ≡ false → value (headers packet) field ≡ 0
no_header packet field is_not = only_value packet is_header field ∙ ap (λ b. cond b (value packet field) 0) is_not

-- registers, and what says something of a connection, are neither header fields nor carried
record IsApart (field : Field) : Type 0 where
  no_header : is_header field ≡ false
  no_inport : eqb (place Inport) (place field) ≡ false
  no_outport : eqb (place Outport) (place field) ≡ false
  no_loopback : eqb (place FlagsLoopback) (place field) ≡ false

are_apart : (field : Field) → is_register field ≡ true → IsApart field
are_apart CtState is = record { no_header = refl; no_inport = refl; no_outport = refl; no_loopback = refl }
are_apart CtMarkBlocked is = record { no_header = refl; no_inport = refl; no_outport = refl; no_loopback = refl }
are_apart Reg0 is = record { no_header = refl; no_inport = refl; no_outport = refl; no_loopback = refl }
are_apart Reg1 is = record { no_header = refl; no_inport = refl; no_outport = refl; no_loopback = refl }
are_apart Reg2 is = record { no_header = refl; no_inport = refl; no_outport = refl; no_loopback = refl }
are_apart Reg3 is = record { no_header = refl; no_inport = refl; no_outport = refl; no_loopback = refl }
are_apart Reg4 is = record { no_header = refl; no_inport = refl; no_outport = refl; no_loopback = refl }
are_apart Reg5 is = record { no_header = refl; no_inport = refl; no_outport = refl; no_loopback = refl }
are_apart Reg6 is = record { no_header = refl; no_inport = refl; no_outport = refl; no_loopback = refl }
are_apart _ is = absurd (false≢true is)

carried_clean : (packet : Values) → IsClean (carried packet)
carried_clean packet field is =
    let apart = are_apart field is in
    other_value (with_value (headers packet) Inport (value packet Inport)) FlagsLoopback field (value packet FlagsLoopback) apart.no_loopback
    ∙ other_value (headers packet) Inport field (value packet Inport) apart.no_inport ∙ no_header packet field apart.no_header

-- nor are they there in a packet that comes in
started_clean : (packet : Values) (port : ℕ) → IsClean (start packet port)
started_clean packet port field is =
    let coming = with_value (headers packet) Inport port in
    let apart = are_apart field is in
    only_value coming (is_there coming) field ∙ by (is_there coming field) (other_value (headers packet) Inport field port apart.no_inport ∙ no_header packet field apart.no_header)
  where
    by : (b : Bool) → value (with_value (headers packet) Inport port) field ≡ 0 → cond b (value (with_value (headers packet) Inport port) field) 0 ≡ 0
    by true none = none
    by false none = refl

-- the port to go out by is none of them
bound_clean : (packet : Values) (number : ℕ) → IsClean packet → IsClean (with_value packet Outport number)
bound_clean packet number clean field is = other_value packet Outport field number (are_apart field is).no_outport ∙ clean field is

-- so no stage has noted anything in such a packet
pub is_fresh : (packet : Values) → IsClean packet → IsFresh packet
is_fresh packet clean = record { register = clean Reg0 refl; flags = clean CtState refl; mark = clean CtMarkBlocked refl }

pub turned_is : (packet : Values) → IsPacket packet → IsPacket (turned_back packet)
turned_is packet is =
    let fit : Fit ((FlagsLoopback, 1) ∷ []) = (lit< tt, tt) in
    fits_values packet ((FlagsLoopback, 1) ∷ []) is fit

pub turned_inport : (packet : Values) → value (turned_back packet) Inport ≡ value packet Inport
turned_inport packet =
    let others : Others Inport ((FlagsLoopback, 1) ∷ []) = (refl, tt) in
    other_values packet ((FlagsLoopback, 1) ∷ []) Inport others

-- ---- MACs

-- the MAC that goes with an address is one of the port's
macs_fit : (ip : ℕ) (addresses : List Addr) → IsTrue (list_all is_mac (flat_map macs_of addresses)) → mac_with ip addresses < 2 ^ 48
macs_fit ip [] all = lit< tt
macs_fit ip (addr.Unknown ∷ addresses) all = macs_fit ip addresses all
macs_fit ip (addr.Router ∷ addresses) all = macs_fit ip addresses all
macs_fit ip (addr.Host mac ips ∷ addresses) all =
    let parts = and_parts (is_mac mac) (list_all is_mac (flat_map macs_of addresses)) all in
    by (is_among_ips ip ips) (ltb-true mac (2 ^ 48) (and_parts (nat_lt mac (2 ^ 48)) _ parts.0).0) (macs_fit ip addresses parts.1)
  where
    by : (b : Bool) → mac < 2 ^ 48 → mac_with ip addresses < 2 ^ 48 → cond b mac (mac_with ip addresses) < 2 ^ 48
    by true here rest = here
    by false here rest = rest

pub mac_fits : (net : Network) → IsSound net → (port : Port) → Contains net.ports port → (ip : ℕ) → mac_with ip port.addresses < 2 ^ 48
mac_fits net sound port there ip = macs_fit ip port.addresses (port_of_sound net sound port there).unicast

-- ---- the ports that are named

module _ (net : Network) where
  -- ports that a test picks
  picked : (p : Port → Bool) (ports : List Port) → ((port : Port) → Contains ports port → Contains net.ports port) → AllByRecursion (IsPort net) (numbers (filter p ports))
  picked p [] all = tt
  picked p (port ∷ ports) all = by (p port) (picked p ports (λ q there. all q (one_later port ports q there)))
    where
      by : (b : Bool) → AllByRecursion (IsPort net) (numbers (filter p ports)) → AllByRecursion (IsPort net) (numbers (cond b (port ∷ filter p ports) (filter p ports)))
      by true rest = (its_port net port (all port (one_first port ports port refl)), rest)
      by false rest = rest

  pub inside : (packet : Values) → IsPacket packet → IsPort net (record { 0 = value packet Inport }) → IsInside net (carried packet)
  inside packet is by = record { formed = carried_is packet is; clean = carried_clean packet; by = subst (λ n. IsPort net (record { 0 = n })) (sym (carried_inport packet is)) by }

  -- ---- what arrives

  module _ (sound : IsSound net) (packet : Values) (is : IsPacket packet) (from : IsPort net (record { 0 = value packet Inport })) where
    unknown_kept : (ports : List ObjId) → AllByRecursion (IsPort net) ports → IsKept net (Some (carrying (to_unknown ports packet)))
    unknown_kept [] all = tt
    unknown_kept (port ∷ ports) all = (all, inside packet is from)

    port_kept : (found : Option Port) → ((port : Port) → found ≡ Some port → Contains net.ports port) → (ports : List ObjId) → AllByRecursion (IsPort net) ports → IsKept net (Some (carrying (to_port found ports packet)))
    port_kept None there ports all = unknown_kept ports all
    port_kept (Some port) there ports all = (its_port net port (there port refl), inside packet is from)

    sent_kept : (switch : ObjId) → IsKept net (Some (carrying (sent_on net switch packet)))
    sent_kept switch = by (is_multicast (value packet EthDst))
      where
        every : (port : Port) → Contains net.ports port → Contains net.ports port
        every port there = there

        by : (b : Bool) → IsKept net (Some (carrying (cond b (GoesOn (Ports (open_ports net switch)) packet) (to_port (port_for net switch (value packet EthDst)) (unknown_ports net switch) packet))))
        by true = (picked (is_open switch) net.ports every, inside packet is from)
        by false =
            port_kept (port_for net switch (value packet EthDst)) (λ port found. (find_gives (λ p. is_open switch p && has_mac net (value packet EthDst) p) net.ports port found).0)
            (unknown_ports net switch) (picked (λ p. is_open switch p && takes_unknown p) net.ports every)

    rejected_kept : IsKept net (Some (carrying (rejected packet)))
    rejected_kept = by (is_answerable packet)
      where
        answer : IsInside net (carried (turned_back (rejection packet)))
        answer = inside (turned_back (rejection packet)) (turned_is (rejection packet) (rejection_is packet is)) (subst (λ n. IsPort net (record { 0 = n })) (sym (turned_inport (rejection packet) ∙ rejection_inport packet)) from)

        by : (may : Bool) → IsKept net (Some (carrying (cond may (Makes Reject (record { 0 = value packet Inport }) (turned_back (rejection packet))) (Drops Acl))))
        by true = (from, answer)
        by false = tt

    decided_kept : (what : Decision) (onward : Passed) → IsKept net (Some (carrying onward)) → IsKept net (Some (carrying (decided what packet onward)))
    decided_kept Allowed onward kept = kept
    decided_kept Dropped onward kept = tt
    decided_kept Rejected onward kept = rejected_kept
    decided_kept Full onward kept = tt

    answered_kept : (arrival : Port) → Contains net.ports arrival → (found : Option Port) → ((port : Port) → found ≡ Some port → Contains net.ports port) → IsKept net (Some (carrying (answered_for net arrival packet found)))
    answered_kept arrival at None there = sent_kept arrival.switch
    answered_kept arrival at (Some port) there =
        let mac = mac_with (value packet ArpTpa) port.addresses in
        let fits = mac_fits net sound port (there port refl) (value packet ArpTpa) in
        (its_port net arrival at, inside (turned_back (arp_reply packet mac)) (turned_is (arp_reply packet mac) (replied packet mac is fits)) (subst (λ n. IsPort net (record { 0 = n })) (sym (turned_inport (arp_reply packet mac) ∙ replied_inport packet mac)) from))

    asked_kept : (arrival : Port) → Contains net.ports arrival → IsKept net (Some (carrying (asked net arrival packet)))
    asked_kept arrival at = by (is_request packet && not (is_answering arrival.switch (value packet ArpTpa) arrival))
      where
        by : (b : Bool) → IsKept net (Some (carrying (cond b (answered_for net arrival packet (answering net arrival.switch (value packet ArpTpa))) (sent_on net arrival.switch packet))))
        by true = answered_kept arrival at (answering net arrival.switch (value packet ArpTpa)) (λ port found. (find_gives (is_answering arrival.switch (value packet ArpTpa)) net.ports port found).0)
        by false = sent_kept arrival.switch

    -- ---- what leaves

    pub let_out_kept : (port : Port) → Contains net.ports port → IsKept net (Some (carrying (let_out port packet)))
    let_out_kept port there = by (is_let_out port packet)
      where
        by : (b : Bool) → IsKept net (Some (carrying (cond b (GoesOn (OnePort port.id) packet) (Drops PortSec))))
        by true = (its_port net port there, inside packet is from)
        by false = tt

  -- ---- what ACLs and load balancers leave

  module _ (sound : IsSound net) (packet : Values) (is : IsPacket packet) (from : IsPort net (record { 0 = value packet Inport })) (port : Port) (there : Contains net.ports port) (state : State) (are : IsState state) where
    -- it came in by the same port
    still_from : (k : Values) → KeepsRest packet k → IsPort net (record { 0 = value k Inport })
    still_from k rest = subst (λ n. IsPort net (record { 0 = n })) (sym (rest Inport refl)) from

    pub arriving_kept : IsKept net (Some (carrying (arriving_at net port packet state).passed))
    arriving_kept = by (is_let_in port packet)
      where
        ruling : Ruled
        ruling = ruled net From port packet state

        by : (b : Bool) → IsKept net (Some (carrying (cond b (after_acls ruling (asked net port)) (record { passed = Drops PortSec; state = state })).passed))
        by true =
            let left = ruled_left net sound port there packet state is are From in
            let its = still_from ruling.packet left.rest in
            decided_kept sound ruling.packet left.is its ruling.what (asked net port ruling.packet) (asked_kept sound ruling.packet left.is its port there)
        by false = tt

    pub leaving_kept : IsKept net (Some (carrying (leaving_by net port packet state).passed))
    leaving_kept =
        let ruling = ruled net To port packet state in
        let left = ruled_left net sound port there packet state is are To in
        let its = still_from ruling.packet left.rest in
        decided_kept sound ruling.packet left.is its ruling.what (let_out port ruling.packet) (let_out_kept sound ruling.packet left.is its port there)

-- ---- packets at ports

module _ (net : Network) (sound : IsSound net) where
  pub are_packets : ArePackets net
  are_packets = record {
    starts = λ port packet is formed. (started packet port.0 formed (number_fits net sound port is), (started_clean packet port.0, started_inport packet port.0 formed));
    leaves = λ port packet is inside. (
      record {
        formed = fits_with packet Outport port.0 inside.formed (number_fits net sound port is);
        clean = bound_clean packet port.0 inside.clean;
        by = subst (λ n. IsPort net (record { 0 = n })) (sym (other_value packet Outport Inport port.0 refl)) inside.by;
      },
      set_value packet Outport port.0 inside.formed.count,
    );
    sides = other_side net;
  }
