-- What a router does with a packet (ovn-architecture(7), ovn-northd(8)). It knows the network's objects alone, the connections that
-- packets left, and the neighbours that were learnt.
use Rattle.std.specs.Prelude.{ℕ, ◌-◌, ◌==◌, if◌then◌else◌, [], ◌∷◌, Option, Some, None}
use Rattle.nv_base.specs.Ip4.{address}
use Rattle.nv_base.specs.declared.field.Field.TheVariants.{Inport, EthSrc, EthDst, IpTtl, Ip4Src, Ip4Dst}
use Rattle.pkt_core.specs.Packet.{Values, value, with_value, with_values}
use Rattle.pkt_core.specs.Replies.{arp_request}
use Rattle.ct_core.specs.State.{State}
use Rattle.nb_records.specs.declared.router.RouterPort.{RouterPort}
use Rattle.nb_model.specs.Network.{Network}
use Rattle.net_meaning.specs.Switches.{Did, turned_back}
use Rattle.net_meaning.specs.Walk.{Passed}
use Rattle.net_meaning.specs.Walk.Passed.{GoesOn, Drops, Makes}
use Rattle.net_meaning.specs.Walk.Target.{OnePort}
use Rattle.net_meaning.specs.declared.answer.Answer.TheVariants.{Arp}
use Rattle.net_meaning.specs.declared.cause.Cause.TheVariants.{Admission, NoRoute, Delivery}
use Rattle.net_router.specs.Input.{after_learning, is_admitted, taken_in}
use Rattle.net_router.specs.Resolution.{mac_for}
use Rattle.net_router.specs.Routing.{Hop, hop_for}
use Rattle.net_router.specs.Translation.{Changed, changed_out, dnatted, unsnatted}
use Rattle.net_router.specs.Translation.Changed.{Onward, Stopped}

abbrev pub did : Passed → State → Did
did passed state = record { passed = passed; state = state }

-- what follows a change of addresses
abbrev pub then_on : Changed → State → (Values → State → Did) → Did
then_on (Onward packet after) state onward = onward packet after
then_on (Stopped why) state onward = did (Drops why) state

-- ---- arriving

-- the packet as it leaves for a hop: with one hop less to live, from the MAC of the port
abbrev pub passed_on : Hop → Values → Values
passed_on hop packet = turned_back (with_values packet ((IpTtl, value packet IpTtl - 1) ∷ (EthSrc, hop.port.mac) ∷ []))

-- the ARP request that takes the place of a packet, at the port that this came in by
abbrev pub asked_about : RouterPort → Hop → Values
asked_about arrival hop = turned_back (with_value (arp_request hop.port.mac hop.from hop.via) Inport arrival.id.0)

-- the packet goes to the MAC of the next host, or that is asked for
abbrev pub sent_to : RouterPort → Hop → Values → ℕ → Passed
sent_to arrival hop packet mac =
    if mac == 0 then Makes Arp hop.port.id (asked_about arrival hop) else GoesOn (OnePort hop.port.id) (with_value (passed_on hop packet) EthDst mac)

abbrev pub sent_by : Network → RouterPort → Option Hop → Values → State → Passed
sent_by net arrival None packet state = Drops NoRoute
sent_by net arrival (Some hop) packet state = sent_to arrival hop packet (mac_for net hop.port hop.via state.nbrs)

-- a packet is routed, by its addresses as they are now
abbrev pub routed : Network → RouterPort → Values → State → Did
routed net arrival packet state =
    did (sent_by net arrival (hop_for net arrival.router (address (value packet Ip4Src)) (address (value packet Ip4Dst))) packet state) state

-- a packet is passed on: its destination may change first
abbrev pub redirected_on : Network → RouterPort → Values → State → Did
redirected_on net arrival packet state = then_on (dnatted net arrival.router packet state) state (routed net arrival)

abbrev pub unless_taken : Network → RouterPort → Option Passed → Values → State → Did
unless_taken net arrival (Some passed) packet state = did passed state
unless_taken net arrival None packet state = redirected_on net arrival (unsnatted net arrival.router state.conns packet) state

abbrev pub taken_by : Network → RouterPort → Values → State → Did
taken_by net arrival packet state = unless_taken net arrival (taken_in net arrival packet) packet state

-- what a router does with a packet that arrives at one of its ports; what the packet tells of a neighbour is learnt in any case
abbrev pub arriving_at : Network → RouterPort → Values → State → Did
arriving_at net arrival packet state =
    if is_admitted arrival packet then taken_by net arrival packet (after_learning arrival packet state) else did (Drops Admission) state

-- ---- leaving

-- the last step: an enabled port delivers
abbrev pub delivered : RouterPort → Values → Passed
delivered port packet = if port.enabled then GoesOn (OnePort port.id) packet else Drops Delivery

abbrev pub leaving_late : RouterPort → Values → State → Did
leaving_late port packet state = did (delivered port packet) state

-- what a router does with a packet that leaves by one of its ports
abbrev pub leaving_by : Network → RouterPort → Values → State → Did
leaving_by net port packet state = then_on (changed_out net port.router packet state) state (leaving_late port)
