-- What translation does with a packet and the connections (ovn-sb(5), `ct_lb`, `ct_dnat` and `ct_snat`).
use Rattle.std.specs.Prelude.{if◌then◌else◌, List, length, Option, None, slice_get, option_map}
use Rattle.nv_base.specs.declared.ip4.Ip4.{Ip4}
use Rattle.nv_base.specs.declared.object.ObjId.{ObjId}
use Rattle.pkt_core.specs.declared.tuple.Tuple.{Tuple}
use Rattle.pkt_core.specs.Packet.{Values}
use Rattle.pkt_core.specs.Prerequisite.{is_ip4}
use Rattle.pkt_core.specs.Tuple.{tuple}
use Rattle.ct_core.specs.declared.entry.Entry.{Entry}
use Rattle.ct_core.specs.declared.look.Look.{Look}
use Rattle.ct_core.specs.declared.zone.Zone.{Zone}
use Rattle.ct_core.specs.declared.zone.Zone.TheVariants.{Dnat}
use Rattle.ct_core.specs.Look.{look}
use Rattle.ct_core.specs.Translation.{back, balance, forth, with_destination}
use Rattle.act_core.specs.declared.step.Target.{Target}
use Rattle.sb_model.specs.declared.stage.DatapathKind.{DatapathKind}
use Rattle.sb_model.specs.declared.stage.DatapathKind.TheVariants.{Switch, Router}
use Rattle.sb_model.specs.declared.stage.Pipeline.{Pipeline}
use Rattle.sb_model.specs.declared.stage.Pipeline.TheVariants.{Ingress, Egress}
use Rattle.sb_model.specs.declared.stage.Stage.{Stage}
use Rattle.sb_model.specs.Stage.{pipeline_of, stage_table}
use Rattle.tr_pipe.specs.Tracking.{Flight, seen, with_packet, zone_of}

-- the zone in which load is balanced: of a switch that of the packet's port, of a router that in which destinations change
abbrev pub zone_in : DatapathKind → ObjId → Pipeline → Values → Zone
zone_in Switch dp pipeline packet = zone_of pipeline packet
zone_in Router dp pipeline packet = Dnat dp

abbrev pub zone_at : ObjId → Stage → Values → Zone
zone_at dp stage packet = zone_in (stage_table stage).kind dp (pipeline_of stage) packet

-- what a look-up makes of a packet, by the connections
abbrev pub Change : Type 0
Change = List Entry → Values → Look → Values

-- a packet of IPv4 is looked up in a zone, and changed by what is found
abbrev pub changed_by : Change → Look → Flight → Flight
changed_by change found flight = with_packet (seen found flight) (change flight.state.conns (seen found flight).packet found)

abbrev pub tracked_by : Change → Zone → Flight → Flight
tracked_by change zone flight = if is_ip4 flight.packet then changed_by change (look flight.state.conns zone flight.packet) flight else flight

-- destinations change on arriving, and change back on leaving
abbrev pub way_of : Pipeline → Change
way_of Ingress = forth
way_of Egress = back

-- a reply to a changed source gets its destination back; what else is known of the packet stays
abbrev pub unhidden : Zone → Flight → Flight
unhidden zone flight =
    if is_ip4 flight.packet then with_packet flight (back flight.state.conns flight.packet (look flight.state.conns zone flight.packet)) else flight

-- the tuple of a packet that goes to one of these targets
abbrev pub balanced_to : List Target → Values → Option Tuple
balanced_to targets packet =
    option_map (λ target. with_destination target.addr target.port (tuple packet)) (slice_get targets (balance (tuple packet) (length targets)))

-- to an address
abbrev pub redirected_to : Ip4 → Values → Tuple
redirected_to addr packet = with_destination addr None (tuple packet)
