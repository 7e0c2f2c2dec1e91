-- Where load balancers send packets (ovn-nb(5), 'Load_Balancer TABLE').
use Rattle.std.specs.Prelude.{ℕ, ◌==◌, Bool, true, false, ◌&&◌, List, length, Option, Some, None, option_map, slice_get, option_and_then}
use Rattle.std.specs.List.{find, filter_map}
use Rattle.nv_base.specs.declared.field.Field.TheVariants.{Ip4Dst}
use Rattle.nv_base.specs.declared.field.Prerequisite.TheVariants as needs
use Rattle.pkt_core.specs.declared.tuple.Tuple.{Tuple}
use Rattle.pkt_core.specs.Packet.{Values, value}
use Rattle.pkt_core.specs.Prerequisite.{meets}
use Rattle.pkt_core.specs.Tuple.{dport_of, tuple}
use Rattle.ct_core.specs.Translation.{balance, with_destination}
use Rattle.nb_records.specs.declared.balancer.Backend.{Backend}
use Rattle.nb_records.specs.declared.balancer.Lb.{Lb}
use Rattle.nb_records.specs.declared.balancer.Proto.{Proto}
use Rattle.nb_records.specs.declared.balancer.Proto.TheVariants as proto
use Rattle.nb_records.specs.declared.balancer.Vip.{Vip}
use Rattle.nb_model.specs.Belongs.{either}

-- a packet of the protocol
abbrev pub is_of : Proto → Values → Bool
is_of proto.Tcp packet = meets packet needs.Tcp
is_of proto.Udp packet = meets packet needs.Udp

-- a packet is to the address of a VIP; and to its port, where it has one, by the protocol of its load balancer
abbrev pub is_to : Values → Vip → Bool
is_to packet vip = vip.at.addr.0 == value packet Ip4Dst

abbrev pub is_to_port : Proto → Values → Option ℕ → Bool
is_to_port proto packet None = false
is_to_port proto packet (Some port) = is_of proto packet && (port == dport_of packet)

abbrev pub is_for_all : Option ℕ → Bool
is_for_all None = true
is_for_all (Some port) = false

-- the VIP of a load balancer that is for the packet's port, and the one that is for all
abbrev pub vip_of_port : Values → Lb → Option Vip
vip_of_port packet lb = find (λ vip. is_to packet vip && is_to_port lb.proto packet vip.at.port) lb.vips

abbrev pub vip_for_all : Values → Lb → Option Vip
vip_for_all packet lb = find (λ vip. is_to packet vip && is_for_all vip.at.port) lb.vips

-- the VIP that a packet is for: one of its port comes before one that is for all, then the load balancer of the lowest number
abbrev pub vip : List Lb → Values → Option Vip
vip lbs packet = either (slice_get (filter_map (vip_of_port packet) lbs) 0) (slice_get (filter_map (vip_for_all packet) lbs) 0)

-- the backend to which a packet goes
abbrev pub backend_for : Values → Vip → Option Backend
backend_for packet vip = slice_get vip.backends (balance (tuple packet) (length vip.backends))

-- the tuple that a packet gets which is for a VIP of one of these load balancers
abbrev pub balanced_tuple : List Lb → Values → Option Tuple
balanced_tuple lbs packet = option_map (λ backend. with_destination backend.addr backend.port (tuple packet)) (option_and_then (backend_for packet) (vip lbs packet))
