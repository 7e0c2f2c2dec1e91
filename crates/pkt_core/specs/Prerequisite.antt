-- Which fields a packet has (ovn-sb(5), 'Logical_Flow TABLE'), and the packet without the others.
use Rattle.std.specs.Prelude.{ℕ, ◌==◌, Bool, true, ◌&&◌, ◌||◌}
use Rattle.nv_base.specs.declared.field.Field.{Field}
use Rattle.nv_base.specs.declared.field.Field.TheVariants.{EthType, IpProto, Icmp4Type}
use Rattle.nv_base.specs.declared.field.Prerequisite.{Prerequisite}
use Rattle.nv_base.specs.declared.field.Prerequisite.TheVariants.{Nothing, Ip4, Arp, Tcp, Udp, Icmp4, IcmpError}
use Rattle.nv_base.specs.Field.{field_prerequisite}
use Rattle.pkt_core.specs.Packet.{Values, value, only}

-- the packet is IPv4
abbrev pub is_ip4 : Values → Bool
is_ip4 packet = value packet EthType == 0x800

-- the packet is IPv4 with this protocol
abbrev pub carries : Values → ℕ → Bool
carries packet protocol = is_ip4 packet && (value packet IpProto == protocol)

-- the packet is an ICMP error: destination unreachable (type 3) or time exceeded (type 11)
abbrev pub is_icmp_error : Values → Bool
is_icmp_error packet = carries packet 1 && ((value packet Icmp4Type == 3) || (value packet Icmp4Type == 11))

-- the packet is what a field needs to be there
abbrev pub meets : Values → Prerequisite → Bool
meets packet Nothing = true
meets packet Ip4 = is_ip4 packet
meets packet Arp = value packet EthType == 0x806
meets packet Tcp = carries packet 6
meets packet Udp = carries packet 17
meets packet Icmp4 = carries packet 1
meets packet IcmpError = is_icmp_error packet

-- a field is there where the packet meets its prerequisite
abbrev pub is_there : Values → Field → Bool
is_there packet field = meets packet (field_prerequisite field)

-- the packet without the fields that are not there
abbrev pub normal : Values → Values
normal packet = only packet (is_there packet)
