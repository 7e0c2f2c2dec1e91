-- The fields of a packet: header fields after ovn-sb(5), and quotes and working fields, which are not from OVN.
use Rattle.std.specs.Prelude.{ℕ, ◌==◌, nat_le, Bool, ◌&&◌, List, [], ◌∷◌, Option, codes}
use Rattle.std.specs.List.{find}
use Rattle.std.specs.Cmp.Lexicographic.{pointwise}
use Rattle.nv_base.specs.declared.field.Field.{Field}
use Rattle.nv_base.specs.declared.field.Field.TheVariants.{Inport, Outport, FlagsLoopback, EthSrc, EthDst, EthType, IpProto, IpTtl, Ip4Src, Ip4Dst, ArpOp, ArpSpa, ArpSha, ArpTpa, ArpTha, TcpSrc, TcpDst, TcpFlags, UdpSrc, UdpDst, Icmp4Type, Icmp4Code, QuoteProto, QuoteSrc, QuoteSport, QuoteDst, QuoteDport, CtState, CtMarkBlocked, Reg0, Reg1, Reg2, Reg3, Reg4, Reg5, Reg6}
use Rattle.nv_base.specs.declared.field.Printed.{Printed}
use Rattle.nv_base.specs.declared.field.Printed.TheVariants.{PortName, Decimal, Hexadecimal, MacAddress, Ip4Address}
use Rattle.nv_base.specs.declared.field.Prerequisite.{Prerequisite}
use Rattle.nv_base.specs.declared.field.Prerequisite.TheVariants.{Nothing, Ip4, Arp, Tcp, Udp, Icmp4, IcmpError}

-- what is known of a field
pub record Known : Type 0 where
  pub number : ℕ  -- from 1
  pub width : ℕ  -- how many bits its numbers have
  pub name : List ℕ  -- in a match
  pub printed : Printed  -- how its numbers are written
  pub prerequisite : Prerequisite  -- what a packet must be for it to be there

-- a line of the table
abbrev pub known : ℕ → ℕ → List ℕ → Printed → Prerequisite → Known
known number width name printed prerequisite = record { number = number; width = width; name = name; printed = printed; prerequisite = prerequisite }

-- how many fields there are
abbrev pub field_count : ℕ
field_count = 36

-- the table of the fields
abbrev pub field_table : Field → Known
field_table Inport = known 1 32 (codes "inport") PortName Nothing
field_table Outport = known 2 32 (codes "outport") PortName Nothing
field_table FlagsLoopback = known 3 1 (codes "flags.loopback") Decimal Nothing
field_table EthSrc = known 4 48 (codes "eth.src") MacAddress Nothing
field_table EthDst = known 5 48 (codes "eth.dst") MacAddress Nothing
field_table EthType = known 6 16 (codes "eth.type") Hexadecimal Nothing
field_table IpProto = known 7 8 (codes "ip.proto") Decimal Ip4
field_table IpTtl = known 8 8 (codes "ip.ttl") Decimal Ip4
field_table Ip4Src = known 9 32 (codes "ip4.src") Ip4Address Ip4
field_table Ip4Dst = known 10 32 (codes "ip4.dst") Ip4Address Ip4
field_table ArpOp = known 11 16 (codes "arp.op") Decimal Arp
field_table ArpSpa = known 12 32 (codes "arp.spa") Ip4Address Arp
field_table ArpSha = known 13 48 (codes "arp.sha") MacAddress Arp
field_table ArpTpa = known 14 32 (codes "arp.tpa") Ip4Address Arp
field_table ArpTha = known 15 48 (codes "arp.tha") MacAddress Arp
field_table TcpSrc = known 16 16 (codes "tcp.src") Decimal Tcp
field_table TcpDst = known 17 16 (codes "tcp.dst") Decimal Tcp
field_table TcpFlags = known 18 12 (codes "tcp.flags") Hexadecimal Tcp
field_table UdpSrc = known 19 16 (codes "udp.src") Decimal Udp
field_table UdpDst = known 20 16 (codes "udp.dst") Decimal Udp
field_table Icmp4Type = known 21 8 (codes "icmp4.type") Decimal Icmp4
field_table Icmp4Code = known 22 8 (codes "icmp4.code") Decimal Icmp4
field_table QuoteProto = known 23 8 (codes "quote.proto") Decimal IcmpError
field_table QuoteSrc = known 24 32 (codes "quote.src") Ip4Address IcmpError
field_table QuoteSport = known 25 16 (codes "quote.sport") Decimal IcmpError
field_table QuoteDst = known 26 32 (codes "quote.dst") Ip4Address IcmpError
field_table QuoteDport = known 27 16 (codes "quote.dport") Decimal IcmpError
field_table CtState = known 28 6 (codes "ct_state") Decimal Nothing
field_table CtMarkBlocked = known 29 1 (codes "ct_mark.blocked") Decimal Nothing
field_table Reg0 = known 30 32 (codes "reg0") Decimal Nothing
field_table Reg1 = known 31 32 (codes "reg1") Decimal Nothing
field_table Reg2 = known 32 32 (codes "reg2") Decimal Nothing
field_table Reg3 = known 33 32 (codes "reg3") Decimal Nothing
field_table Reg4 = known 34 32 (codes "reg4") Decimal Nothing
field_table Reg5 = known 35 32 (codes "reg5") Decimal Nothing
field_table Reg6 = known 36 48 (codes "reg6") MacAddress Nothing

-- the field's number, from 1
abbrev pub field_number : Field → ℕ
field_number field = (field_table field).number

-- how many bits its numbers have
abbrev pub field_width : Field → ℕ
field_width field = (field_table field).width

-- its name in a match
abbrev pub field_name : Field → List ℕ
field_name field = (field_table field).name

-- how its numbers are written
abbrev pub field_printed : Field → Printed
field_printed field = (field_table field).printed

-- what a packet must be for the field to be there
abbrev pub field_prerequisite : Field → Prerequisite
field_prerequisite field = (field_table field).prerequisite

-- whether the field is on the wire: its number is 4 to 27
abbrev pub is_header : Field → Bool
is_header field = nat_le 4 (field_number field) && nat_le (field_number field) 27

-- all the fields, in the order of their numbers
unfoldable pub all_fields : List Field
all_fields =
    Inport ∷ Outport ∷ FlagsLoopback ∷ EthSrc ∷ EthDst ∷ EthType ∷
    IpProto ∷ IpTtl ∷ Ip4Src ∷ Ip4Dst ∷ ArpOp ∷ ArpSpa ∷ ArpSha ∷ ArpTpa ∷ ArpTha ∷
    TcpSrc ∷ TcpDst ∷ TcpFlags ∷ UdpSrc ∷ UdpDst ∷ Icmp4Type ∷ Icmp4Code ∷
    QuoteProto ∷ QuoteSrc ∷ QuoteSport ∷ QuoteDst ∷ QuoteDport ∷ CtState ∷ CtMarkBlocked ∷
    Reg0 ∷ Reg1 ∷ Reg2 ∷ Reg3 ∷ Reg4 ∷ Reg5 ∷ Reg6 ∷ []

-- whether this is the field's name
abbrev pub is_named : Field → List ℕ → Bool
is_named field text = pointwise ◌==◌ (field_name field) text

-- the first field with this name
abbrev pub field_of : List ℕ → Option Field
field_of text = find (λ field. is_named field text) all_fields
