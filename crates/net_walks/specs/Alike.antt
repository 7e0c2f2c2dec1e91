-- When two walks are alike, and what is asked of their parts for that: that they make the same of each packet, whatever they tell on the
-- way.
use Rattle.std.specs.Prelude.{◌≡◌, nat_le, Bool, true, ◌++◌, Contains, Option, Some, None, option_map}
use Rattle.std.specs.List.{AllByRecursion}
use Rattle.nv_base.specs.declared.object.ObjId.{ObjId}
use Rattle.nv_base.specs.declared.field.Field.{Field}
use Rattle.nv_base.specs.declared.field.Field.TheVariants.{Inport, Outport}
use Rattle.nv_base.specs.Field.{field_number}
use Rattle.pkt_core.specs.Packet.{Values, IsPacket, value, with_value}
use Rattle.pkt_core.specs.Replies.{start}
use Rattle.nb_model.specs.Network.{Network}
use Rattle.nb_model.specs.Sound.{port_ids, router_port_ids}
use Rattle.net_meaning.specs.Places.{side_of}
use Rattle.net_meaning.specs.Places.Side.{Peer}
use Rattle.net_meaning.specs.Walk.{Passed, Part, Parts, Walked, carrying, events}
use Rattle.net_meaning.specs.Walk.Passed.{GoesOn, Drops, Makes}
use Rattle.net_meaning.specs.Walk.Target.{OnePort, Ports, Late}

-- two walks tell the same of packets, and leave the same state
pub record AreAlike {N M S : Type 0} (one : Walked N S) (other : Walked M S) : Type 0 where
  pub told : events one.told ≡ events other.told
  pub left : one.state ≡ other.state

-- and the state is of a kind
pub record Agree {N M S : Type 0} (Holds : S → Type 0) (one : Walked N S) (other : Walked M S) : Type 0 where
  pub alike : AreAlike one other
  pub holds : Holds other.state

-- the number of a port of a datapath: of a switch, or of a router
abbrev pub IsPort : Network → ObjId → Type 0
IsPort net number = Contains (port_ids net ++ router_port_ids net) number

-- whether the field says something of the packet's connection, or is a register: its number is from 28 on
abbrev pub is_register : Field → Bool
is_register field = nat_le 28 (field_number field)

-- these are not carried from part to part, so they are zero in a packet that a part is given
abbrev pub IsClean : Values → Type 0
IsClean packet = (field : Field) → is_register field ≡ true → value packet field ≡ 0

module _ (net : Network) where
  -- a packet that came in by a port of a datapath
  pub record IsInside (packet : Values) : Type 0 where
    pub formed : IsPacket packet
    pub clean : IsClean packet
    pub by : IsPort net (record { 0 = value packet Inport })

  -- what a part makes of a packet stays among the ports of the network
  abbrev pub IsKept : Option Passed → Type 0
  IsKept None = Unit {0}
  IsKept (Some (GoesOn (OnePort port) packet)) = IsPort net port × IsInside packet
  IsKept (Some (GoesOn (Late port) packet)) = IsPort net port × IsInside packet
  IsKept (Some (GoesOn (Ports ports) packet)) = AllByRecursion (IsPort net) ports × IsInside packet
  IsKept (Some (Drops why)) = Unit {0}
  IsKept (Some (Makes answer port packet)) = IsPort net port × IsInside packet

  module _ {N M S : Type 0} (Holds : S → Type 0) where
    -- two parts make the same of a packet, which stays among the ports, and leave one state, of the kind; what they tell is their own
    pub record SamePart (one : Part N S) (other : Part M S) : Type 0 where
      pub passed : option_map carrying one.passed ≡ option_map carrying other.passed
      pub state : one.state ≡ other.state
      pub kept : IsKept (option_map carrying other.passed)
      pub holds : Holds other.state

    -- so do the parts of two walks, of each packet, at each port, from each state of the kind
    pub record SameParts (ps : Parts N S) (qs : Parts M S) : Type 0 where
      pub arriving : (port : ObjId) (packet : Values) (state : S) → IsPort net port → IsPacket packet → IsClean packet → value packet Inport ≡ port.0 → Holds state → SamePart (ps.arriving port packet state) (qs.arriving port packet state)
      pub leaving : (port : ObjId) (packet : Values) (state : S) → IsPort net port → IsInside packet → value packet Outport ≡ port.0 → Holds state → SamePart (ps.leaving port packet state) (qs.leaving port packet state)
      pub late : (port : ObjId) (packet : Values) (state : S) → IsPort net port → IsInside packet → value packet Outport ≡ port.0 → Holds state → SamePart (ps.late port packet state) (qs.late port packet state)

  -- what the walk makes of packets at ports are packets, and the other side of a port is one, as in each sound network
  pub record ArePackets : Type 0 where
    pub starts : (port : ObjId) (packet : Values) → IsPort net port → IsPacket packet → IsPacket (start packet port.0) × (IsClean (start packet port.0) × (value (start packet port.0) Inport ≡ port.0))
    pub leaves : (port : ObjId) (packet : Values) → IsPort net port → IsInside packet → IsInside (with_value packet Outport port.0) × (value (with_value packet Outport port.0) Outport ≡ port.0)
    pub sides : (port peer : ObjId) → side_of net port ≡ Peer peer → IsPort net peer
