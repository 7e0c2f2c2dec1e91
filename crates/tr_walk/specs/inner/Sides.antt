-- Where packets go: over to the other side of a port, to one port, or to each of several.
use Rattle.std.specs.Prelude.{Bool, ◌&&◌, if◌then◌else◌, List, [], ◌∷◌, Option, Some, None}
use Rattle.nv_base.specs.declared.object.ObjId.{ObjId}
use Rattle.nb_records.specs.declared.switch.Port.{Port}
use Rattle.nb_model.specs.Network.{Network}
use Rattle.net_meaning.specs.Places.{Side}
use Rattle.net_meaning.specs.Places.Side.{Host, Peer, NoPeer}
use Rattle.nb_model.specs.Ports.{takes_unknown}
use Rattle.net_meaning.specs.Switches.{open_ports, unknown_ports}
use Rattle.net_meaning.specs.Walk.{Target}
use Rattle.net_meaning.specs.Walk.Target.{OnePort, Ports}
use Rattle.tr_walk.specs.declared.places.Side.{Side as OwnSide}
use Rattle.tr_walk.specs.declared.places.Side.TheVariants as own
use Rattle.tr_walk.specs.declared.ports.Group.{Group}
use Rattle.tr_walk.specs.declared.ports.Group.TheVariants.{Flood, Unknown}

-- a side that the code knows
abbrev pub side : OwnSide → Side
side own.Host = Host
side (own.Peer port) = Peer port
side own.NoPeer = NoPeer

-- an enabled port of a switch is in the group
abbrev pub is_member : Group → Port → Bool
is_member Flood port = port.enabled
is_member Unknown port = port.enabled && takes_unknown port

-- the number of a port that is in the group
abbrev pub numbers_in : Group → Port → List ObjId
numbers_in group port = if is_member group port then port.id ∷ [] else []

-- the ports of a group, on a switch
abbrev pub ports_of : Network → ObjId → Group → List ObjId
ports_of net switch Flood = open_ports net switch
ports_of net switch Unknown = unknown_ports net switch

-- by each port of the group, or by the one port where it is none
abbrev pub target : Network → ObjId → ObjId → Option Group → Target
target net switch port (Some group) = Ports (ports_of net switch group)
target net switch port None = OnePort port
