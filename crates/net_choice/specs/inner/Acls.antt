-- The ACL that decides on a packet, owner by owner, in whatever order and however often owners come.
use Rattle.std.specs.Prelude.{Bool, ◌&&◌, ◌||◌, ◌==◌, nat_lt, if◌then◌else◌, List, Option, None, Some, filter, fold}
use Rattle.nv_base.specs.declared.object.ObjId.{ObjId}
use Rattle.pkt_core.specs.Packet.{Values}
use Rattle.expr_eval.specs.MatchMeaning.{holds}
use Rattle.nb_records.specs.declared.acl.Acl.{Acl}
use Rattle.nb_records.specs.declared.acl.Way.{Way}
use Rattle.nb_records.specs.declared.sets.Group.{Group}
use Rattle.nb_records.specs.declared.switch.Port.{Port}
use Rattle.nb_model.specs.Belongs.{is_among, same_way}
use Rattle.nb_model.specs.Names.{names}
use Rattle.nb_model.specs.Network.{Network, same}

-- the ports of a switch, the groups that have a port, and the ACLs of an owner
abbrev pub ports_on : Network → ObjId → List Port
ports_on net switch = filter (λ port. same switch port.switch) net.ports

abbrev pub groups_with : Network → ObjId → List Group
groups_with net port = filter (λ group. is_among port group.ports) net.groups

abbrev pub acls_of : Network → ObjId → List Acl
acls_of net owner = filter (λ acl. same owner acl.owner) net.acls

-- an ACL is of the direction, and holds of the packet
abbrev pub takes : Network → Way → Values → Acl → Bool
takes net way packet acl = same_way acl.way way && holds (names net) packet acl.matching

-- an ACL decides before another one: by its priority, and of equals by its number
abbrev pub is_before : Acl → Acl → Bool
is_before acl other = nat_lt other.priority acl.priority || ((acl.priority == other.priority) && nat_lt acl.id.0 other.id.0)

-- of two ACLs the one that decides first
abbrev pub first : Option Acl → Acl → Option Acl
first None acl = Some acl
first (Some best) acl = if is_before acl best then Some acl else Some best

-- where the second is for the packet
abbrev pub first_taking : Network → Way → Values → Option Acl → Acl → Option Acl
first_taking net way packet best acl = if takes net way packet acl then first best acl else best

-- of an ACL and those of an owner
abbrev pub first_of : Network → Way → Values → Option Acl → ObjId → Option Acl
first_of net way packet best owner = fold (first_taking net way packet) best (acls_of net owner)

-- of an ACL and those of the groups that have a port
abbrev pub first_with : Network → Way → Values → Option Acl → ObjId → Option Acl
first_with net way packet best port = fold (λ b group. first_of net way packet b group.id) best (groups_with net port)

-- of an ACL and those of the groups of each port of a switch
abbrev pub first_on : Network → Way → Values → Option Acl → ObjId → Option Acl
first_on net way packet best switch = fold (λ b port. first_with net way packet b port.id) best (ports_on net switch)
