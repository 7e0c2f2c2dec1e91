-- Records by what they belong to, and the owners whose ACLs apply to a switch.
use Rattle.std.specs.Prelude.{◌≡◌, List, map, filter}
use Rattle.std.specs.List.{flat_map}
use Rattle.nv_base.specs.declared.object.ObjId.{ObjId}
use Rattle.nb_records.specs.declared.acl.Acl.{Acl}
use Rattle.nb_records.specs.declared.sets.Group.{Group}
use Rattle.nb_records.specs.declared.switch.Port.{Port}
use Rattle.nb_model.specs.Belongs.{is_among}
use Rattle.nb_model.specs.Network.{Network, same}
use Rattle.nb_model.specs.Applies.{applies}

-- the ports of a switch
abbrev pub ports_on : Network → ObjId → List Port
ports_on net switch = filter (λ port. same switch port.switch) net.ports

-- the ACLs of an owner
abbrev pub acls_of : Network → ObjId → List Acl
acls_of net owner = filter (λ acl. same owner acl.owner) net.acls

-- the groups that have a port
abbrev pub groups_with : Network → ObjId → List Group
groups_with net port = filter (λ group. is_among port group.ports) net.groups

-- their numbers
abbrev pub groups_of_port : Network → ObjId → List ObjId
groups_of_port net port = map (λ group. group.id) (groups_with net port)

-- the numbers of the groups of each port of a switch
abbrev pub groups_on : Network → ObjId → List ObjId
groups_on net switch = flat_map (λ port. groups_of_port net port.id) (ports_on net switch)

-- the ACLs that apply to the switch are those of these owners
pub record AreOwners (net : Network) (switch : ObjId) (owners : List ObjId) : Type 0 where
  pub are : (acl : Acl) → is_among acl.owner owners ≡ applies net switch acl
