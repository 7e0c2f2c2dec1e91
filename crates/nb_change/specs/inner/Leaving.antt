-- Groups that a port leaves, and a network without a switch.
use Rattle.std.specs.Prelude.{List, map}
use Rattle.nv_base.specs.declared.object.ObjId.{ObjId}
use Rattle.nb_records.specs.declared.sets.Group.{Group}
use Rattle.nb_model.specs.Effect.{without, without_ports}
use Rattle.nb_model.specs.Network.{Network, same}

-- the group without a port
abbrev pub leave : ObjId → Group → Group
leave port group = record group { ports = without (same port) group.ports }

-- each group without a port
abbrev pub leaving : ObjId → List Group → List Group
leaving port groups = map (leave port) groups

-- the network without a switch, its ports and its ACLs
abbrev pub without_switch : ObjId → Network → Network
without_switch switch net = record (without_ports (λ port. same switch port.switch) net) {
  switches = without (λ other. same switch other.id) net.switches;
  acls = without (λ acl. same switch acl.owner) net.acls;
}
