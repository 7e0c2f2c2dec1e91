-- The switches of a port group.
use Rattle.std.specs.Prelude.{ℕ, Bool, ◌&&◌, length, filter}
use Rattle.std.specs.List.{list_any}
use Rattle.nv_base.specs.declared.object.ObjId.{ObjId}
use Rattle.nb_records.specs.declared.sets.Group.{Group}
use Rattle.nb_model.specs.Belongs.{is_among}
use Rattle.nb_model.specs.Network.{Network, same}

-- a port of the group is on the switch of this number
abbrev pub has_port_on : Network → Group → ObjId → Bool
has_port_on net group switch = list_any (λ port. same port.switch switch && is_among port.id group.ports) net.ports

-- how many switches have a port of the group
abbrev pub switch_count : Network → Group → ℕ
switch_count net group = length (filter (λ switch. has_port_on net group switch.id) net.switches)
