-- The group of a number, among the groups that list a port, and a port that it lists.
use Rattle.std.specs.Prelude.{ℕ, ◌-◌, ◌==◌, ◌&&◌, Bool, false, List, Option, Some, None, find, if◌then◌else◌}
use Rattle.std.specs.List.{flat_map, list_any}
use Rattle.nv_base.specs.declared.object.ObjId.{ObjId}
use Rattle.nb_records.specs.Tags.{ips_of}
use Rattle.nb_records.specs.declared.sets.Group.{Group}
use Rattle.nb_records.specs.declared.switch.Port.{Port}
use Rattle.nb_model.specs.Belongs.{is_among}
use Rattle.nb_model.specs.Network.{same}
use Rattle.nv_table.specs.Table.{is_after}

-- the number before this one, if there is one
abbrev pub before : ObjId → Option ObjId
before number = if number.0 == 0 then None else Some (record { 0 = number.0 - 1 })

-- a group was found, and has this number
abbrev pub is_it : ObjId → Option Group → Bool
is_it number None = false
is_it number (Some group) = same group.id number

-- of the groups that list a port, the first from this number on has this number
abbrev pub lists : List Group → ObjId → ObjId → Bool
lists groups number port = is_it number (find (λ group. is_after (before number) group.id && is_among port group.ports) groups)

-- a port has this IPv4 address
abbrev pub has_ip : ℕ → Port → Bool
has_ip value port = list_any (λ ip. ip.0 == value) (flat_map ips_of port.addresses)
