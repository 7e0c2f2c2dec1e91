-- What the names in matches and actions mean in a network (ovn-sb(5); ovn-nb(5), 'Address_Set TABLE' and 'Port_Group TABLE').
use Rattle.std.specs.Prelude.{ℕ, ◌==◌, ◌-◌, ◌/◌, Bool, false, ◌&&◌, List, [], length, take, Option, Some, None, is_some, nat_eq, codes, if◌then◌else◌}
use Rattle.std.specs.List.{starts_with, ends_with, find, flat_map, list_any}
use Rattle.nv_base.specs.declared.object.ObjId.{ObjId}
use Rattle.expr_core.specs.Lookup.{Lookup}
use Rattle.nv_table.specs.Table.{record_of}
use Rattle.nb_records.specs.declared.sets.Member.{Member}
use Rattle.nb_records.specs.declared.sets.Member.TheVariants as member
use Rattle.nb_model.specs.Addresses.{size_of}
use Rattle.nb_model.specs.Belongs.{either, is_among}
use Rattle.nb_model.specs.Network.{Network, same, port_id, router_port_id, set_named, group_named, AddrSet, Group, Port}
use Rattle.nb_model.specs.Readable.{ips_of}

-- the number of the port of this name, of a switch or of a router; a multicast group's name, which begins with `_MC_`, is no port's
abbrev pub port_number : Network → List ℕ → Option ObjId
port_number net name = if starts_with nat_eq name (codes "_MC_") then None else either (port_id net name) (router_port_id net name)

-- ---- port groups

-- the ports of a port group; there are none where there is no such group
abbrev pub ports_of_group : Option Group → List ObjId
ports_of_group None = []
ports_of_group (Some group) = group.ports

-- the port is in the port group of this name
abbrev pub group_has : Network → List ℕ → ObjId → Bool
group_has net name port = is_among port (ports_of_group (group_named net name))

-- ---- address sets

-- a member of a set is this number of so many bits: a MAC has 48, and the addresses of a network have 32
abbrev pub is_member : ℕ → ℕ → Member → Bool
is_member width value (member.Mac mac) = (width == 48) && (mac == value)
is_member width value (member.Net net) = (width == 32) && (value / size_of net == net.base.0 / size_of net)

-- a port of a switch has this IPv4 address
abbrev pub has_address : ℕ → Option Port → Bool
has_address value None = false
has_address value (Some port) = list_any (λ ip. ip.0 == value) (flat_map ips_of port.addresses)

-- the address is that of a port of the port group of this name
abbrev pub group_has_address : Network → List ℕ → ℕ → Bool
group_has_address net name value = list_any (λ number. has_address value (record_of (λ port. port.id) number net.ports)) (ports_of_group (group_named net name))

-- A number of so many bits is in the set. Where no set has the name `NAME_ip4`, it has the addresses of the ports of the group NAME.
abbrev pub is_in : Network → List ℕ → ℕ → ℕ → Option AddrSet → Bool
is_in net name width value (Some set) = list_any (is_member width value) set.members
is_in net name width value None = (width == 32) && (ends_with nat_eq name (codes "_ip4") && group_has_address net (take (length name - 4) name) value)

-- the address set of this name has this number of so many bits
abbrev pub set_has : Network → List ℕ → ℕ → ℕ → Bool
set_has net name width value = is_in net name width value (set_named net name)

-- what names mean
abbrev pub names : Network → Lookup
names net = record {
  port = port_number net;
  in_set = set_has net;
  in_group = group_has net;
  is_switch = λ dp. is_some (find (λ switch. same dp switch.id) net.switches);
}
