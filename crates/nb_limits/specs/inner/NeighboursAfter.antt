-- What is known of neighbours after an edit, by what is known before it.
use Rattle.std.specs.Prelude.{ℕ, Bool, true, false, ◌&&◌, ◌||◌, not, if◌then◌else◌, List, length, find, Option, Some, None, is_some}
use Rattle.std.specs.List.{list_any}
use Rattle.std.specs.Str.{bytes_eq}
use Rattle.nv_base.specs.declared.object.ObjId.{ObjId}
use Rattle.nb_records.specs.declared.edit.Edit.{Edit}
use Rattle.nb_records.specs.declared.edit.Edit.TheVariants as edit
use Rattle.nb_records.specs.declared.refusal.Kind.TheVariants as kind
use Rattle.nb_records.specs.declared.router.RouterPort.{RouterPort}
use Rattle.nb_records.specs.declared.switch.Addr.{Addr}
use Rattle.nb_records.specs.declared.switch.Port.{Port}
use Rattle.nb_records.specs.declared.switch.PortKind.{PortKind}
use Rattle.nb_records.specs.declared.switch.PortKind.TheVariants as port_kind
use Rattle.nb_model.specs.Amounts.{bound, total, ip_count, pair_count, neighbours_across}
use Rattle.nb_model.specs.Belongs.{is_to_router, is_name}
use Rattle.nb_model.specs.Network.{Network, port_named, router_port_named, same, switch_id}
use Rattle.nv_table.specs.Table.{is_after}
use Rattle.nb_limits.specs.inner.Within.{up_to, raised, raised_by}

-- each router port knows no more than so many besides
abbrev pub each_knows : Network → ℕ → Option ℕ → Option ℕ
each_knows net more most = raised_by (bound kind.Neighbour) most (up_to (bound kind.Neighbour) more) (length net.router_ports)

-- the port of the lowest number among those of kind Router whose option is this name
abbrev pub peer_named : Network → List ℕ → Option Port
peer_named net name = find (λ port. is_to_router port && is_name port.router_port name) net.ports

-- once a port is the peer of a router port of so many networks: that one knows what is across it, and each no more than these networks besides
abbrev pub with_peer : Network → Port → ℕ → Option ℕ → Option ℕ
with_peer net peer nets most = raised (bound kind.Neighbour) (raised_by (bound kind.Neighbour) most (up_to (bound kind.Neighbour) (neighbours_across net (Some peer))) 1) nets (length net.router_ports)

-- after a router port more of so many networks, which it may know too: none comes where no port names it
abbrev pub with_router_port : Network → Option Port → ℕ → Option ℕ → Option ℕ
with_router_port net None nets most = most
with_router_port net (Some peer) nets most = raised (bound kind.Neighbour) (with_peer net peer nets most) nets 1

-- once a port of kind Router names this router port, if it is there
abbrev pub with_own : Network → Port → Option RouterPort → Option ℕ → Option ℕ
with_own net port None most = most
with_own net port (Some own) most = with_peer net port (length own.nets) most

-- once it has this option
abbrev pub with_name : Network → Port → Option (List ℕ) → Option ℕ → Option ℕ
with_name net port None most = most
with_name net port (Some name) most = with_own net port (router_port_named net name) most

-- the port of the lowest number above this one that is of kind Router and names it
abbrev pub named_after : Network → ObjId → List ℕ → Option Port
named_after net number name = find (λ port. is_after (Some number) port.id && (is_to_router port && is_name port.router_port name)) net.ports

-- there is one for what the option names
abbrev pub is_followed : Network → ObjId → Option (List ℕ) → Bool
is_followed net number None = false
is_followed net number (Some name) = is_some (named_after net number name)

-- a port of kind Router whose place as a peer another one may take
abbrev pub has_follower : Network → Port → Bool
has_follower net port = is_to_router port && is_followed net port.id port.router_port

-- once a port is no peer: there are no more, but where another one may be a peer in its place
abbrev pub without : Network → Port → Option ℕ → Option ℕ
without net port most = if has_follower net port then None else most

-- without this port, if it is there
abbrev pub without_port : Network → Option Port → Option ℕ → Option ℕ
without_port net None most = most
without_port net (Some port) most = without net port most

-- a port of the switch has one that may take its place
abbrev pub has_followers : Network → ObjId → Bool
has_followers net switch = list_any (λ port. same switch port.switch && has_follower net port) net.ports

-- without the switch of this number, if there is one, and its ports
abbrev pub without_switch : Network → Option ObjId → Option ℕ → Option ℕ
without_switch net None most = most
without_switch net (Some switch) most = if has_followers net switch then None else most

-- once a port has these addresses
abbrev pub with_addresses : Network → List Addr → Option ℕ → Option ℕ
with_addresses net list most = each_knows net (total ip_count list) most

-- once a port is enabled, if it is there: it was, or its pairs come
abbrev pub with_enabled : Network → Option Port → Option ℕ → Option ℕ
with_enabled net None most = most
with_enabled net (Some port) most = if port.enabled then most else each_knows net (pair_count net port) most

-- two kinds are one
abbrev pub same_kind : PortKind → PortKind → Bool
same_kind port_kind.Host port_kind.Host = true
same_kind port_kind.Router port_kind.Router = true
same_kind _ _ = false

-- once a port of the other kind has this one: it names what its option says, or is no peer and its addresses come
abbrev pub other_kind : Network → Port → PortKind → Option ℕ → Option ℕ
other_kind net port port_kind.Router most = with_name net port port.router_port most
other_kind net port port_kind.Host most = with_addresses net port.addresses (without net port most)

-- once a port has this kind, if it is there
abbrev pub with_kind : Network → Option Port → PortKind → Option ℕ → Option ℕ
with_kind net None own most = most
with_kind net (Some port) own most = if same_kind port.kind own then most else other_kind net port own most

-- two options are one
abbrev pub same_option : Option (List ℕ) → Option (List ℕ) → Bool
same_option None None = true
same_option (Some a) (Some b) = bytes_eq a b
same_option _ _ = false

-- once a port has this option, if it is there: it had it, or is a host's, whose option says nothing, or names another router port than it did
abbrev pub with_option : Network → Option Port → Option (List ℕ) → Option ℕ → Option ℕ
with_option net None name most = most
with_option net (Some port) name most = if not (is_to_router port) || same_option port.router_port name then most else with_name net port name (without net port most)

-- after an edit
abbrev pub neighbours_after : Network → Edit → Option ℕ → Option ℕ
neighbours_after net (edit.LrpAdd router port mac nets may) most = with_router_port net (peer_named net port) (length nets) most
neighbours_after net (edit.LsDel name may) most = without_switch net (switch_id net name) most
neighbours_after net (edit.LspDel port may) most = without_port net (port_named net port) most
neighbours_after net (edit.LspSetAddresses port list) most = with_addresses net list most
neighbours_after net (edit.LspSetType port own) most = with_kind net (port_named net port) own most
neighbours_after net (edit.LspSetOptions port name) most = with_option net (port_named net port) name most
neighbours_after net (edit.LspSetEnabled port true) most = with_enabled net (port_named net port) most
neighbours_after net other most = most
