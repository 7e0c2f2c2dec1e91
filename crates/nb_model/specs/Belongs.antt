-- What belongs to what: owners, members, peers, and which records say the same.
use Rattle.std.specs.Prelude.{ℕ, Bool, true, false, not, ◌&&◌, ◌==◌, if◌then◌else◌, List, [], ◌∷◌, filter, Option, Some, None}
use Rattle.std.specs.List.{find, list_any}
use Rattle.std.specs.Str.{bytes_eq}
use Rattle.nv_base.specs.Block.{Block}
use Rattle.nv_base.specs.declared.object.ObjId.{ObjId}
use Rattle.expr_core.specs.Text.{typed_text}
use Rattle.nb_records.specs.declared.acl.Way.{Way}
use Rattle.nb_records.specs.declared.acl.Way.TheVariants.{From, To}
use Rattle.nb_records.specs.declared.balancer.Frontend.{Frontend}
use Rattle.nb_records.specs.declared.edit.OwnerKind.{OwnerKind}
use Rattle.nb_records.specs.declared.edit.OwnerKind.TheVariants as owner
use Rattle.nb_records.specs.declared.router.NatKind.{NatKind}
use Rattle.nb_records.specs.declared.router.NatKind.TheVariants.{Snat, Dnat, DnatAndSnat}
use Rattle.nb_records.specs.declared.router.RouteBy.{RouteBy}
use Rattle.nb_records.specs.declared.router.RouteBy.TheVariants.{Dst, Src}
use Rattle.nb_records.specs.declared.switch.PortKind.{PortKind}
use Rattle.nb_records.specs.declared.switch.PortKind.TheVariants as port_kind
use Rattle.nb_model.specs.Network.{Network, same, switch_id, group_id, Acl, Binding, Nat, Route, RouterPort, Port}

-- the number is that of an object that is there
abbrev pub is_number : Option ObjId → ObjId → Bool
is_number None number = false
is_number (Some own) number = same own number

-- the number is one of these
abbrev pub is_among : ObjId → List ObjId → Bool
is_among number numbers = list_any (same number) numbers

-- each number once, where it comes first
abbrev pub once : List ObjId → List ObjId
once [] = []
once (number ∷ numbers) = number ∷ filter (λ other. not (same number other)) (once numbers)

abbrev pub same_block : Block → Block → Bool
same_block a b = (a.base.0 == b.base.0) && (a.len == b.len)

abbrev pub same_port : Option ℕ → Option ℕ → Bool
same_port None None = true
same_port (Some a) (Some b) = a == b
same_port _ _ = false

abbrev pub same_frontend : Frontend → Frontend → Bool
same_frontend a b = (a.addr.0 == b.addr.0) && same_port a.port b.port

abbrev pub same_policy : RouteBy → RouteBy → Bool
same_policy Dst Dst = true
same_policy Src Src = true
same_policy _ _ = false

abbrev pub same_nat_kind : NatKind → NatKind → Bool
same_nat_kind Snat Snat = true
same_nat_kind Dnat Dnat = true
same_nat_kind DnatAndSnat DnatAndSnat = true
same_nat_kind _ _ = false

abbrev pub is_snat : NatKind → Bool
is_snat kind = same_nat_kind kind Snat

abbrev pub same_way : Way → Way → Bool
same_way From From = true
same_way To To = true
same_way _ _ = false

-- two routes of one router are the same: one policy and one prefix
abbrev pub same_route : Route → Route → Bool
same_route a b = same a.router b.router && same_policy a.by b.by && same_block a.prefix b.prefix

-- Two NAT rules of one router are the same: `snat` rules of one logical prefix, or rules of the other kinds of one external address.
abbrev pub same_nat : Nat → Nat → Bool
same_nat a b =
    same a.router b.router
    && (if is_snat a.kind then is_snat b.kind && same_block a.logical b.logical else not (is_snat b.kind) && (a.external.0 == b.external.0))

-- two ACLs are the same: one owner, direction, priority and printed match
abbrev pub same_acl : Acl → Acl → Bool
same_acl a b = same a.owner b.owner && same_way a.way b.way && (a.priority == b.priority) && bytes_eq (typed_text a.matching) (typed_text b.matching)

-- two static bindings are the same: one router port and one address
abbrev pub same_binding : Binding → Binding → Bool
same_binding a b = same a.port b.port && (a.addr.0 == b.addr.0)

-- the first of two that is there
abbrev pub either : {X : Type 0} → Option X → Option X → Option X
either (Some x) other = Some x
either None other = other

-- The number of the owner of ACLs that a command names: of the kind that it gives, else a switch before a group.
abbrev pub owner_id : Network → Option OwnerKind → List ℕ → Option ObjId
owner_id net (Some owner.Switch) name = switch_id net name
owner_id net (Some owner.Group) name = group_id net name
owner_id net None name = either (switch_id net name) (group_id net name)

abbrev pub is_router_kind : PortKind → Bool
is_router_kind port_kind.Router = true
is_router_kind port_kind.Host = false

-- a port of kind Router
abbrev pub is_to_router : Port → Bool
is_to_router port = is_router_kind port.kind

-- the option names it
abbrev pub is_name : Option (List ℕ) → List ℕ → Bool
is_name None name = false
is_name (Some own) name = bytes_eq own name

-- The peer of a router port: the lowest-numbered port of kind Router whose option names it.
abbrev pub peer_port : Network → RouterPort → Option Port
peer_port net port = find (λ other. is_to_router other && is_name other.router_port port.name) net.ports

-- the port is that one
abbrev pub is_port : Port → Option Port → Bool
is_port port None = false
is_port port (Some other) = same port.id other.id

-- The peer of a port of kind Router: the router port whose peer it is.
abbrev pub peer_router_port : Network → Port → Option RouterPort
peer_router_port net port = find (λ other. is_port port (peer_port net other)) net.router_ports
