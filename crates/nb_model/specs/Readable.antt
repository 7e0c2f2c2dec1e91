-- What the words of a line can say: the records and the edits that readings give.
use Rattle.std.specs.Prelude.{ℕ, ◌^◌, Bool, true, false, not, ◌&&◌, ◌==◌, if◌then◌else◌, nat_lt, nat_le, IsTrue, List, [], ◌∷◌, length, Option, Some, None, is_some, is_none}
use Rattle.std.specs.List.{list_all, flat_map}
use Rattle.nv_base.specs.Block.{Block}
use Rattle.nv_base.specs.Name.{is_object_name}
use Rattle.nv_base.specs.declared.ip4.Ip4.{Ip4}
use Rattle.expr_check.specs.Printed.{IsPrintable}
use Rattle.expr_core.specs.Formula.{Formula}
use Rattle.expr_core.specs.declared.typed.TypedAtom.{TypedAtom}
pub use Rattle.nb_records.specs.Tags.{ips_of}
use Rattle.nb_records.specs.declared.acl.Way.{Way}
use Rattle.nb_records.specs.declared.balancer.Backend.{Backend}
use Rattle.nb_records.specs.declared.balancer.Frontend.{Frontend}
use Rattle.nb_records.specs.declared.balancer.Vip.{Vip}
use Rattle.nb_records.specs.declared.edit.Edit.{Edit}
use Rattle.nb_records.specs.declared.edit.Edit.TheVariants as edit
use Rattle.nb_records.specs.declared.router.NatKind.{NatKind}
use Rattle.nb_records.specs.declared.sets.Member.{Member}
use Rattle.nb_records.specs.declared.sets.Member.TheVariants as member
use Rattle.nb_records.specs.declared.switch.Addr.{Addr}
use Rattle.nb_records.specs.declared.switch.Addr.TheVariants as addr
use Rattle.nb_records.specs.declared.switch.Guard.{Guard}
use Rattle.nb_read.specs.Lists.{is_same_network, is_ip, is_base}
use Rattle.nb_read.specs.Readings.{is_set_name, is_owner_name, is_unicast, cleared, role_of}
use Rattle.nb_model.specs.Belongs.{same_block, is_snat}

-- no two of a list are the same
abbrev pub are_apart : {X : Type 0} → (X → X → Bool) → List X → Bool
are_apart same [] = true
are_apart same (x ∷ xs) = list_all (λ y. not (same x y)) xs && are_apart same xs

-- it passes where it is given
abbrev pub may_be : {X : Type 0} → (X → Bool) → Option X → Bool
may_be passes None = true
may_be passes (Some x) = passes x

-- the name, where it is given, is an object's
abbrev pub may_name : Option (List ℕ) → Bool
may_name name = may_be is_object_name name

-- a unicast MAC
abbrev pub is_mac : ℕ → Bool
is_mac mac = nat_lt mac (2 ^ 48) && is_unicast mac

-- an IPv4 address
abbrev pub is_ip4 : Ip4 → Bool
is_ip4 a = nat_lt a.0 (2 ^ 32)

-- an IPv4 prefix, with or without its host part
abbrev pub is_block : Block → Bool
is_block p = is_ip4 p.base && nat_le p.len 32

-- the MAC of an address of a port
abbrev pub macs_of : Addr → List ℕ
macs_of addr.Unknown = []
macs_of addr.Router = []
macs_of (addr.Host mac ips) = mac ∷ []

abbrev pub same_number : ℕ → ℕ → Bool
same_number a b = a == b

-- addresses of a port: unicast MACs, no MAC and no IPv4 address twice
abbrev pub are_addresses : List Addr → Bool
are_addresses list =
    list_all is_mac (flat_map macs_of list) && are_apart same_number (flat_map macs_of list)
    && list_all is_ip4 (flat_map ips_of list) && are_apart is_ip (flat_map ips_of list)

-- the prefixes that go with the MAC of a guard
abbrev pub nets_of : Guard → List Block
nets_of guard = guard.nets

-- guards of a port: unicast MACs, no MAC twice, and no address twice, whatever its length
abbrev pub are_guards : List Guard → Bool
are_guards list =
    list_all (λ guard. is_mac guard.mac) list && are_apart (λ a b. a.mac == b.mac) list
    && list_all is_block (flat_map nets_of list) && are_apart is_base (flat_map nets_of list)

-- networks of a router port: one or more, no address and no network twice
abbrev pub are_networks : List Block → Bool
are_networks nets = nat_lt 0 (length nets) && list_all is_block nets && are_apart is_same_network nets

-- a prefix whose host part is cleared
abbrev pub is_cleared : Block → Bool
is_cleared p = is_block p && same_block p (cleared p)

-- the address of the next router: not zero
abbrev pub is_nexthop : Ip4 → Bool
is_nexthop a = is_ip4 a && nat_lt 0 a.0

-- what a NAT rule of a kind changes: a network for `snat`, else an address
abbrev pub is_logical : NatKind → Block → Bool
is_logical kind p = if is_snat kind then is_cleared p else is_ip4 p.base && (p.len == 32)

-- what NAT rules change is as their kind wants it where it is given, and then the kind is given too
abbrev pub may_change : Option NatKind → Option Block → Bool
may_change None p = is_none p
may_change (Some kind) p = may_be (is_logical kind) p

-- a port of TCP or UDP where there is one
abbrev pub is_service : Option ℕ → Bool
is_service port = may_be (λ n. nat_lt 0 n && nat_lt n 65536) port

-- where connections go
abbrev pub is_frontend : Frontend → Bool
is_frontend at = is_ip4 at.addr && is_service at.port

abbrev pub same_truth : Bool → Bool → Bool
same_truth true b = b
same_truth false b = not b

-- a backend, with a port exactly where its VIP has one
abbrev pub is_backend : Bool → Backend → Bool
is_backend has_port backend = is_ip4 backend.addr && is_service backend.port && same_truth (is_some backend.port) has_port

-- a VIP: one backend or more, each with a port exactly where it has one
abbrev pub is_vip : Vip → Bool
is_vip vip = is_frontend vip.at && nat_lt 0 (length vip.backends) && list_all (is_backend (is_some vip.at.port)) vip.backends

-- a member of a set: a MAC that is not zero, or a prefix
abbrev pub is_member : Member → Bool
is_member (member.Mac mac) = nat_lt 0 mac && nat_lt mac (2 ^ 48)
is_member (member.Net p) = is_block p

-- a priority of ACLs
abbrev pub is_priority : ℕ → Bool
is_priority priority = nat_le priority 32767

-- the priority and the match of an ACL of a direction
abbrev pub IsRule : Way → ℕ × Formula TypedAtom → Type 0
IsRule way rule = IsTrue (is_priority rule.0) × IsPrintable (role_of way) rule.1

-- the priority and the match of ACLs are as their direction wants them where they are given, and then the direction is given too
abbrev pub MayBeRule : Option Way → Option (ℕ × Formula TypedAtom) → Type 0
MayBeRule way None = Unit {0}
MayBeRule None (Some rule) = ⊥
MayBeRule (Some way) (Some rule) = IsRule way rule

-- an edit that a command can ask for: its names, addresses, numbers and match are as the readings of its words leave them
abbrev pub IsReadable : Edit → Type 0
IsReadable (edit.LsAdd name may) = IsTrue (is_object_name name)
IsReadable (edit.LrAdd name may) = IsTrue (is_object_name name)
IsReadable (edit.LsDel name given) = IsTrue (is_object_name name)
IsReadable (edit.LrDel name given) = IsTrue (is_object_name name)
IsReadable (edit.LspAdd switch port may) = IsTrue (is_object_name switch && is_object_name port)
IsReadable (edit.LspDel port given) = IsTrue (is_object_name port)
IsReadable (edit.LspSetAddresses port list) = IsTrue (is_object_name port && are_addresses list)
IsReadable (edit.LspSetPortSecurity port list) = IsTrue (is_object_name port && are_guards list)
IsReadable (edit.LspSetType port kind) = IsTrue (is_object_name port)
IsReadable (edit.LspSetOptions port name) = IsTrue (is_object_name port && may_name name)
IsReadable (edit.LspSetEnabled port enabled) = IsTrue (is_object_name port)
IsReadable (edit.LrpSetEnabled port enabled) = IsTrue (is_object_name port)
IsReadable (edit.LrpAdd router port mac nets may) = IsTrue (is_object_name router && is_object_name port && is_mac mac && are_networks nets)
IsReadable (edit.LrpDel port given) = IsTrue (is_object_name port)
IsReadable (edit.LrRouteAdd router prefix nexthop port by) =
    IsTrue (is_object_name router && is_cleared prefix && is_nexthop nexthop && may_name port)
IsReadable (edit.LrRouteDel router prefix given by) = IsTrue (is_object_name router && may_be is_cleared prefix)
IsReadable (edit.LrNatAdd router kind external logical) = IsTrue (is_object_name router && is_ip4 external && is_logical kind logical)
IsReadable (edit.LrNatDel router kind at given) = IsTrue (is_object_name router && may_change kind at)
IsReadable (edit.LbAdd name at backends proto) = IsTrue (is_object_name name && is_vip (record { at = at; backends = backends }))
IsReadable (edit.LbDel name at given) = IsTrue (is_object_name name && may_be is_frontend at)
IsReadable (edit.LsLbAdd switch name may) = IsTrue (is_object_name switch && is_object_name name)
IsReadable (edit.LrLbAdd router name may) = IsTrue (is_object_name router && is_object_name name)
IsReadable (edit.LsLbDel switch name given) = IsTrue (is_object_name switch && may_name name)
IsReadable (edit.LrLbDel router name given) = IsTrue (is_object_name router && may_name name)
IsReadable (edit.AclAdd name way priority matching verdict may of) = IsTrue (is_owner_name of name) × IsRule way (priority, matching)
IsReadable (edit.AclDel name way rule of) = IsTrue (is_owner_name of name) × MayBeRule way rule
IsReadable (edit.PgAdd name ports) = IsTrue (is_set_name name && list_all is_object_name ports)
IsReadable (edit.PgSetPorts name ports) = IsTrue (is_set_name name && list_all is_object_name ports)
IsReadable (edit.PgDel name given) = IsTrue (is_set_name name)
IsReadable (edit.AsAdd name members) = IsTrue (is_set_name name && list_all is_member members)
IsReadable (edit.AsSet name members) = IsTrue (is_set_name name && list_all is_member members)
IsReadable (edit.AsDel name given) = IsTrue (is_set_name name)
IsReadable (edit.SmbAdd port addr mac) = IsTrue (is_object_name port && is_ip4 addr && is_mac mac)
IsReadable (edit.SmbDel port addr given) = IsTrue (is_object_name port && is_ip4 addr)
