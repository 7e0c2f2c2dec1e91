-- What records are found by, beside their numbers, and the amounts that are added up over them.
use Rattle.std.specs.Prelude.{ℕ, ◌+◌, List, [], ◌∷◌, ◌++◌, ◌-◌, ◌^◌, min, length, map, sum, nat_le, if◌then◌else◌, Option, Some, None}
use Rattle.std.specs.List.{flat_map}
use Rattle.nv_base.specs.declared.ip4.Ip4.{Ip4}
use Rattle.nv_base.specs.declared.object.ObjId.{ObjId}
use Rattle.std.specs.declared.cmp.Ordering.{Ordering}
use Rattle.expr_digest.specs.Digest.{digest}
use Rattle.nb_records.specs.contracts.tag.TagOrd.TheImpl as tag_ord
use Rattle.nb_records.specs.declared.acl.Acl.{Acl}
use Rattle.nb_records.specs.declared.balancer.Lb.{Lb}
use Rattle.nb_records.specs.declared.router.Binding.{Binding}
use Rattle.nb_records.specs.declared.router.Nat.{Nat}
use Rattle.nb_records.specs.declared.router.NatKind.{NatKind}
use Rattle.nb_records.specs.declared.router.NatKind.TheVariants as nat
use Rattle.nb_records.specs.declared.router.Route.{Route}
use Rattle.nb_records.specs.declared.router.Router.{Router}
use Rattle.nb_records.specs.declared.router.RouterPort.{RouterPort}
use Rattle.nb_records.specs.declared.sets.AddrSet.{AddrSet}
use Rattle.nb_records.specs.declared.sets.Group.{Group}
use Rattle.nb_records.specs.declared.switch.Addr.{Addr}
use Rattle.nb_records.specs.declared.switch.Addr.TheVariants as addr
use Rattle.nb_records.specs.declared.switch.Guard.{Guard}
use Rattle.nb_records.specs.declared.switch.Port.{Port}
use Rattle.nb_records.specs.declared.switch.PortKind.{PortKind}
use Rattle.nb_records.specs.declared.switch.PortKind.TheVariants as kind
use Rattle.nb_records.specs.declared.switch.Switch.{Switch}
use Rattle.nb_records.specs.declared.tag.Rule.{Rule}
use Rattle.nb_records.specs.declared.tag.Rule.TheVariants as rule
use Rattle.nb_records.specs.declared.tag.Tag.{Tag}
use Rattle.nb_records.specs.declared.tag.Tag.TheVariants.{Named, Of, Names, Lists, Says, Has, HasMany}

-- how two tags compare
abbrev pub tag_cmp : Tag → Tag → Ordering
tag_cmp = (tag_ord.ghosts).cmp

-- a name, and what is listed
abbrev pub named_tags : List ℕ → List ObjId → List Tag
named_tags name listed = Named name ∷ map Lists listed

-- what the record belongs to, and what it says of that
abbrev pub owned_tags : ObjId → Rule → List Tag
owned_tags owner rule = Of owner ∷ Says owner rule ∷ []

-- the tags of a switch
abbrev pub switch_tags : Switch → List Tag
switch_tags s = named_tags s.name s.lbs

-- the tags of a router
abbrev pub router_tags : Router → List Tag
router_tags r = named_tags r.name r.lbs

-- the router port that a port of kind Router names
abbrev pub peer_tags : PortKind → Option (List ℕ) → List Tag
peer_tags kind.Router (Some name) = Names name ∷ []
peer_tags kind.Router None = []
peer_tags kind.Host name = []

-- the IPv4 addresses of an address of a port
abbrev pub ips_of : Addr → List Ip4
ips_of addr.Unknown = []
ips_of addr.Router = []
ips_of (addr.Host mac ips) = ips

-- the most IPv4 addresses of a port that are told one by one
abbrev pub most_told : ℕ
most_told = 256

-- the IPv4 addresses of a port, or that they are many
abbrev pub ip_tags : List Ip4 → List Tag
ip_tags ips = if nat_le (length ips) most_told then map Has ips else HasMany ∷ []

-- the tags of a port of a switch
abbrev pub port_tags : Port → List Tag
port_tags p = Named p.name ∷ Of p.switch ∷ (peer_tags p.kind p.router_port ++ ip_tags (flat_map ips_of p.addresses))

-- the tags of a router port
abbrev pub router_port_tags : RouterPort → List Tag
router_port_tags p = Named p.name ∷ Of p.router ∷ []

-- what a route says of its router
abbrev pub route_rule : Route → Rule
route_rule r = rule.Route r.by r.prefix.base r.prefix.len

-- the tags of a route
abbrev pub route_tags : Route → List Tag
route_tags r = owned_tags r.router (route_rule r)

-- what a NAT rule of a kind says of its router
abbrev pub rule_of : Nat → NatKind → Rule
rule_of n nat.Snat = rule.Snat n.logical.base n.logical.len
rule_of n nat.Dnat = rule.Dnat n.external
rule_of n nat.DnatAndSnat = rule.Dnat n.external

-- what a NAT rule says of its router
abbrev pub nat_rule : Nat → Rule
nat_rule n = rule_of n n.kind

-- the tags of a NAT rule
abbrev pub nat_tags : Nat → List Tag
nat_tags n = owned_tags n.router (nat_rule n)

-- the tags of a load balancer
abbrev pub lb_tags : Lb → List Tag
lb_tags lb = named_tags lb.name []

-- what an ACL says of its owner
abbrev pub acl_rule : Acl → Rule
acl_rule a = rule.Acl a.way a.priority (digest a.matching)

-- the tags of an ACL
abbrev pub acl_tags : Acl → List Tag
acl_tags a = owned_tags a.owner (acl_rule a)

-- the tags of an address set
abbrev pub set_tags : AddrSet → List Tag
set_tags s = named_tags s.name []

-- the tags of a group
abbrev pub group_tags : Group → List Tag
group_tags g = named_tags g.name g.ports

-- the tags of a static binding
abbrev pub binding_tags : Binding → List Tag
binding_tags b = owned_tags b.port (rule.Binding b.addr)

-- the MAC and the IPv4 addresses of an address of a port
abbrev pub address_count : Addr → ℕ
address_count addr.Unknown = 0
address_count addr.Router = 0
address_count (addr.Host mac ips) = 1 + length ips

-- the MAC and the networks of a guard of a port
abbrev pub guard_count : Guard → ℕ
guard_count guard = 1 + length guard.nets

-- those of all addresses of a port
abbrev pub addresses_count : Port → ℕ
addresses_count p = sum (map address_count p.addresses)

-- those of all its security
abbrev pub security_count : Port → ℕ
security_count p = sum (map guard_count p.security)

-- the greatest amount that a record counts for
abbrev pub most : ℕ
most = 2 ^ 64 - 1

-- the amounts of a port that a table adds up
abbrev pub port_weight : Port → ℕ × ℕ
port_weight p = (min (addresses_count p) most, min (security_count p) most)
