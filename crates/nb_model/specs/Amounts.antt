-- How much of each kind a network has, and how much it may have (not from OVN).
use Rattle.std.specs.Prelude.{ℕ, ◌+◌, ◌*◌, not, ◌&&◌, if◌then◌else◌, max, nat_lt, List, [], ◌∷◌, length, filter, map, sum, Option, Some, None, option_map}
use Rattle.std.specs.List.{find}
use Rattle.expr_core.specs.Text.{typed_text}
use Rattle.nb_records.specs.declared.refusal.Kind.{Kind}
use Rattle.nb_records.specs.declared.refusal.Kind.TheVariants as kind
use Rattle.nb_records.specs.declared.refusal.Refusal.{Refusal}
use Rattle.nb_records.specs.declared.refusal.Refusal.TheVariants.{Limit}
use Rattle.nb_records.specs.declared.switch.Addr.{Addr}
use Rattle.nb_records.specs.declared.switch.Addr.TheVariants as addr
use Rattle.nv_base.specs.declared.object.ObjId.{ObjId}
use Rattle.nb_model.specs.Network.{Network, same, RouterPort, Port}
use Rattle.nb_model.specs.Applies.{switches_of_acl}
use Rattle.nb_model.specs.Belongs.{is_to_router, is_among, peer_port, peer_router_port}
use Rattle.nb_records.specs.Tags.{address_count, guard_count}

-- the sum of an amount over a list
abbrev pub total : {X : Type 0} → (X → ℕ) → List X → ℕ
total amount xs = sum (map amount xs)

-- the greatest of an amount over a list
abbrev pub greatest : {X : Type 0} → (X → ℕ) → List X → ℕ
greatest amount [] = 0
greatest amount (x ∷ xs) = max (amount x) (greatest amount xs)

-- the IPv4 addresses of an address of a port
abbrev pub ip_count : Addr → ℕ
ip_count addr.Unknown = 0
ip_count addr.Router = 0
ip_count (addr.Host mac ips) = length ips

-- the addresses of one router port's networks, or none
abbrev pub net_count : Option RouterPort → ℕ
net_count None = 0
net_count (Some port) = length port.nets

-- the pairs of a MAC and an address by which a router knows a port: its own, or of a port of kind Router those of its peer
abbrev pub pair_count : Network → Port → ℕ
pair_count net port = if is_to_router port then net_count (peer_router_port net port) else total ip_count port.addresses

-- the neighbours that a router port knows across its peer: the pairs of the other enabled ports of the peer's switch
abbrev pub neighbours_across : Network → Option Port → ℕ
neighbours_across net None = 0
neighbours_across net (Some peer) = total (pair_count net) (filter (λ port. port.enabled && (same port.switch peer.switch && not (same port.id peer.id))) net.ports)

-- the VIPs of these load balancers
abbrev pub vips_of : Network → List ObjId → ℕ
vips_of net numbers = total (λ lb. length lb.vips) (filter (λ lb. is_among lb.id numbers) net.lbs)

-- How much of a kind there is; of VIPs and backends the most that one load balancer, or one VIP, has.
abbrev pub amount : Network → Kind → ℕ
amount net kind.Switch = length net.switches
amount net kind.Router = length net.routers
amount net kind.Port = length net.ports
amount net kind.RouterPort = length net.router_ports
amount net kind.Network = total (λ port. length port.nets) net.router_ports
amount net kind.Address = total (λ port. total address_count port.addresses) net.ports
amount net kind.Security = total (λ port. total guard_count port.security) net.ports
amount net kind.Acl = length net.acls
amount net kind.AclSwitch = total (λ acl. length (switches_of_acl net acl)) net.acls
amount net kind.Route = length net.routes
amount net kind.Nat = length net.nats
amount net kind.Lb = length net.lbs
amount net kind.Vip = greatest (λ lb. length lb.vips) net.lbs
amount net kind.Backend = greatest (λ lb. greatest (λ vip. length vip.backends) lb.vips) net.lbs
amount net kind.VipDatapath = total (λ switch. vips_of net switch.lbs) net.switches + total (λ router. vips_of net router.lbs) net.routers
amount net kind.Neighbour = total (λ port. neighbours_across net (peer_port net port)) net.router_ports
amount net kind.Set = length net.sets + length net.groups
amount net kind.Member = total (λ set. length set.members) net.sets + total (λ group. length group.ports) net.groups
amount net kind.MatchText = total (λ acl. length (typed_text acl.matching) * length (switches_of_acl net acl)) net.acls
amount net kind.Binding = length net.bindings

-- how much of a kind there may be
abbrev pub bound : Kind → ℕ
bound kind.Switch = 1024
bound kind.Router = 256
bound kind.Port = 16384
bound kind.RouterPort = 2048
bound kind.Network = 4096
bound kind.Address = 32768
bound kind.Security = 32768
bound kind.Acl = 16384
bound kind.AclSwitch = 65536
bound kind.Route = 4096
bound kind.Nat = 4096
bound kind.Lb = 1024
bound kind.Vip = 64
bound kind.Backend = 64
bound kind.VipDatapath = 16384
bound kind.Neighbour = 262144
bound kind.Set = 4096
bound kind.Member = 262144
bound kind.MatchText = 67108864
bound kind.Binding = 4096

-- the kinds, in the order in which their bounds are tested
abbrev pub kinds : List Kind
kinds =
    kind.Switch ∷ kind.Router ∷ kind.Port ∷ kind.RouterPort ∷ kind.Network ∷ kind.Address ∷ kind.Security ∷ kind.Acl ∷ kind.AclSwitch ∷ kind.Route ∷
    kind.Nat ∷ kind.Lb ∷ kind.Vip ∷ kind.Backend ∷ kind.VipDatapath ∷ kind.Neighbour ∷ kind.Set ∷ kind.Member ∷ kind.MatchText ∷ kind.Binding ∷ []

-- the first of these kinds of which there is more than its bound, as a refusal
abbrev pub first_over : List Kind → Network → Option Refusal
first_over some net = option_map (λ kind. Limit kind (bound kind)) (find (λ kind. nat_lt (bound kind) (amount net kind)) some)

-- the first of all kinds of which there is more than its bound, as a refusal
abbrev pub over_limit : Network → Option Refusal
over_limit net = first_over kinds net
