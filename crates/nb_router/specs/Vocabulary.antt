-- What belongs to a router: its addresses, those that it translates, and whether it translates destinations (ovn-nb(5),
-- 'Logical_Router_Port TABLE', 'NAT TABLE' and 'Load_Balancer TABLE').
use Rattle.std.specs.Prelude.{Bool, not, ◌==◌, ◌&&◌, ◌||◌, List, ◌++◌, map, filter}
use Rattle.std.specs.List.{flat_map, list_any}
use Rattle.nv_base.specs.declared.ip4.Ip4.{Ip4}
use Rattle.nv_base.specs.declared.object.ObjId.{ObjId}
use Rattle.nb_records.specs.declared.balancer.Lb.{Lb}
use Rattle.nb_records.specs.declared.router.Nat.{Nat}
use Rattle.nb_records.specs.declared.router.RouterPort.{RouterPort}
use Rattle.nb_model.specs.Applies.{is_empty}
use Rattle.nb_model.specs.Belongs.{is_among, is_snat}
use Rattle.nb_model.specs.Network.{Network, same}

-- the address is one of these
abbrev pub is_address : Ip4 → List Ip4 → Bool
is_address addr addrs = list_any (λ other. other.0 == addr.0) addrs

-- ---- ports

-- the ports of a router, enabled or not
abbrev pub ports_of : Network → ObjId → List RouterPort
ports_of net router = filter (λ port. same router port.router) net.router_ports

-- the addresses of a router port
abbrev pub addresses_at : RouterPort → List Ip4
addresses_at port = map (λ net. net.base) port.nets

-- a router's own addresses: those of all its ports
abbrev pub own_addresses : Network → ObjId → List Ip4
own_addresses net router = flat_map addresses_at (ports_of net router)

-- ---- NAT rules and load balancers

-- the NAT rules of a router
abbrev pub nats_of : Network → ObjId → List Nat
nats_of net router = filter (λ nat. same router nat.router) net.nats

-- the load balancers that are attached to a router
abbrev pub is_attached : Network → ObjId → Lb → Bool
is_attached net router lb = list_any (λ own. same own.id router && is_among lb.id own.lbs) net.routers

abbrev pub lbs_of : Network → ObjId → List Lb
lbs_of net router = filter (is_attached net router) net.lbs

-- the addresses of the VIPs of a load balancer
abbrev pub vip_addresses : Lb → List Ip4
vip_addresses lb = map (λ vip. vip.at.addr) lb.vips

-- a router's external addresses: those of its NAT rules, and those of the VIPs of its load balancers
abbrev pub external_addresses : Network → ObjId → List Ip4
external_addresses net router = map (λ nat. nat.external) (nats_of net router) ++ flat_map vip_addresses (lbs_of net router)

-- a router changes destinations where it has a `dnat` or a `dnat_and_snat` rule, or a load balancer
abbrev pub dnats : Network → ObjId → Bool
dnats net router = list_any (λ nat. not (is_snat nat.kind)) (nats_of net router) || not (is_empty (lbs_of net router))
