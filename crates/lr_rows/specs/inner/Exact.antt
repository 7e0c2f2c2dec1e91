-- Inputs of units of routers that are equal by `==` are one value.
use Rattle.std.proofs.Common.{◌≡◌}
use Rattle.std.proofs.lemmas.Bool.{and_parts}
use Rattle.nv_base.specs.inner.Exact as tells
use Rattle.nv_base.specs.inner.Exact.{Tells}
use Rattle.nb_records.specs.inner.Exact as of_records
use Rattle.lr_rows.specs.contracts.inputs.BindingInputPartialEq.TheImpl as binding_eq
use Rattle.lr_rows.specs.contracts.inputs.ExitPartialEq.TheImpl as exit_eq
use Rattle.lr_rows.specs.contracts.inputs.HostPartialEq.TheImpl as host_eq
use Rattle.lr_rows.specs.contracts.inputs.NatRuleInputPartialEq.TheImpl as nat_rule_eq
use Rattle.lr_rows.specs.contracts.inputs.NeighbourInputPartialEq.TheImpl as neighbour_eq
use Rattle.lr_rows.specs.contracts.inputs.PortInInputPartialEq.TheImpl as port_in_eq
use Rattle.lr_rows.specs.contracts.inputs.PortRouteInputPartialEq.TheImpl as port_route_eq
use Rattle.lr_rows.specs.contracts.inputs.RouterNatInputPartialEq.TheImpl as router_nat_eq
use Rattle.lr_rows.specs.contracts.inputs.StaticRouteInputPartialEq.TheImpl as static_route_eq
use Rattle.lr_rows.specs.contracts.inputs.VipAddrInputPartialEq.TheImpl as vip_addr_eq

pub exit : Tells ((exit_eq.ghosts).eq)
exit a b e =
    let at0 = and_parts _ _ e in
    let same_name : a.name ≡ b.name = tells.list _ tells.number _ _ at0.0 in
    let at1 = and_parts _ _ at0.1 in
    let same_mac : a.mac ≡ b.mac = tells.number _ _ at1.0 in
    let same_addr : a.addr ≡ b.addr = tells.address _ _ at1.1 in
    λ i. record { name = same_name i; mac = same_mac i; addr = same_addr i }

pub host : Tells ((host_eq.ghosts).eq)
host a b e =
    let at0 = and_parts _ _ e in
    let same_mac : a.mac ≡ b.mac = tells.number _ _ at0.0 in
    let same_addr : a.addr ≡ b.addr = tells.address _ _ at0.1 in
    λ i. record { mac = same_mac i; addr = same_addr i }

pub port_in : Tells ((port_in_eq.ghosts).eq)
port_in a b e =
    let at0 = and_parts _ _ e in
    let same_dp : a.dp ≡ b.dp = tells.object _ _ at0.0 in
    let at1 = and_parts _ _ at0.1 in
    let same_name : a.name ≡ b.name = tells.list _ tells.number _ _ at1.0 in
    let at2 = and_parts _ _ at1.1 in
    let same_enabled : a.enabled ≡ b.enabled = tells.boolean _ _ at2.0 in
    let at3 = and_parts _ _ at2.1 in
    let same_mac : a.mac ≡ b.mac = tells.number _ _ at3.0 in
    let at4 = and_parts _ _ at3.1 in
    let same_nets : a.nets ≡ b.nets = tells.list _ tells.block _ _ at4.0 in
    let same_free : a.free ≡ b.free = tells.list _ tells.address _ _ at4.1 in
    λ i. record { dp = same_dp i; name = same_name i; enabled = same_enabled i; mac = same_mac i; nets = same_nets i; free = same_free i }

pub port_route : Tells ((port_route_eq.ghosts).eq)
port_route a b e =
    let at0 = and_parts _ _ e in
    let same_dp : a.dp ≡ b.dp = tells.object _ _ at0.0 in
    let at1 = and_parts _ _ at0.1 in
    let same_name : a.name ≡ b.name = tells.list _ tells.number _ _ at1.0 in
    let at2 = and_parts _ _ at1.1 in
    let same_enabled : a.enabled ≡ b.enabled = tells.boolean _ _ at2.0 in
    let at3 = and_parts _ _ at2.1 in
    let same_mac : a.mac ≡ b.mac = tells.number _ _ at3.0 in
    let same_nets : a.nets ≡ b.nets = tells.list _ tells.block _ _ at3.1 in
    λ i. record { dp = same_dp i; name = same_name i; enabled = same_enabled i; mac = same_mac i; nets = same_nets i }

pub static_route : Tells ((static_route_eq.ghosts).eq)
static_route a b e =
    let at0 = and_parts _ _ e in
    let same_dp : a.dp ≡ b.dp = tells.object _ _ at0.0 in
    let at1 = and_parts _ _ at0.1 in
    let same_by : a.by ≡ b.by = of_records.route_by _ _ at1.0 in
    let at2 = and_parts _ _ at1.1 in
    let same_prefix : a.prefix ≡ b.prefix = tells.block _ _ at2.0 in
    let at3 = and_parts _ _ at2.1 in
    let same_nexthop : a.nexthop ≡ b.nexthop = tells.address _ _ at3.0 in
    let same_found : a.found ≡ b.found = tells.option _ exit _ _ at3.1 in
    λ i. record { dp = same_dp i; by = same_by i; prefix = same_prefix i; nexthop = same_nexthop i; found = same_found i }

pub binding : Tells ((binding_eq.ghosts).eq)
binding a b e =
    let at0 = and_parts _ _ e in
    let same_dp : a.dp ≡ b.dp = tells.object _ _ at0.0 in
    let at1 = and_parts _ _ at0.1 in
    let same_name : a.name ≡ b.name = tells.list _ tells.number _ _ at1.0 in
    let same_host : a.host ≡ b.host = host _ _ at1.1 in
    λ i. record { dp = same_dp i; name = same_name i; host = same_host i }

pub neighbour : Tells ((neighbour_eq.ghosts).eq)
neighbour a b e =
    let at0 = and_parts _ _ e in
    let same_dp : a.dp ≡ b.dp = tells.object _ _ at0.0 in
    let at1 = and_parts _ _ at0.1 in
    let same_name : a.name ≡ b.name = tells.list _ tells.number _ _ at1.0 in
    let same_hosts : a.hosts ≡ b.hosts = tells.list _ host _ _ at1.1 in
    λ i. record { dp = same_dp i; name = same_name i; hosts = same_hosts i }

pub router_nat : Tells ((router_nat_eq.ghosts).eq)
router_nat a b e =
    let same_dnats : a.dnats ≡ b.dnats = tells.boolean _ _ e in
    λ i. record { dnats = same_dnats i }

pub nat_rule : Tells ((nat_rule_eq.ghosts).eq)
nat_rule a b e =
    let at0 = and_parts _ _ e in
    let same_dp : a.dp ≡ b.dp = tells.object _ _ at0.0 in
    let at1 = and_parts _ _ at0.1 in
    let same_kind : a.kind ≡ b.kind = of_records.nat_kind _ _ at1.0 in
    let at2 = and_parts _ _ at1.1 in
    let same_external : a.external ≡ b.external = tells.address _ _ at2.0 in
    let same_logical : a.logical ≡ b.logical = tells.block _ _ at2.1 in
    λ i. record { dp = same_dp i; kind = same_kind i; external = same_external i; logical = same_logical i }

pub vip_addr : Tells ((vip_addr_eq.ghosts).eq)
vip_addr a b e =
    let same_addr : a.addr ≡ b.addr = tells.address _ _ e in
    λ i. record { addr = same_addr i }
