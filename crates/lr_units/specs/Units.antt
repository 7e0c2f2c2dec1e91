-- The units of the routers of a network, kind by kind: what each depends on, and which there are.
use Rattle.std.specs.Prelude.{Bool, not, List, map, filter, ⊤}
use Rattle.std.specs.List.{flat_map}
use Rattle.nv_base.specs.declared.ip4.Ip4.{Ip4}
use Rattle.nv_base.specs.declared.object.ObjId.{ObjId}
use Rattle.nb_records.specs.declared.balancer.Frontend.{Frontend}
use Rattle.nb_records.specs.declared.balancer.Lb.{Lb}
use Rattle.nb_records.specs.declared.balancer.Vip.{}
use Rattle.nb_records.specs.declared.router.Binding.{Binding}
use Rattle.nb_records.specs.declared.router.Nat.{Nat}
use Rattle.nb_records.specs.declared.router.Route.{Route}
use Rattle.nb_records.specs.declared.router.Router.{Router}
use Rattle.nb_records.specs.declared.router.RouterPort.{RouterPort}
use Rattle.nb_records.specs.declared.switch.Port.{Port}
use Rattle.nb_model.specs.Applies.{is_empty}
use Rattle.nb_model.specs.Network.{Network, same}
use Rattle.lr_rows.specs.declared.inputs.BindingInput.{BindingInput}
use Rattle.lr_rows.specs.declared.inputs.NatRuleInput.{NatRuleInput}
use Rattle.lr_rows.specs.declared.inputs.NeighbourInput.{NeighbourInput}
use Rattle.lr_rows.specs.declared.inputs.PortInInput.{PortInInput}
use Rattle.lr_rows.specs.declared.inputs.PortRouteInput.{PortRouteInput}
use Rattle.lr_rows.specs.declared.inputs.RouterNatInput.{RouterNatInput}
use Rattle.lr_rows.specs.declared.inputs.StaticRouteInput.{StaticRouteInput}
use Rattle.lr_rows.specs.declared.inputs.VipAddrInput.{VipAddrInput}
use Rattle.net_rows.specs.declared.inputs.VipInput.{VipInput}
use Rattle.nb_router.specs.Vocabulary.{dnats, lbs_of}
use Rattle.lr_units.specs.Words.{across, addresses_once, exit_of, free_addresses, hosts_at}
use Rattle.net_rows.specs.Build.{vip_input}

-- ---- units of a router, which depend on no more than that it is there

abbrev pub router_units : Network → List (ObjId × ⊤)
router_units net = map (λ router. (router.id, tt)) net.routers

-- ---- units of a router port

-- what comes in by it
abbrev pub port_in_input : Network → RouterPort → PortInInput
port_in_input net port =
    record { dp = port.router; name = port.name; enabled = port.enabled; mac = port.mac; nets = port.nets; free = free_addresses net port }

abbrev pub port_in_units : Network → List (ObjId × PortInInput)
port_in_units net = map (λ port. (port.id, port_in_input net port)) net.router_ports

-- what is routed to its networks, and delivered by it
abbrev pub port_route_input : RouterPort → PortRouteInput
port_route_input port = record { dp = port.router; name = port.name; enabled = port.enabled; mac = port.mac; nets = port.nets }

abbrev pub port_route_units : Network → List (ObjId × PortRouteInput)
port_route_units net = map (λ port. (port.id, port_route_input port)) net.router_ports

-- ---- units of static routes

abbrev pub static_route_input : Network → Route → StaticRouteInput
static_route_input net route =
    record { dp = route.router; by = route.by; prefix = route.prefix; nexthop = route.nexthop; found = exit_of net route }

abbrev pub static_route_units : Network → List (ObjId × StaticRouteInput)
static_route_units net = map (λ route. (route.id, static_route_input net route)) net.routes

-- ---- units of static bindings, port by port

abbrev pub bindings_of : Network → RouterPort → List Binding
bindings_of net port = filter (λ binding. same port.id binding.port) net.bindings

abbrev pub binding_input : RouterPort → Binding → BindingInput
binding_input port binding = record { dp = port.router; name = port.name; host = record { mac = binding.mac; addr = binding.addr } }

abbrev pub binding_units : Network → List (ObjId × BindingInput)
binding_units net = flat_map (λ port. map (λ binding. (binding.id, binding_input port binding)) (bindings_of net port)) net.router_ports

-- ---- units of neighbours, port by port: of a router port, and of a port across it where hosts are

abbrev pub neighbour_input : Network → RouterPort → Port → NeighbourInput
neighbour_input net port other = record { dp = port.router; name = port.name; hosts = hosts_at net other }

abbrev pub has_hosts : Network → Port → Bool
has_hosts net port = not (is_empty (hosts_at net port))

abbrev pub neighbour_units : Network → List ((ObjId × ObjId) × NeighbourInput)
neighbour_units net =
    flat_map (λ port. map (λ other. ((port.id, other.id), neighbour_input net port other)) (filter (has_hosts net) (across net port))) net.router_ports

-- ---- units of address translation

-- of a router
abbrev pub router_nat_input : Network → Router → RouterNatInput
router_nat_input net router = record { dnats = dnats net router.id }

abbrev pub router_nat_units : Network → List (ObjId × RouterNatInput)
router_nat_units net = map (λ router. (router.id, router_nat_input net router)) net.routers

-- of a NAT rule
abbrev pub nat_rule_input : Nat → NatRuleInput
nat_rule_input nat = record { dp = nat.router; kind = nat.kind; external = nat.external; logical = nat.logical }

abbrev pub nat_rule_units : Network → List (ObjId × NatRuleInput)
nat_rule_units net = map (λ nat. (nat.id, nat_rule_input nat)) net.nats

-- ---- units of load balancers, router by router

-- what each load balancer of each router gives
abbrev pub of_balancers : {X : Type 0} → Network → (Router → Lb → List X) → List X
of_balancers net give = flat_map (λ router. flat_map (give router) (lbs_of net router.id)) net.routers

-- of a VIP at a router
abbrev pub vip_router_units : Network → List ((ObjId × Frontend × ObjId) × VipInput)
vip_router_units net = of_balancers net (λ router lb. map (λ vip. ((lb.id, vip.at, router.id), vip_input lb vip)) lb.vips)

-- of an address of VIPs at a router
abbrev pub vip_addr_input : Ip4 → VipAddrInput
vip_addr_input addr = record { addr = addr }

abbrev pub vip_addr_units : Network → List ((ObjId × Ip4 × ObjId) × VipAddrInput)
vip_addr_units net = of_balancers net (λ router lb. map (λ addr. ((lb.id, addr, router.id), vip_addr_input addr)) (addresses_once lb.vips))
