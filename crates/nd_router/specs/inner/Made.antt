-- What is made of the network's objects, router by router: the rows of each unit.
use Rattle.std.specs.Prelude.{not, ◌&&◌, if◌then◌else◌, List, [], ◌++◌, filter}
use Rattle.std.specs.List.{flat_map}
use Rattle.nv_base.specs.declared.ip4.Ip4.{Ip4}
use Rattle.nv_base.specs.declared.object.ObjId.{ObjId}
use Rattle.nb_records.specs.declared.balancer.Lb.{Lb}
use Rattle.nb_records.specs.declared.balancer.Vip.{Vip}
use Rattle.nb_records.specs.declared.router.Binding.{Binding}
use Rattle.nb_records.specs.declared.router.Nat.{Nat}
use Rattle.nb_records.specs.declared.router.Route.{Route}
use Rattle.nb_records.specs.declared.router.Router.{Router}
use Rattle.nb_records.specs.declared.router.RouterPort.{RouterPort}
use Rattle.nb_records.specs.declared.switch.Port.{Port}
use Rattle.nb_model.specs.Network.{Network, same}
use Rattle.nb_router.specs.Vocabulary.{addresses_at, dnats, is_address, nats_of, ports_of}
use Rattle.sb_model.specs.declared.row.Row.{Row}
use Rattle.net_rows.specs.Unit.{said_by, unit_of, unit_of_datapath}
use Rattle.lr_rows.specs.Balancers.{vip_addr_rules, vip_router_rules}
use Rattle.lr_rows.specs.Input.{port_in_rules, router_in_rules}
use Rattle.lr_rows.specs.Nat.{nat_rules, router_nat_rules}
use Rattle.lr_rows.specs.Neighbours.{binding_rules, neighbour_rules}
use Rattle.lr_rows.specs.Routes.{port_route_rules, router_route_rules, static_route_rules}
use Rattle.lr_rows.specs.declared.inputs.PortInInput.{PortInInput}
use Rattle.lr_rows.specs.declared.inputs.PortRouteInput.{PortRouteInput}
use Rattle.lr_units.specs.Units.{binding_input, bindings_of, nat_rule_input, neighbour_input, port_in_input, static_route_input, vip_addr_input}
use Rattle.lr_units.specs.Words.{across}
use Rattle.net_rows.specs.Build.{vip_input}
use Rattle.nd_inputs.specs.inner.Numbered.{of_number}

-- ---- of a router itself

unfoldable pub own_rows : Network → ObjId → List Row
own_rows net router =
    said_by (unit_of_datapath router) router_in_rules
    ++ (said_by (unit_of_datapath router) router_route_rules ++ said_by (unit_of_datapath router) (router_nat_rules (record { dnats = dnats net router })))

-- ---- of its ports

-- the input of what comes in by a port, where these are the external addresses of its router
abbrev pub input_without : List Ip4 → RouterPort → PortInInput
input_without external port = record {
  dp = port.router;
  name = port.name;
  enabled = port.enabled;
  mac = port.mac;
  nets = port.nets;
  free = filter (λ addr. not (is_address addr external)) (addresses_at port);
}

-- what is routed to the networks of a port depends on no more than what comes in by it does
abbrev pub input_of_routes : PortInInput → PortRouteInput
input_of_routes input = record { dp = input.dp; name = input.name; enabled = input.enabled; mac = input.mac; nets = input.nets }

-- of a port, of which what comes in has this input
unfoldable pub reached_rows : ObjId → PortInInput → List Row
reached_rows port input = said_by (unit_of input.dp port) (port_in_rules input) ++ said_by (unit_of input.dp port) (port_route_rules (input_of_routes input))

-- of a static binding of a port
unfoldable pub binding_rows : RouterPort → Binding → List Row
binding_rows port binding = said_by (unit_of port.router binding.id) (binding_rules (binding_input port binding))

-- of a port and one across it
unfoldable pub neighbour_rows : Network → RouterPort → Port → List Row
neighbour_rows net port other = said_by (unit_of port.router other.id) (neighbour_rules (neighbour_input net port other))

-- of a port and another one of its peer's switch
abbrev pub rows_if_other : Network → RouterPort → Port → Port → List Row
rows_if_other net port peer other = if other.enabled && not (same peer.id other.id) then neighbour_rows net port other else []

abbrev pub rows_across : Network → RouterPort → List Row
rows_across net port = flat_map (neighbour_rows net port) (across net port)

unfoldable pub port_rows : Network → RouterPort → List Row
port_rows net port = reached_rows port.id (port_in_input net port) ++ (flat_map (binding_rows port) (bindings_of net port) ++ rows_across net port)

-- ---- of its static routes and NAT rules

abbrev pub routes_of : Network → ObjId → List Route
routes_of net router = filter (λ route. same router route.router) net.routes

unfoldable pub route_rows : Network → Route → List Row
route_rows net route = said_by (unit_of route.router route.id) (static_route_rules (static_route_input net route))

unfoldable pub nat_rows : Nat → List Row
nat_rows nat = said_by (unit_of nat.router nat.id) (nat_rules (nat_rule_input nat))

-- ---- of its load balancers

-- of a VIP, and of its address
unfoldable pub vip_rows : ObjId → Lb → Vip → List Row
vip_rows router lb vip =
    said_by (unit_of router lb.id) (vip_router_rules (vip_input lb vip)) ++ said_by (unit_of router lb.id) (vip_addr_rules (vip_addr_input vip.at.addr))

abbrev pub balancer_rows : ObjId → Lb → List Row
balancer_rows router lb = flat_map (vip_rows router lb) lb.vips

-- ---- of all these

abbrev pub made_rows : Network → Router → List Row
made_rows net router =
    own_rows net router.id
    ++ (flat_map (port_rows net) (ports_of net router.id)
    ++ (flat_map (route_rows net) (routes_of net router.id) ++ (flat_map nat_rows (nats_of net router.id) ++ flat_map (of_number net (balancer_rows router.id)) router.lbs)))
