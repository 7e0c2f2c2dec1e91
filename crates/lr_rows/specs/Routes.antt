-- The rows of routing, of the request for a neighbour that is not known, and of delivery (ovn-northd(8), 'IP Routing', 'ARP Request' and
-- 'Delivery'; stages, registers and priorities are not from OVN).
use Rattle.std.specs.Prelude.{ℕ, ◌+◌, ◌*◌, Bool, if◌then◌else◌, List, [], ◌∷◌, ◌++◌, map, Option, Some, None}
use Rattle.nv_base.specs.Block.{Block}
use Rattle.nv_base.specs.declared.field.Field.{Field}
use Rattle.nv_base.specs.declared.field.Field.TheVariants.{Outport, FlagsLoopback, EthSrc, EthDst, Ip4Src, Ip4Dst, ArpOp, ArpSpa, ArpTpa, Reg0, Reg1}
use Rattle.nv_base.specs.declared.ip4.Ip4.{Ip4}
use Rattle.act_core.specs.declared.action.Action.TheVariants as action
use Rattle.act_core.specs.declared.step.Step.{Step}
use Rattle.act_core.specs.declared.step.Step.TheVariants as step
use Rattle.nb_read.specs.Readings.{cleared}
use Rattle.nb_records.specs.declared.router.RouteBy.{RouteBy}
use Rattle.nb_records.specs.declared.router.RouteBy.TheVariants.{Dst, Src}
use Rattle.nb_model.specs.Applies.{is_empty}
use Rattle.sb_model.specs.Make.{takes_each, equals, is_port, in_decimal, as_mac, as_ip4, is_one_of, steps, drops, goes_out}
use Rattle.sb_model.specs.declared.stage.Stage.TheVariants.{LrInIpRouting, LrInArpResolve, LrInArpRequest, LrOutDelivery}
use Rattle.net_rows.specs.Unit.{rule}
use Rattle.net_rows.specs.declared.rule.Rule.{Rule}
use Rattle.lr_rows.specs.Make.{addresses_of, is_within, becomes, takes_over}
use Rattle.lr_rows.specs.declared.inputs.Exit.{Exit}
use Rattle.lr_rows.specs.declared.inputs.PortRouteInput.{PortRouteInput}
use Rattle.lr_rows.specs.declared.inputs.StaticRouteInput.{StaticRouteInput}

-- ---- the rules of each router

-- the MAC of the next host is not known: who has its address, in `reg0`, is asked from the address in `reg1`
abbrev pub asks_for_mac : List Step
asks_for_mac =
    becomes EthDst (as_mac 0xffff_ffff_ffff)
    ∷ becomes ArpOp (in_decimal 1)
    ∷ takes_over ArpSpa Reg1
    ∷ takes_over ArpTpa Reg0
    ∷ step.Output
    ∷ []

-- without a route a packet is dropped; what is not bound is looked up among what was learnt; no port but an enabled one delivers
abbrev pub router_route_rules : List Rule
router_route_rules =
    rule LrInIpRouting 0 takes_each drops
    ∷ rule LrInArpResolve 0 takes_each (steps (step.GetArp ∷ step.Next ∷ []))
    ∷ rule LrInArpRequest 100 (equals EthDst (as_mac 0)) (action.Arp asks_for_mac ∷ [])
    ∷ rule LrInArpRequest 0 takes_each goes_out
    ∷ rule LrOutDelivery 0 takes_each drops
    ∷ []

-- ---- routes

-- Longer prefixes come first. Among equal ones a network of a port comes before a route by destination, and that before one by source.
abbrev pub priority_of_network : Block → ℕ
priority_of_network net = 4 * net.len + 3

abbrev pub priority_of_route : RouteBy → Block → ℕ
priority_of_route Dst net = 4 * net.len + 2
priority_of_route Src net = 4 * net.len + 1

-- the address that a route looks at
abbrev pub looked_at : RouteBy → Field
looked_at Dst = Ip4Dst
looked_at Src = Ip4Src

-- the packet is to leave by a port, from the address of the port to which it belongs
abbrev pub leaves_by : Exit → List Step
leaves_by exit =
    becomes Reg1 (as_ip4 exit.addr.0)
    ∷ becomes EthSrc (as_mac exit.mac)
    ∷ step.SetOutport exit.name
    ∷ becomes FlagsLoopback (in_decimal 1)
    ∷ step.Next
    ∷ []

-- it is routed: to its destination itself, or to the next router; either address goes to `reg0`
abbrev pub routes_directly : Exit → List Step
routes_directly exit = step.DecTtl ∷ takes_over Reg0 Ip4Dst ∷ leaves_by exit

abbrev pub routes_over : Ip4 → Exit → List Step
routes_over nexthop exit = step.DecTtl ∷ becomes Reg0 (as_ip4 nexthop.0) ∷ leaves_by exit

-- ---- the rules of a router port

-- nothing is routed to an address of the port
abbrev pub own_address_rules : PortRouteInput → List Rule
own_address_rules input = rule LrInIpRouting 200 (is_one_of Ip4Dst (addresses_of input.nets)) drops ∷ []

-- by which a packet leaves for this network of the port
abbrev pub exit_to : PortRouteInput → Block → Exit
exit_to input net = record { name = input.name; mac = input.mac; addr = net.base }

-- what is for a network of the port leaves by it
abbrev pub network_rule : PortRouteInput → Block → Rule
network_rule input net =
    rule LrInIpRouting (priority_of_network net) (is_within Ip4Dst (cleared net)) (steps (routes_directly (exit_to input net)))

-- an enabled port delivers
abbrev pub delivery_rules : Bool → List ℕ → List Rule
delivery_rules enabled name = if enabled then rule LrOutDelivery 100 (is_port Outport name) goes_out ∷ [] else []

-- the rules of a port with networks
abbrev pub port_route_rules_of : PortRouteInput → List Rule
port_route_rules_of input = own_address_rules input ++ map (network_rule input) input.nets ++ delivery_rules input.enabled input.name

-- the rules of a port; no sound network has one without networks
unfoldable pub port_route_rules : PortRouteInput → List Rule
port_route_rules input = if is_empty input.nets then [] else port_route_rules_of input

-- ---- the rules of a static route

-- what it is for leaves by its port for the next router
abbrev pub static_rule : StaticRouteInput → Exit → Rule
static_rule input exit =
    rule LrInIpRouting (priority_of_route input.by input.prefix) (is_within (looked_at input.by) input.prefix) (steps (routes_over input.nexthop exit))

-- where a port is found for it
abbrev pub by_exit : (Exit → Rule) → Option Exit → List Rule
by_exit made None = []
by_exit made (Some exit) = made exit ∷ []

unfoldable pub static_route_rules : StaticRouteInput → List Rule
static_route_rules input = by_exit (static_rule input) input.found
