-- What the removal of a router, or of one of its ports, leaves.
use Rattle.std.specs.Prelude.{Bool, not, ◌&&◌, ◌==◌, if◌then◌else◌, Option}
use Rattle.nv_base.specs.Block.{Block}
use Rattle.nv_base.specs.declared.object.ObjId.{ObjId}
use Rattle.nb_records.specs.declared.router.Nat.{Nat}
use Rattle.nb_records.specs.declared.router.NatKind.{NatKind}
use Rattle.nb_records.specs.declared.router.Route.{Route}
use Rattle.nb_records.specs.declared.router.RouteBy.{RouteBy}
use Rattle.nb_model.specs.Belongs.{is_snat, same_block, same_policy, same_nat_kind}
use Rattle.nb_model.specs.Effect.{without, without_router_ports, is_asked, is_nat_at}
use Rattle.nb_model.specs.Network.{Network, same}
use Rattle.nv_table.specs.Table.{without_number}

-- without the port of a number and its static bindings
abbrev pub less_router_port : ObjId → Network → Network
less_router_port port net = record net {
  router_ports = without_number (λ x. x.id) port net.router_ports;
  bindings = without (λ binding. same port binding.port) net.bindings;
}

-- without the router of a number, its ports, its routes and its NAT rules
abbrev pub less_router : ObjId → Network → Network
less_router router net = record (without_router_ports (λ port. same router port.router) net) {
  routers = without_number (λ x. x.id) router net.routers;
  routes = without (λ route. same router route.router) net.routes;
  nats = without (λ nat. same router nat.router) net.nats;
}

-- the route is for a prefix and of a policy, where they are given
abbrev pub is_route_for : Option Block → Option RouteBy → Route → Bool
is_route_for prefix by route = is_asked same_block prefix route.prefix && is_asked same_policy by route.by

-- the NAT rule is of a kind and at a prefix, where they are given
abbrev pub is_nat_for : Option NatKind → Option Block → Nat → Bool
is_nat_for kind at nat = is_asked same_nat_kind kind nat.kind && is_asked (λ block own. is_nat_at own block) at nat

-- a NAT rule that one of this kind, at this prefix, would repeat
abbrev pub is_nat_like : NatKind → Block → Nat → Bool
is_nat_like kind at nat = if is_snat kind then is_snat nat.kind && same_block at nat.logical else not (is_snat nat.kind) && (at.base.0 == nat.external.0)
