use Rattle.std.proofs.Common.{None, Some, ap, ◌∙◌}
use Rattle.nb_records.specs.declared.router.RouterPort.{RouterPort}
use Rattle.lr_units.specs.Units.{port_route_input}
use Rattle.nd_touched.proofs.Stay.{found_gives}
use Rattle.nd_own.proofs.port_route.PortRouteUnitsWanted.wanted.Goals as goal

pub returns-in_ok-port_route_input-in-Some : goal.returns-in_ok-port_route_input-in-Some
returns-in_ok-port_route_input-in-Some c =
    ap Some c.in_ok-port_route_input-in-Some.ensures ∙ found_gives (λ (p : RouterPort). p.id) port_route_input c.args.key.now c.args.self.now.records.now.router_ports _ (Some c.in-Some.port.now) c.in-Some.ensures.record c.router_ports.ensures

pub returns-in-None : goal.returns-in-None
returns-in-None c = found_gives (λ (p : RouterPort). p.id) port_route_input c.args.key.now c.args.self.now.records.now.router_ports _ None c.in-None.ensures.record c.router_ports.ensures
