use Rattle.std.proofs.Common.{refl}
use Rattle.net_units.specs.Keys.{by_number}
use Rattle.lr_units.specs.Units.{port_route_input, port_route_units}
use Rattle.nb_records.specs.declared.router.RouterPort.{RouterPort}
use Rattle.nd_touched.proofs.Fed.{fed_units}
use Rattle.nd_touched.proofs.Stay.{given_stays}
use Rattle.nd_own.proofs.port_route.port_route_delta.Goals as goal

pub returns-clause-tells : goal.returns-clause-tells
returns-clause-tells c = λ old same has.
    c.in_ok-delta_of.ensures.tells (port_route_units c.args.records.now)
    (fed_units by_number c.args.touched.now.router_ports (port_route_units old) (port_route_units c.args.records.now) c.args.there.now _ has (λ key. refl)
    (λ n not. given_stays (λ (p : RouterPort). p.id) port_route_input old.router_ports c.args.records.now.router_ports n (same.router_ports n not)))
