use Rattle.std.proofs.Common.{sym}
use Rattle.lr_units.specs.Units.{binding_units}
use Rattle.net_units.specs.Keys.{by_number}
use Rattle.nd_touched.proofs.Fed.{fed_units}
use Rattle.nd_routes.proofs.Bound.{binding_at, binding_stays}
use Rattle.nd_routes.proofs.bindings.binding_delta.Goals as goal

pub returns-clause-tells : goal.returns-clause-tells
returns-clause-tells c = λ old sound same has.
    c.in_ok-delta_of.ensures.tells (binding_units c.args.records.now)
    (fed_units by_number c.in_ok-keys.keys (binding_units old) (binding_units c.args.records.now) c.args.there.now _ has (λ key. sym (binding_at c.args.records.now c.requires.sound key))
    (λ n not. binding_stays old c.args.records.now sound c.requires.sound c.args.touched.now.bindings c.args.touched.now.router_ports c.in_ok-keys.keys same.bindings same.router_ports n (c.in_ok-keys.ensures n) not))
