use Rattle.std.proofs.Common.{◌&&◌, ap, sym, ◌∙◌}
use Rattle.std.specs.List.{find, list_any}
use Rattle.nb_records.specs.declared.router.RouterPort.{RouterPort}
use Rattle.lr_units.specs.Words.{holds}
use Rattle.nb_model.specs.Network.{same}
use Rattle.nb_router.specs.Vocabulary.{ports_of}
use Rattle.nv_table.proofs.Through.{all_left, these_fewer}
use Rattle.nd_inputs.proofs.First.{among, first_left, first_none, first_this}
use Rattle.nd_inputs.proofs.Sound.{router_ports_rise}
use Rattle.nd_inputs.proofs.routes.port_near.Goals as goal

pub loop-port-init : goal.loop-port-init
loop-port-init c =
    ap (find (λ (x : RouterPort). list_any (holds c.args.nexthop) x.nets)) (all_left (λ (x : RouterPort). x.id) (ports_of c.args.records.now c.args.router))
    ∙ among (λ (x : RouterPort). same c.args.router x.router) (λ (x : RouterPort). list_any (holds c.args.nexthop) x.nets) c.args.records.now.router_ports

pub loop-port-smaller : goal.loop-port-smaller
loop-port-smaller c =
    these_fewer (λ (x : RouterPort). x.id) (λ (x : RouterPort). same c.args.router x.router) c.loop-port.last c.args.records.now.router_ports c.in-Some.port.now (router_ports_rise c.args.records.now c.requires) c.in-Some.ensures

pub loop-port-preserved : goal.loop-port-preserved
loop-port-preserved c =
    first_left (λ (x : RouterPort). x.id) (λ (x : RouterPort). same c.args.router x.router) c.loop-port.last c.args.records.now.router_ports (λ (x : RouterPort). list_any (holds c.args.nexthop) x.nets)
    (find (λ (x : RouterPort). same c.args.router x.router && list_any (holds c.args.nexthop) x.nets) c.args.records.now.router_ports) c.loop-port.invariant
    c.in-Some.port.now (router_ports_rise c.args.records.now c.requires) c.in-Some.ensures (sym c.is_near.ensures ∙ c.if-is_near.false)

pub returns-then-is_near : goal.returns-then-is_near
returns-then-is_near c =
    first_this (λ (x : RouterPort). x.id) (λ (x : RouterPort). same c.args.router x.router) c.loop-port.last c.args.records.now.router_ports (λ (x : RouterPort). list_any (holds c.args.nexthop) x.nets)
    (find (λ (x : RouterPort). same c.args.router x.router && list_any (holds c.args.nexthop) x.nets) c.args.records.now.router_ports) c.loop-port.invariant
    c.in-Some.port.now (router_ports_rise c.args.records.now c.requires) c.in-Some.ensures (sym c.is_near.ensures ∙ c.if-is_near.true)

pub returns : goal.returns
returns c =
    first_none (λ (x : RouterPort). x.id) (λ (x : RouterPort). same c.args.router x.router) c.loop-port.last c.args.records.now.router_ports (λ (x : RouterPort). list_any (holds c.args.nexthop) x.nets)
    (find (λ (x : RouterPort). same c.args.router x.router && list_any (holds c.args.nexthop) x.nets) c.args.records.now.router_ports) c.loop-port.invariant c.in_default.ensures
