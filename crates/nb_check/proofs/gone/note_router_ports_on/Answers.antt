use Rattle.std.proofs.Common.{◌++◌, Some, ap, ◌∙◌}
use Rattle.std.specs.Prelude.{filter}
use Rattle.std.specs.List.{flat_map}
use Rattle.nb_records.specs.declared.router.RouterPort.{RouterPort}
use Rattle.nb_model.specs.Network.{same}
use Rattle.nb_store.proofs.PlacedRecords.{rises}
use Rattle.nv_table.proofs.Through.{all_left, these_after, these_fewer, these_next, these_whole}
use Rattle.nb_check.specs.inner.Going.{below}
use Rattle.nb_check.proofs.gone.note_router_ports_on.Goals as goal

pub loop-port-init : goal.loop-port-init
loop-port-init c =
    ap (λ left. c.args.numbers.now ++ flat_map (λ (port : RouterPort). below c.args.first port.id) left)
    (all_left (λ (x : RouterPort). x.id) (filter (λ (port : RouterPort). same c.args.router port.router) c.args.records.now.router_ports))

pub loop-port-smaller : goal.loop-port-smaller
loop-port-smaller c =
    these_fewer (λ (x : RouterPort). x.id) (λ (x : RouterPort). same c.args.router x.router) c.loop-port.last c.args.records.now.router_ports c.in-Some.port.now
    (rises (λ (x : RouterPort). x.id) c.args.records.now.router_ports c.requires.numbered.order.router_ports) c.in-Some.ensures

pub loop-port-preserved : goal.loop-port-preserved
loop-port-preserved c =
    let left = these_after (λ (x : RouterPort). x.id) (λ (x : RouterPort). same c.args.router x.router) (Some c.in-Some.port.now.id) c.args.records.now.router_ports in
    ap (λ made. made ++ flat_map (λ (port : RouterPort). below c.args.first port.id) left) c.in_ok-note_number.ensures
    ∙ these_next (λ (x : RouterPort). x.id) (λ (x : RouterPort). same c.args.router x.router) c.loop-port.last c.args.records.now.router_ports c.in-Some.port.now
    (rises (λ (x : RouterPort). x.id) c.args.records.now.router_ports c.requires.numbered.order.router_ports) c.in-Some.ensures
    (λ (port : RouterPort). below c.args.first port.id) c.loop-port.numbers
    (c.args.numbers.now ++ flat_map (λ (port : RouterPort). below c.args.first port.id) (filter (λ (port : RouterPort). same c.args.router port.router) c.args.records.now.router_ports)) c.loop-port.invariant

pub returns : goal.returns
returns c =
    these_whole (λ (x : RouterPort). x.id) (λ (x : RouterPort). same c.args.router x.router) c.loop-port.last c.args.records.now.router_ports c.in_default.ensures
    (λ (port : RouterPort). below c.args.first port.id) c.loop-port.numbers
    (c.args.numbers.now ++ flat_map (λ (port : RouterPort). below c.args.first port.id) (filter (λ (port : RouterPort). same c.args.router port.router) c.args.records.now.router_ports)) c.loop-port.invariant
