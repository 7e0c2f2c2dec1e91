use Rattle.std.proofs.Common.{◌++◌, ap, ◌∙◌}
use Rattle.std.specs.List.{flat_map}
use Rattle.std.specs.Prelude.{Some}
use Rattle.nb_records.specs.declared.router.RouterPort.{RouterPort}
use Rattle.nb_model.specs.Network.{same}
use Rattle.nv_table.proofs.Through.{all_left, these_after, these_fewer, these_next, these_whole}
use Rattle.nb_router.specs.Vocabulary.{ports_of}
use Rattle.nd_router.specs.inner.Made.{port_rows}
use Rattle.nd_router.proofs.External.{at_port}
use Rattle.nd_inputs.proofs.Sound.{router_ports_rise}
use Rattle.nd_router.proofs.ports.put_ports.Goals as goal

pub put_port-requires-clause-external : goal.put_port-requires-clause-external
put_port-requires-clause-external c = at_port c.args.records.now c.args.external.now c.args.router c.loop-port.last c.in-Some.port.now c.requires.external c.in-Some.ensures

pub loop-port-init : goal.loop-port-init
loop-port-init c = ap (λ left. c.args.rows.now ++ flat_map (port_rows c.args.records.now) left) (all_left (λ (x : RouterPort). x.id) (ports_of c.args.records.now c.args.router))

pub loop-port-smaller : goal.loop-port-smaller
loop-port-smaller c = these_fewer (λ (x : RouterPort). x.id) (λ (x : RouterPort). same c.args.router x.router) c.loop-port.last c.args.records.now.router_ports c.in-Some.port.now (router_ports_rise c.args.records.now c.requires.sound) c.in-Some.ensures

pub loop-port-preserved : goal.loop-port-preserved
loop-port-preserved c =
    ap (λ made. made ++ flat_map (port_rows c.args.records.now) (these_after (λ (x : RouterPort). x.id) (λ (x : RouterPort). same c.args.router x.router) (Some c.in-Some.port.now.id) c.args.records.now.router_ports)) c.in_ok-put_port.ensures
    ∙ these_next (λ (x : RouterPort). x.id) (λ (x : RouterPort). same c.args.router x.router) c.loop-port.last c.args.records.now.router_ports c.in-Some.port.now (router_ports_rise c.args.records.now c.requires.sound) c.in-Some.ensures
    (port_rows c.args.records.now) c.loop-port.rows (c.args.rows.now ++ flat_map (port_rows c.args.records.now) (ports_of c.args.records.now c.args.router)) c.loop-port.invariant

pub returns : goal.returns
returns c =
    these_whole (λ (x : RouterPort). x.id) (λ (x : RouterPort). same c.args.router x.router) c.loop-port.last c.args.records.now.router_ports c.in_default.ensures
    (port_rows c.args.records.now) c.loop-port.rows (c.args.rows.now ++ flat_map (port_rows c.args.records.now) (ports_of c.args.records.now c.args.router)) c.loop-port.invariant
