use Rattle.std.proofs.Common.{◌∙◌}
use Rattle.nb_change.proofs.RouterRemovals.{port_smaller, port_rise, port_bindings, port_same, ports_done}
use Rattle.nb_change.proofs.router_removals.remove_router_ports.Goals as goal

pub loop-port-smaller : goal.loop-port-smaller
loop-port-smaller c =
    port_smaller c.args.router c.loop-port.work.records c.remove_router_port.new.work.records c.in-Some.port.now c.in-Some.ensures c.loop-port.invariant.ports c.loop-port.invariant.bindings
    c.in_ok-remove_router_port.ensures.ok

pub loop-port-preserved : goal.loop-port-preserved
loop-port-preserved c = record {
  ports = port_rise c.args.router c.loop-port.work.records c.remove_router_port.new.work.records c.in-Some.port.now c.in-Some.ensures c.loop-port.invariant.ports c.loop-port.invariant.bindings
      c.in_ok-remove_router_port.ensures.ok;
  bindings = port_bindings c.args.router c.loop-port.work.records c.remove_router_port.new.work.records c.in-Some.port.now c.in-Some.ensures c.loop-port.invariant.ports c.loop-port.invariant.bindings
      c.in_ok-remove_router_port.ensures.ok;
  same = port_same c.args.router c.loop-port.work.records c.remove_router_port.new.work.records c.in-Some.port.now c.in-Some.ensures c.loop-port.invariant.ports c.loop-port.invariant.bindings
      c.in_ok-remove_router_port.ensures.ok ∙ c.loop-port.invariant.same;
  back = c.in_ok-remove_router_port.ensures.back ∙ c.loop-port.invariant.back;
}

pub returns-clause-ok : goal.returns-clause-ok
returns-clause-ok c = ports_done c.args.router c.loop-port.work.records c.in_default.ensures ∙ c.loop-port.invariant.same
