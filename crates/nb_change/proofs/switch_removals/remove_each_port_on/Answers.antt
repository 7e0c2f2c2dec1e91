use Rattle.std.proofs.Common.{◌∙◌}
use Rattle.nb_change.proofs.Removed.{port_smaller, port_rise, port_groups, port_same, ports_done}
use Rattle.nb_change.proofs.switch_removals.remove_each_port_on.Goals as goal

pub loop-port-smaller : goal.loop-port-smaller
loop-port-smaller c =
    port_smaller c.args.switch c.loop-port.work.records c.remove_port.new.work.records c.in-Some.port.now c.in-Some.ensures c.loop-port.invariant.ports c.loop-port.invariant.groups
    c.in_ok-remove_port.ensures.ok

pub loop-port-preserved : goal.loop-port-preserved
loop-port-preserved c = record {
  ports = port_rise c.args.switch c.loop-port.work.records c.remove_port.new.work.records c.in-Some.port.now c.in-Some.ensures c.loop-port.invariant.ports c.loop-port.invariant.groups
      c.in_ok-remove_port.ensures.ok;
  groups = port_groups c.args.switch c.loop-port.work.records c.remove_port.new.work.records c.in-Some.port.now c.in-Some.ensures c.loop-port.invariant.ports c.loop-port.invariant.groups
      c.in_ok-remove_port.ensures.ok;
  same = port_same c.args.switch c.loop-port.work.records c.remove_port.new.work.records c.in-Some.port.now c.in-Some.ensures c.loop-port.invariant.ports c.loop-port.invariant.groups
      c.in_ok-remove_port.ensures.ok ∙ c.loop-port.invariant.same;
  back = c.in_ok-remove_port.ensures.back ∙ c.loop-port.invariant.back;
}

pub returns-clause-ok : goal.returns-clause-ok
returns-clause-ok c = ports_done c.args.switch c.loop-port.work.records c.in_default.ensures ∙ c.loop-port.invariant.same
