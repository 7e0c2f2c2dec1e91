use Rattle.std.proofs.Common.{◌&&◌, sym, ◌∙◌}
use Rattle.nb_records.specs.Tags.{port_tags}
use Rattle.nb_records.specs.declared.switch.Port.{Port}
use Rattle.nb_store.specs.inner.Listed.{lists, has_ip}
use Rattle.nv_table.specs.Table.{has_tag}
use Rattle.nb_store.proofs.AclLikes.{fewer_after}
use Rattle.nb_store.proofs.Reached.{none_left, found_one, next_left}
use Rattle.nb_store.proofs.records.Records.lists_tagged.Goals as goal

pub loop-port-smaller : goal.loop-port-smaller
loop-port-smaller g c =
    fewer_after (λ (p : Port). p.id) c.loop-port.after (has_tag port_tags (g.P.Probe.order c.args.tag.now)) c.in-Some.port.now c.args.self.now.ports (sym c.in-Some.ensures.port) c.in-Some.ensures.rise

pub loop-port-preserved : goal.loop-port-preserved
loop-port-preserved g c =
    next_left c.loop-port.after (has_tag port_tags (g.P.Probe.order c.args.tag.now)) (λ p. lists c.args.self.now.groups c.args.group p.id && has_ip c.args.value p) c.args.self.now.ports
    c.in-Some.port.now c.in-Some.ensures.port c.in-Some.ensures.rise (sym c.lists_one.ensures ∙ c.if-lists_one.false) c.loop-port.invariant

pub returns-then-lists_one-clause-listed : goal.returns-then-lists_one-clause-listed
returns-then-lists_one-clause-listed g c =
    found_one c.loop-port.after (has_tag port_tags (g.P.Probe.order c.args.tag.now)) (λ p. lists c.args.self.now.groups c.args.group p.id && has_ip c.args.value p) c.args.self.now.ports
    c.in-Some.port.now c.in-Some.ensures.port (sym c.lists_one.ensures ∙ c.if-lists_one.true) c.loop-port.invariant

pub returns-clause-listed : goal.returns-clause-listed
returns-clause-listed g c =
    none_left c.loop-port.after (has_tag port_tags (g.P.Probe.order c.args.tag.now)) (λ p. lists c.args.self.now.groups c.args.group p.id && has_ip c.args.value p) c.args.self.now.ports
    c.in_default.ensures.port c.loop-port.invariant
