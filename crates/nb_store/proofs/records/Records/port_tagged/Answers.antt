use Rattle.std.proofs.Common.{◌&&◌, ap, ◌∙◌}
use Rattle.std.specs.Prelude.{find}
use Rattle.nb_records.specs.Tags.{port_tags}
use Rattle.nb_records.specs.declared.switch.Port.{Port}
use Rattle.nb_model.specs.Network.{Network}
use Rattle.nv_table.specs.Table.{has_tag, is_after}
use Rattle.nb_store.proofs.records.Records.port_tagged.Goals as goal

pub returns-clause-port : goal.returns-clause-port
returns-clause-port g c =
    c.tagged.ensures.record ∙ ap (λ (net : Network). find (λ (port : Port). is_after c.args.after port.id && has_tag port_tags (g.P.Probe.order c.args.tag.now) port) net.ports) c.self.view_is
