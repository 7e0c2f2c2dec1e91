use Rattle.std.proofs.Common.{ap, ◌∙◌, ◌&&◌, List, Some}
use Rattle.std.specs.Prelude.{find}
use Rattle.std.specs.List.{flat_map}
use Rattle.nb_records.specs.Tags.{port_tags, tag_cmp, ips_of}
use Rattle.nb_records.specs.declared.switch.Port.{Port}
use Rattle.nb_records.specs.declared.tag.Tag.TheVariants.{Names}
use Rattle.nb_model.specs.Belongs.{is_to_router, is_name}
use Rattle.nb_store.proofs.Found.{found_by, is_peer_named}
use Rattle.nv_table.specs.Table.{is_after}
use Rattle.nb_limits.proofs.neighbour_ceilings.named_after.Goals as goal

pub returns : goal.returns
returns c =
    c.tagged.ensures.record
    ∙ found_by (λ (port : Port). port.id) port_tags (tag_cmp (Names c.args.name.now)) (λ port. is_to_router port && is_name port.router_port c.args.name.now) (Some c.args.number)
    (λ (port : Port). is_peer_named c.args.name.now port.name port.switch port.kind port.router_port (flat_map ips_of port.addresses)) c.ports.result.now
    ∙ ap (λ (ports : List Port). find (λ port. is_after (Some c.args.number) port.id && (is_to_router port && is_name port.router_port c.args.name.now)) ports) c.ports.ensures
