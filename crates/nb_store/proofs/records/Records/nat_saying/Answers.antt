use Rattle.std.proofs.Common.{ap, ◌∙◌}
use Rattle.std.specs.Prelude.{find}
use Rattle.nb_records.specs.Tags.{tag_cmp, nat_tags}
use Rattle.nb_records.specs.declared.tag.Tag.TheVariants.{Says}
use Rattle.nv_table.specs.Table.{has_tag}
use Rattle.nb_store.proofs.Owned.{nat_saying, nat_saying_found}
use Rattle.nb_store.proofs.records.Records.nat_saying.Goals as goal

pub returns : goal.returns
returns c =
    c.tagged.ensures.record
    ∙ ap (λ said. find (λ s. has_tag nat_tags (tag_cmp (Says c.args.router said)) s) c.self.inside.nats) c.nat_rule-rule.ensures
    ∙ nat_saying_found c.args.router c.args.kind c.args.external c.args.logical c.self.inside.nats
    ∙ ap (λ net. nat_saying c.args.router c.args.kind c.args.external c.args.logical net.nats) c.self.view_is
