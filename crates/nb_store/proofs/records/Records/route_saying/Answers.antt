use Rattle.std.proofs.Common.{ap, ◌∙◌}
use Rattle.std.specs.Prelude.{find}
use Rattle.nb_records.specs.Tags.{tag_cmp, route_tags}
use Rattle.nb_records.specs.declared.tag.Tag.TheVariants.{Says}
use Rattle.nv_table.specs.Table.{has_tag}
use Rattle.nb_store.proofs.Owned.{route_saying, route_saying_found}
use Rattle.nb_store.proofs.records.Records.route_saying.Goals as goal

pub returns : goal.returns
returns c =
    c.tagged.ensures.record
    ∙ ap (λ said. find (λ s. has_tag route_tags (tag_cmp (Says c.args.router said)) s) c.self.inside.routes) c.route_rule-rule.ensures
    ∙ route_saying_found c.args.router c.args.by c.args.prefix c.self.inside.routes
    ∙ ap (λ net. route_saying c.args.router c.args.by c.args.prefix net.routes) c.self.view_is
