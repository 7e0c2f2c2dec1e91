use Rattle.std.proofs.Common.{ap, ◌∙◌}
use Rattle.nb_store.proofs.Owned.{group_with, group_with_found}
use Rattle.nb_store.proofs.records.Records.group_with.Goals as goal

pub returns : goal.returns
returns c = c.tagged.ensures.record ∙ group_with_found c.args.port c.args.after c.self.inside.groups ∙ ap (λ net. group_with c.args.port c.args.after net.groups) c.self.view_is
