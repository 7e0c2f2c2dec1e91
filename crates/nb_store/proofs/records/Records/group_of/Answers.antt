use Rattle.std.proofs.Common.{ap, ◌∙◌}
use Rattle.nb_model.specs.Network.{group_named}
use Rattle.nb_store.proofs.Found.{group_found}
use Rattle.nb_store.proofs.records.Records.group_of.Goals as goal

pub returns-clause-group : goal.returns-clause-group
returns-clause-group c = c.tagged.ensures.record ∙ group_found c.args.name.now c.self.inside.groups ∙ ap (λ net. group_named net c.args.name.now) c.self.view_is
