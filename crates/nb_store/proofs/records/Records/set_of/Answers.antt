use Rattle.std.proofs.Common.{ap, ◌∙◌}
use Rattle.nb_model.specs.Network.{set_named}
use Rattle.nb_store.proofs.Found.{set_found}
use Rattle.nb_store.proofs.records.Records.set_of.Goals as goal

pub returns : goal.returns
returns c = c.tagged.ensures.record ∙ set_found c.args.name.now c.self.inside.sets ∙ ap (λ net. set_named net c.args.name.now) c.self.view_is
