use Rattle.std.proofs.Common.{ap, ◌∙◌}
use Rattle.nb_store.proofs.Owned.{binding_of, binding_of_found}
use Rattle.nb_store.proofs.records.Records.binding_of.Goals as goal

pub returns : goal.returns
returns c = c.tagged.ensures.record ∙ binding_of_found c.args.port c.args.after c.self.inside.bindings ∙ ap (λ net. binding_of c.args.port c.args.after net.bindings) c.self.view_is
