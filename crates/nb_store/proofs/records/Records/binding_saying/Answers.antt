use Rattle.std.proofs.Common.{ap, ◌∙◌}
use Rattle.nb_store.proofs.Owned.{binding_saying, binding_saying_found}
use Rattle.nb_store.proofs.records.Records.binding_saying.Goals as goal

pub returns : goal.returns
returns c = c.tagged.ensures.record ∙ binding_saying_found c.args.port c.args.addr c.self.inside.bindings ∙ ap (λ net. binding_saying c.args.port c.args.addr net.bindings) c.self.view_is
