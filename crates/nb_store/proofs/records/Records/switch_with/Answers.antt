use Rattle.std.proofs.Common.{ap, ◌∙◌}
use Rattle.nb_store.proofs.Owned.{switch_with, switch_with_found}
use Rattle.nb_store.proofs.records.Records.switch_with.Goals as goal

pub returns : goal.returns
returns c = c.tagged.ensures.record ∙ switch_with_found c.args.lb c.args.after c.self.inside.switches ∙ ap (λ net. switch_with c.args.lb c.args.after net.switches) c.self.view_is
