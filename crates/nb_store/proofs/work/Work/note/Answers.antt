use Rattle.std.proofs.Common.{ap, ◌∙◌}
use Rattle.nb_store.specs.Undo.{back_steps}
use Rattle.nb_store.proofs.Steps.{back_last}
use Rattle.nb_store.proofs.work.Work.note.Goals as goal

pub returns-in-Ok-clause-back : goal.returns-in-Ok-clause-back
returns-in-Ok-clause-back c =
    ap (λ steps. back_steps steps c.args.self.now.records) c.in-Ok.ensures.items ∙ back_last c.args.self.now.steps.items c.args.step c.args.self.now.records
