use Rattle.std.proofs.Common.{ap, sym, ◌∙◌}
use Rattle.nb_store.specs.Undo.{back_steps}
use Rattle.nb_store.proofs.Steps.{back_last}
use Rattle.nb_store.proofs.records.Records.undo_all.Goals as goal

pub loop-step-preserved : goal.loop-step-preserved
loop-step-preserved c =
    ap (back_steps c.pop.new.self.items) c.undo_step.ensures
    ∙ sym (back_last c.pop.new.self.items c.in-Some.step c.loop-step.self)
    ∙ ap (λ steps. back_steps steps c.loop-step.self) (sym c.in-Some.ensures.items)
    ∙ c.loop-step.invariant
