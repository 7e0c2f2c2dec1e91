use Rattle.std.proofs.Common.{ap, sym, ◌∙◌}
use Rattle.nb_check.specs.Undone.{back_all}
use Rattle.nb_check.proofs.Undone.{back_last}
use Rattle.nb_check.proofs.apply.undo_all.Goals as goal

pub loop-undo-preserved : goal.loop-undo-preserved
loop-undo-preserved c =
    ap (back_all c.pop.new.self.items) c.undo.ensures
    ∙ sym (back_last c.pop.new.self.items c.in-Some.undo c.loop-undo.records)
    ∙ ap (λ undos. back_all undos c.loop-undo.records) (sym c.in-Some.ensures.items)
    ∙ c.loop-undo.invariant
