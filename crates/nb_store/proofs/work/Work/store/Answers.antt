use Rattle.std.proofs.Common.{ap, sym, ◌∙◌}
use Rattle.nb_store.specs.Undo.{restored, removed, back_steps}
use Rattle.nb_store.proofs.Back.{restored_back, removed_again}
use Rattle.nb_store.proofs.work.Work.store.Goals as goal

pub returns-in-Some-clause-back : goal.returns-in-Some-clause-back
returns-in-Some-clause-back c =
    c.note.ensures.back
    ∙ ap (back_steps c.args.self.now.steps.items) (ap (restored c.in-Some.old) c.in-Some.ensures.new
    ∙ restored_back c.args.object c.in-Some.old c.args.self.now.records c.in-Some.ensures.rise (sym c.in-Some.ensures.old))

pub returns-in-None-clause-back : goal.returns-in-None-clause-back
returns-in-None-clause-back c =
    c.note-in-None.ensures.back
    ∙ ap (back_steps c.args.self.now.steps.items) (ap (removed c.place-place.result) c.in-None.ensures.new
    ∙ ap (λ place. removed place (restored c.args.object c.args.self.now.records)) c.place-place.ensures
    ∙ removed_again c.args.object c.args.self.now.records c.in-None.ensures.rise (sym c.in-None.ensures.old))
