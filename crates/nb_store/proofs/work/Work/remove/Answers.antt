use Rattle.std.proofs.Common.{ap, sym, ◌∙◌}
use Rattle.nb_store.specs.Undo.{restored, back_steps}
use Rattle.nb_store.proofs.Back.{removed_back, none_removed}
use Rattle.nb_store.proofs.work.Work.remove.Goals as goal

pub returns-in-Some-clause-back : goal.returns-in-Some-clause-back
returns-in-Some-clause-back c =
    c.note.ensures.back
    ∙ ap (back_steps c.args.self.now.steps.items) (ap (restored c.in-Some.old) c.in-Some.ensures.new
    ∙ removed_back c.args.place c.in-Some.old c.args.self.now.records c.in-Some.ensures.rise (sym c.in-Some.ensures.old))

pub returns-in-None-clause-back : goal.returns-in-None-clause-back
returns-in-None-clause-back c =
    ap (back_steps c.args.self.now.steps.items) (c.in-None.ensures.new ∙ none_removed c.args.place c.args.self.now.records (sym c.in-None.ensures.old))
