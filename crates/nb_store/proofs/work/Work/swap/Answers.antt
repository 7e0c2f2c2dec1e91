use Rattle.std.proofs.Common.{refl, ap, sym, ◌∙◌}
use Rattle.nb_store.specs.Undo.{undone, back_steps}
use Rattle.nb_store.specs.declared.step.Step.TheVariants as step
use Rattle.nb_store.proofs.ByOne.{fitting_differs, undone_swap}
use Rattle.nb_store.proofs.work.Work.swap.Goals as goal

pub unwrap-number-requires : goal.unwrap-number-requires
unwrap-number-requires c =
    let it = fitting_differs c.args.lean c.args.self.now.records c.requires in
    rw (c.differing.ensures, it.1) refl

pub returns-clause-back : goal.returns-clause-back
returns-clause-back c =
    c.note.ensures.back
    ∙ ap (back_steps c.args.self.now.steps.items) (ap (undone (step.Swap c.swap_fitting-old.result c.unwrap-number.result)) c.swap_fitting-old.ensures.new
    ∙ undone_swap c.args.lean c.swap_fitting-old.result c.unwrap-number.result c.args.self.now.records c.swap_fitting-old.ensures.rise (sym c.swap_fitting-old.ensures.old) (sym c.differing.ensures ∙ c.unwrap-number.ensures))
