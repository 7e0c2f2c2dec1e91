use Rattle.std.proofs.Common.{◌∙◌}
use Rattle.std.proofs.lemmas.Result.{on_ok_weaker}
use Rattle.nb_change.proofs.SetEdits.{removed_set, no_set}
use Rattle.nb_change.proofs.sets.as_del.Goals as goal

pub returns-in_default-clause-ok : goal.returns-in_default-clause-ok
returns-in_default-clause-ok c = no_set c.args.work.now.records c.requires.sound c.args.name.now c.args.if_exists c.in_default.ensures

pub returns-clause-ok : goal.returns-clause-ok
returns-clause-ok c =
    on_ok_weaker c.remove.result (λ e. e
    ∙ removed_set c.args.work.now.records c.requires.sound c.args.name.now c.args.if_exists c.in-Some.set.now c.in-Some.ensures)
    c.remove.ensures.ok
