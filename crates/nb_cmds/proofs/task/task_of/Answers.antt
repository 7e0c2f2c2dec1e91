use Rattle.std.proofs.Common.{rules, ◌∙◌}
use Rattle.std.proofs.lemmas.Iterator.{YieldsList-from_slice}
use Rattle.std.proofs.lemmas.Iterator.Search.{find_from_yields_List}
use Rattle.nb_cmds.specs.Tasks.{is_named, tasks}
use Rattle.nb_cmds.proofs.task.task_of.Goals as goal

pub returns : goal.returns
returns c =
    let found = find_from_yields_List (λ task. is_named task c.args.name.now) _ _ _ c.find.ensures.ran (YieldsList-from_slice tasks (c.iter.ensures.rest ∙ c.all.ensures)) (λ x b q called. search rules) in
    c.copied.ensures ∙ found
