use Rattle.std.proofs.Common.{rules, ◌∙◌}
use Rattle.std.proofs.lemmas.Iterator.{YieldsList-from_slice}
use Rattle.std.proofs.lemmas.Iterator.Search.{find_from_yields_List}
use Rattle.sb_model.specs.Stage.{is_at, all_stages, stage_at}
use Rattle.sb_model.proofs.stage.Stage.at.Goals as goal

pub returns : goal.returns
unfolding stage_at
returns c =
    let found = find_from_yields_List (is_at c.args.kind c.args.pipeline c.args.table) _ _ _ c.find.ensures.ran (YieldsList-from_slice all_stages (c.iter.ensures.rest ∙ c.all.ensures)) (λ x b q called. search rules) in
    c.copied.ensures ∙ found
