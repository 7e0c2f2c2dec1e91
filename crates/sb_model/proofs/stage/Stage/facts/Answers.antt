use Rattle.std.proofs.Common.{◌∙◌}
use Rattle.sb_model.proofs.Facts.{facts_at}
use Rattle.sb_model.proofs.Stages.{place_within}
use Rattle.sb_model.proofs.stage.Stage.facts.Goals as goal

pub bounds-from : goal.bounds-from
bounds-from c = let within = place_within c.args.self in rw (c.from.ensures ∙ c.place.ensures) within

pub returns : goal.returns
returns c = facts_at c.args.self c.from.result _ (c.from.ensures ∙ c.place.ensures)
