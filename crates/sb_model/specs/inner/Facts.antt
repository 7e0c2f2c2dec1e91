-- What the code's table has of a stage.
use Rattle.sb_model.specs.declared.stage.Facts.{Facts}
use Rattle.sb_model.specs.declared.stage.Stage.{Stage}
use Rattle.sb_model.specs.Stage.{stage_table}

-- the stage's line, without its place and name
abbrev pub facts_of : Stage → Facts
facts_of s = record { kind = (stage_table s).kind; pipeline = (stage_table s).pipeline; table = (stage_table s).table }
