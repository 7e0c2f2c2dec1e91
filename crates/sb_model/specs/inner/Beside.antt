-- The next stage by its place.
use Rattle.std.specs.Prelude.{Bool, ◌&&◌, Option, Some, None, if◌then◌else◌}
use Rattle.sb_model.specs.declared.stage.Stage.{Stage}
use Rattle.sb_model.specs.Stage.{stage_table, is_same_kind, is_same_pipeline}

-- whether two stages are of one pipeline
abbrev pub is_beside : Stage → Stage → Bool
is_beside stage other =
    is_same_kind (stage_table stage).kind (stage_table other).kind && is_same_pipeline (stage_table stage).pipeline (stage_table other).pipeline

-- the other stage, if it is of the same pipeline
abbrev pub if_beside : Stage → Option Stage → Option Stage
if_beside stage None = None
if_beside stage (Some other) = if is_beside stage other then Some other else None
