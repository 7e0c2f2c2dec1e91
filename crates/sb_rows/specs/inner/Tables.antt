-- The tables among all rows, by which a search finds the rows of one.
use Rattle.std.specs.Prelude.{ℕ, ◌+◌, ◌*◌, ◌-◌}
use Rattle.nv_base.specs.declared.object.ObjId.{ObjId}
use Rattle.sb_model.specs.declared.stage.Stage.{Stage}
use Rattle.sb_model.specs.declared.row.Row.{Row}
use Rattle.sb_model.specs.Stage.{stage_place}

-- the place of a table among all: by datapath, then by stage
abbrev pub table_key : ObjId → Stage → ℕ
table_key dp stage = dp.0 * 32 + stage_place stage

-- the place of a row in its table: by falling priority, then by hint
abbrev pub rank_key : ℕ → ObjId → ℕ
rank_key priority hint = (65535 - priority) * 4294967296 + hint.0

-- that of a row
abbrev pub rank_of : Row → ℕ
rank_of row = rank_key row.priority row.hint

-- the place of a row's table
abbrev pub key_of : Row → ℕ
key_of r = table_key r.dp r.stage
