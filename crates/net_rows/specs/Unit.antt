-- The rows of a unit: of one datapath, made for one object or for none.
use Rattle.std.specs.Prelude.{ℕ, List, [], map}
use Rattle.nv_base.specs.declared.object.ObjId.{ObjId}
use Rattle.expr_core.specs.Formula.{Formula}
use Rattle.expr_core.specs.declared.typed.TypedAtom.{TypedAtom}
use Rattle.act_core.specs.declared.action.Action.{Action}
use Rattle.sb_model.specs.declared.row.Row.{Row}
use Rattle.sb_model.specs.declared.stage.Stage.{Stage}
use Rattle.sb_rows.specs.Row.{put_rows}
use Rattle.net_rows.specs.declared.rule.Rule.{Rule}
use Rattle.net_rows.specs.declared.rule.Unit.{Unit}

-- a unit of a datapath, whose rows are made for this object
abbrev pub unit_of : ObjId → ObjId → Unit
unit_of dp hint = record { dp = dp; hint = hint }

-- a unit of a datapath itself
abbrev pub unit_of_datapath : ObjId → Unit
unit_of_datapath dp = unit_of dp (record { 0 = 0 })

-- a line of the tables of rows: stage, priority, match, actions
abbrev pub rule : Stage → ℕ → Formula TypedAtom → List Action → Rule
rule stage priority matching actions = record { stage = stage; priority = priority; matching = matching; actions = actions }

-- the row that a rule of a unit says
abbrev pub row_of : Unit → Rule → Row
row_of unit r = record { dp = unit.dp; stage = r.stage; priority = r.priority; hint = unit.hint; matching = r.matching; actions = r.actions }

-- the rows that the rules of a unit say
abbrev pub said_by : Unit → List Rule → List Row
said_by unit rules = map (row_of unit) rules

-- the rows of a unit with these rules, in row order
unfoldable pub unit_rows : Unit → List Rule → List Row
unit_rows unit rules = put_rows [] (said_by unit rules)
