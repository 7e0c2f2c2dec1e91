-- The listing of flows, in the words of ovn-sbctl(8)'s `lflow-list`.
use Rattle.std.specs.Prelude.{ℕ, List, ◌++◌, Bool, true, codes, decimal, ◌==◌, filter, Option, Some, None}
use Rattle.std.specs.List.{flat_map}
use Rattle.nv_base.specs.declared.object.ObjId.{ObjId}
use Rattle.sb_model.specs.declared.stage.Stage.{Stage}
use Rattle.sb_model.specs.declared.stage.Pipeline.{Pipeline}
use Rattle.sb_model.specs.declared.stage.Pipeline.TheVariants.{Ingress, Egress}
use Rattle.sb_model.specs.declared.row.Row.{Row}
use Rattle.sb_model.specs.Stage.{stage_name, table_number, pipeline_of, is_same_pipeline}
use Rattle.expr_core.specs.Text.{typed_text}
use Rattle.act_core.specs.Text.{actions_text}
use Rattle.sb_rows.specs.Row.{rows_of}

-- the pipeline's name
abbrev pub pipeline_name : Pipeline → List ℕ
pipeline_name Ingress = codes "ingress"
pipeline_name Egress = codes "egress"

-- the line over the rows of a pipeline
abbrev pub heading : List ℕ → Pipeline → List ℕ
heading name pipeline = codes "Datapath: " ++ name ++ codes "  Pipeline: " ++ pipeline_name pipeline ++ codes "\n"

-- a row's stage, as its line begins
unfoldable pub stage_text : Stage → List ℕ
stage_text stage = codes "  table=" ++ decimal (table_number stage) ++ codes " (" ++ stage_name stage ++ codes ")"

-- a row's priority and hint, as its line goes on
unfoldable pub row_rank : Row → List ℕ
row_rank r = codes ", priority=" ++ decimal r.priority ++ codes ", hint=" ++ decimal r.hint.0

-- a row's match and actions, as its line ends
unfoldable pub row_rule : Row → List ℕ
row_rule r = codes ", match=(" ++ typed_text r.matching ++ codes "), action=(" ++ actions_text r.actions ++ codes ")\n"

-- a row's line
unfoldable pub row_text : Row → List ℕ
row_text r = stage_text r.stage ++ row_rank r ++ row_rule r

-- the rows of one pipeline
abbrev pub rows_in : Pipeline → List Row → List Row
rows_in pipeline rows = filter (λ r. is_same_pipeline (pipeline_of r.stage) pipeline) rows

-- a pipeline of a datapath with this name and these rows
abbrev pub pipeline_listing : List Row → List ℕ → Pipeline → List ℕ
pipeline_listing rows name pipeline = heading name pipeline ++ flat_map row_text (rows_in pipeline rows)

-- a datapath with this name and these rows
abbrev pub datapath_listing : List Row → List ℕ → List ℕ
datapath_listing rows name = pipeline_listing rows name Ingress ++ pipeline_listing rows name Egress

-- whether a datapath is asked for: each is, or only one
abbrev pub is_asked_for : Option ObjId → ObjId → Bool
is_asked_for None dp = true
is_asked_for (Some only) dp = only.0 == dp.0

-- the datapaths that are asked for, in the order of their names' list
abbrev pub listing : List Row → List (ObjId × List ℕ) → Option ObjId → List ℕ
listing rows names only = flat_map (λ d. datapath_listing (rows_of d.0 rows) d.1) (filter (λ d. is_asked_for only d.0) names)
