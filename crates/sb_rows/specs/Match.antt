-- The row that a packet meets in a table.
use Rattle.std.specs.Prelude.{Bool, ◌&&◌, ◌==◌, List, Option}
use Rattle.std.specs.List.{find}
use Rattle.nv_base.specs.declared.object.ObjId.{ObjId}
use Rattle.pkt_core.specs.Packet.{Values}
use Rattle.expr_core.specs.Lookup.{Lookup}
use Rattle.expr_eval.specs.MatchMeaning.{holds}
use Rattle.sb_model.specs.declared.stage.Stage.{Stage}
use Rattle.sb_model.specs.declared.row.Row.{Row}
use Rattle.sb_model.specs.Stage.{stage_place}

-- whether the row is in the table of this datapath and stage
abbrev pub is_in_table : ObjId → Stage → Row → Bool
is_in_table dp stage r = (r.dp.0 == dp.0) && (stage_place r.stage == stage_place stage)

-- the first row of the table of this datapath and stage whose match holds of the packet
abbrev pub select : ObjId → Stage → Lookup → Values → List Row → Option Row
select dp stage net packet rows = find (λ r. is_in_table dp stage r && holds net packet r.matching) rows
