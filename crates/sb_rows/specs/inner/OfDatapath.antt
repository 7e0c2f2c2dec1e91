-- The tables of one datapath, by their stages.
use Rattle.std.specs.Prelude.{◌≡◌, List, length, Option, Some, None}
use Rattle.std.specs.Borrow.{Bor}
use Rattle.std.specs.List.{find, slice_index_or}
use Rattle.std.specs.Option.{option_copied}
use Rattle.nv_base.specs.declared.object.ObjId.{ObjId}
use Rattle.expr_core.specs.Lookup.{Lookup}
use Rattle.expr_eval.specs.MatchMeaning.{holds}
use Rattle.pkt_core.specs.Packet.{Values}
use Rattle.sb_model.specs.declared.stage.Stage.{Stage}
use Rattle.sb_model.specs.declared.row.Row.{Row}
use Rattle.sb_model.specs.Stage.{stage_place}
use Rattle.sb_rows.specs.Match.{select}

-- the first row that takes a packet, of a table if there is one
abbrev pub found_in : Lookup → Values → Option (List Row) → Option Row
found_in net packet None = None
found_in net packet (Some table) = find (λ r. holds net packet r.matching) table

-- at the place of each stage is the table of the datapath, if there is one
pub record AreTablesOf (dp : ObjId) (tables : List (Option (Bor (List Row)))) (rows : List Row) : Type 0 where
  pub long : length tables ≡ 32
  pub selected : (stage : Stage) (net : Lookup) (packet : Values) → found_in net packet (option_copied (slice_index_or tables (stage_place stage) None)) ≡ select dp stage net packet rows
