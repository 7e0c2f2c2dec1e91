-- Routers by their numbers, and the rows on them.
use Rattle.std.specs.Prelude.{Bool, true, nat_lt, List, filter, Option, Some, None}
use Rattle.std.specs.List.{flat_map}
use Rattle.nv_base.specs.declared.object.ObjId.{ObjId}
use Rattle.nb_records.specs.declared.router.Router.{Router}
use Rattle.nb_model.specs.Network.{Network}
use Rattle.nv_table.specs.Table.{is_after}
use Rattle.sb_model.specs.declared.row.Row.{Row}
use Rattle.nd_router.specs.Router.{rows_on}

-- whether a number is below the one given, where one is given
abbrev pub is_before : Option ObjId → ObjId → Bool
is_before None n = true
is_before (Some high) n = nat_lt n.0 high.0

-- the routers of numbers above one and below another, where these are given
abbrev pub routers_between : Network → Option ObjId → Option ObjId → List Router
routers_between net after before = filter (λ router. is_after after router.id) (filter (λ router. is_before before router.id) net.routers)

-- the rows on these routers
abbrev pub rows_of_each : Network → List Router → List Row
rows_of_each net routers = flat_map (λ router. rows_on net router.id) routers
