-- The rows on a router (modelled on ovn-northd(8)).
use Rattle.std.specs.Prelude.{List, filter}
use Rattle.nv_base.specs.declared.object.ObjId.{ObjId}
use Rattle.nb_model.specs.Network.{Network, same}
use Rattle.sb_model.specs.declared.row.Row.{Row}
use Rattle.lr_units.specs.Build.{router_rows}

-- the rows of the routers of a network that are on this one
unfoldable pub rows_on : Network → ObjId → List Row
rows_on net router = filter (λ row. same router row.dp) (router_rows net)
