-- The full build of a network: the rows of its switches and of its routers (modelled on ovn-northd(8)).
use Rattle.std.specs.Prelude.{List, [], ◌++◌}
use Rattle.nb_model.specs.Network.{Network}
use Rattle.sb_model.specs.declared.row.Row.{Row}
use Rattle.sb_rows.specs.Row.{put_rows}
use Rattle.net_rows.specs.Build.{all_rows}
use Rattle.lr_units.specs.Build.{router_rows}

-- the rows of all units, those of switches first
abbrev pub rows_of_units : Network → List Row
rows_of_units net = all_rows net ++ router_rows net

-- the rows of the network, in row order
unfoldable pub network_rows : Network → List Row
network_rows net = put_rows [] (rows_of_units net)
