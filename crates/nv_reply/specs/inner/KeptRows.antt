-- What a session keeps besides the network.
use Rattle.std.specs.Prelude.{◌≡◌, List, Option, Some, None}
use Rattle.sb_model.specs.declared.row.Row.{Row}
use Rattle.nb_model.specs.Network.{Network}
use Rattle.nb_model.specs.Sound.{IsSound}
use Rattle.lr_units.specs.Network.{network_rows}

-- the rows of the network, which is sound
pub record AreRowsOf (rows : List Row) (net : Network) : Type 0 where
  pub built : rows ≡ network_rows net
  pub sound : IsSound net

-- rows that are kept are those of the network
abbrev pub AreKept : Option (List Row) → Network → Type 0
AreKept None net = Unit {0}
AreKept (Some rows) net = AreRowsOf rows net
