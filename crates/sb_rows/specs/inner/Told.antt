-- What is told of the rows of which an index is made.
use Rattle.std.specs.Prelude.{◌≡◌, ℕ, true, List}
use Rattle.std.specs.List.{Contains}
use Rattle.expr_core.specs.Lookup.{Lookup}
use Rattle.expr_eval.specs.MatchMeaning.{holds}
use Rattle.pkt_core.specs.Packet.{Values}
use Rattle.sb_model.specs.declared.row.Row.{Row}
use Rattle.sb_rows.specs.declared.asks.Asks.{Asks}
use Rattle.sb_rows.specs.declared.index.Told.{Told}
use Rattle.sb_rows.specs.inner.Asks.{HasAsked}
use Rattle.sb_rows.specs.inner.Plain.{asked_by, plain}

-- what is asked is in each packet of which the row's match holds, and is all that this asks
pub record IsAskedBy (row : Row) (asks : Asks) : Type 0 where
  pub asked : (net : Lookup) (packet : Values) → holds net packet row.matching ≡ true → HasAsked asks net packet
  pub told : plain asks ≡ asked_by row.matching

-- of each row it is told what its match asks
abbrev pub AreTold : List Told → List (ℕ × Row) → Type 0
AreTold told rows = (place : ℕ) (row : Row) → Contains rows (place, row) → (asks : Asks) × (Contains told (record { place = place; asks = asks }) × IsAskedBy row asks)
