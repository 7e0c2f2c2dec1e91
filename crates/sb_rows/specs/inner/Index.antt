-- What is kept of a table that has many rows: the places of the rows that may take a packet.
use Rattle.std.specs.Borrow.{Bor}
use Rattle.std.specs.Prelude.{◌≡◌, ◌⊎◌, ◌≤◌, ⊤, ℕ, true, List, Option, None, Some}
use Rattle.std.specs.List.{Contains}
use Rattle.std.specs.Option.{option_copied}
use Rattle.expr_core.specs.Lookup.{Lookup}
use Rattle.expr_eval.specs.MatchMeaning.{holds}
use Rattle.pkt_core.specs.Packet.{Values}
use Rattle.sb_model.specs.declared.row.Row.{Row}
use Rattle.sb_rows.specs.declared.asks.Asks.{Asks}
use Rattle.sb_rows.specs.declared.asks.Shape.{Shape}
use Rattle.sb_rows.specs.declared.index.Index.{Index}
use Rattle.sb_rows.specs.declared.index.Shaped.{Shaped}
use Rattle.sb_rows.specs.declared.index.Wanted.{Wanted}
use Rattle.sb_rows.specs.inner.Asks.{HasAsked, bucket_of, name_of, numbers_of, shape_of}
use Rattle.sb_rows.specs.inner.Own.{IsBucketOf}
use Rattle.sb_rows.specs.inner.Plain.{IsOf, plain}

-- the bucket has the place
abbrev pub IsIn : Index → ℕ → ℕ → Type 0
IsIn index bucket place = Contains index.filled (bucket, place) ⊎ Contains index.more.keys (bucket, place)

-- a bucket of what is asked has the place
abbrev pub IsHeld : Index → Asks → ℕ → Type 0
IsHeld index asks place = (bucket : ℕ) × (IsBucketOf index.own asks bucket × IsIn index bucket place)

-- what is wanted is what is asked
pub record IsWanted (wanted : Wanted) (asks : Asks) : Type 0 where
  pub bucket : bucket_of asks ≡ wanted.bucket
  pub name : name_of asks.port ≡ option_copied wanted.name
  pub numbers : numbers_of asks ≡ wanted.numbers

-- there is such a shape, with a place that is not after this one
abbrev pub HasShape : List Shaped → Shape → ℕ → Type 0
HasShape shapes shape place = (from : ℕ) × (Contains shapes (record { shape = shape; from = from }) × (from ≤ place))

-- the place is in a bucket of what is asked, which has one of the shapes
pub record IsFiled (asks : Asks) (place : ℕ) (index : Index) : Type 0 where
  pub shaped : HasShape index.shapes.items (shape_of asks) place
  pub there : IsHeld index asks place

-- what is asked is in each packet of which the row's match holds, and is what this asks, in short or at length
pub record IsAskedOf (row : Row) (asks : Asks) : Type 0 where
  pub asked : (net : Lookup) (packet : Values) → holds net packet row.matching ≡ true → HasAsked asks net packet
  pub told : IsOf row.matching (plain asks)

-- the place of the row is in a bucket of what its match asks, which each packet has that the row may take
abbrev pub IsCovered : Row → ℕ → Index → Type 0
IsCovered row place index = (asks : Asks) × (IsAskedOf row asks × IsFiled asks place index)

-- all rows are covered
abbrev pub Covers : Index → List (ℕ × Row) → Type 0
Covers index rows = (place : ℕ) (row : Row) → Contains rows (place, row) → IsCovered row place index

-- the best row so far, if there is one, takes the packet
abbrev pub IsTaker : Lookup → Values → List (ℕ × Row) → Option (ℕ × Bor Row) → Type 0
IsTaker net packet rows None = ⊤
IsTaker net packet rows (Some best) = Contains rows (best.0, best.1.now) × (holds net packet best.1.now.matching ≡ true)

-- the place is not before that of the best so far
abbrev pub IsNoBetter : Option (ℕ × Bor Row) → ℕ → Type 0
IsNoBetter None place = ⊥
IsNoBetter (Some best) place = best.0 ≤ place

-- if a row at this place takes the packet, the place is not before that of the best so far
abbrev pub IsTried : Lookup → Values → List (ℕ × Row) → Option (ℕ × Bor Row) → ℕ → Type 0
IsTried net packet rows best place = (row : Row) → Contains rows (place, row) → holds net packet row.matching ≡ true → IsNoBetter best place
