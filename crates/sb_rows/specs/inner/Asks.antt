-- What a match asks of a packet before all else, and the bucket that this tells.
use Rattle.std.specs.Prelude.{◌≡◌, ◌⊎◌, ⊤, ℕ, ◌+◌, ◌*◌, ◌/◌, ◌%◌, List, Option, Some, None, fold, bit_and, true}
use Rattle.nv_base.specs.Field.{field_number}
use Rattle.nv_base.specs.declared.field.Field.{Field}
use Rattle.nv_base.specs.declared.field.Field.TheVariants.{Inport, Outport}
use Rattle.expr_core.specs.Formula.{Formula}
use Rattle.expr_core.specs.Lookup.{Lookup}
use Rattle.expr_core.specs.declared.typed.TypedAtom.{TypedAtom}
use Rattle.expr_eval.specs.MatchMeaning.{holds}
use Rattle.pkt_core.specs.Packet.{Values, value}
use Rattle.sb_rows.specs.declared.asks.Asks.{Asks}
use Rattle.sb_rows.specs.declared.asks.Called.{Called}
use Rattle.sb_rows.specs.declared.asks.Known.{Known}
use Rattle.sb_rows.specs.declared.asks.Part.{Part}
use Rattle.sb_rows.specs.declared.asks.Part.TheVariants.{Anything, Number, Masked}
use Rattle.sb_rows.specs.declared.asks.Ports.{Ports}
use Rattle.sb_rows.specs.declared.asks.Shape.{Shape}
use Rattle.sb_rows.specs.declared.asks.Side.{Side}
use Rattle.sb_rows.specs.declared.asks.Side.TheVariants.{In, Out}

-- the low 64 bits of a number
abbrev pub low : ℕ → ℕ
low number = number % 18446744073709551616

-- The bucket that one more number tells, of 64 bits. Unlike numbers may share one.
abbrev pub mixed : ℕ → ℕ → ℕ
mixed bucket number = low (bucket * 11400714819323198485 + number)

-- the bucket of a name
abbrev pub name_bucket : List ℕ → ℕ
name_bucket name = fold mixed 0 name

-- the bucket of a number of a field
abbrev pub number_bucket : Field → ℕ → ℕ
number_bucket field number = mixed (field_number field) number

-- the bucket of a number of the bits of a mask
abbrev pub masked_bucket : Field → ℕ → ℕ → ℕ
masked_bucket field mask number = mixed (mixed (field_number field) mask) number

-- the number that a packet has there
abbrev pub number_at : Part → Values → ℕ
number_at Anything packet = 0
number_at (Number field) packet = low (value packet field)
number_at (Masked field mask) packet = low (bit_and (value packet field) mask)

-- the bucket of a number there
abbrev pub part_bucket : Part → ℕ → ℕ
part_bucket Anything number = 0
part_bucket (Number field) number = number_bucket field number
part_bucket (Masked field mask) number = masked_bucket field mask number

-- the field of a packet's port
abbrev pub port_field : Side → Field
port_field In = Inport
port_field Out = Outport

-- the port whose name is asked for
abbrev pub side_of : Option (Side × Called) → Option Side
side_of None = None
side_of (Some port) = Some port.0

-- the name that is asked for
abbrev pub name_of : Option (Side × Called) → Option (List ℕ)
name_of None = None
name_of (Some port) = Some port.1.name.now

-- its bucket
abbrev pub port_bucket : Option (Side × Called) → ℕ
port_bucket None = 0
port_bucket (Some port) = port.1.bucket

-- the packet's port has the name
abbrev pub IsNamed : Option (Side × Called) → Lookup → Values → Type 0
IsNamed None net packet = ⊤
IsNamed (Some port) net packet = (net.port port.1.name.now ≡ Some (record { 0 = value packet (port_field port.0) })) × (port.1.bucket ≡ name_bucket port.1.name.now)

-- the packet has what is asked
pub record HasAsked (asks : Asks) (net : Lookup) (packet : Values) : Type 0 where
  pub named : IsNamed asks.port net packet
  pub first : number_at asks.first.part packet ≡ asks.first.number
  pub second : number_at asks.second.part packet ≡ asks.second.number
  pub third : number_at asks.third.part packet ≡ asks.third.number

-- a packet that has what is asked, and of which the match holds, has what is asked then
abbrev pub Adds : Formula TypedAtom → Asks → Asks → Type 0
Adds matching before after = (net : Lookup) (packet : Values) → HasAsked before net packet → holds net packet matching ≡ true → HasAsked after net packet

-- what its bucket is told by
abbrev pub shape_of : Asks → Shape
shape_of asks = record { port = side_of asks.port; first = asks.first.part; second = asks.second.part; third = asks.third.part }

-- the numbers that are asked
abbrev pub numbers_of : Asks → ℕ × ℕ × ℕ
numbers_of asks = (asks.first.number, asks.second.number, asks.third.number)

-- the numbers that a packet has
abbrev pub numbers_at : Shape → Values → ℕ × ℕ × ℕ
numbers_at shape packet = (number_at shape.first packet, number_at shape.second packet, number_at shape.third packet)

-- the bucket of a port's name, by its own, and of numbers, by theirs
abbrev pub joined : ℕ → ℕ → ℕ → ℕ → ℕ
joined name first second third = mixed (mixed (mixed name first) second) third

-- the bucket of a name, by its own, and of numbers, of 63 bits
abbrev pub bucket_by : Shape → ℕ → ℕ × ℕ × ℕ → ℕ
bucket_by shape name numbers = joined name (part_bucket shape.first numbers.0) (part_bucket shape.second numbers.1) (part_bucket shape.third numbers.2) / 2

-- the bucket of what is asked
abbrev pub bucket_of : Asks → ℕ
bucket_of asks = bucket_by (shape_of asks) (port_bucket asks.port) (numbers_of asks)

-- this name and its bucket
abbrev pub IsCalled : Option Called → List ℕ → Type 0
IsCalled None name = ⊥
IsCalled (Some called) name = (called.name.now ≡ name) × (called.bucket ≡ name_bucket name)

-- each name of a packet's port is one of two
abbrev pub AreNames : Side → Ports → Lookup → Values → Type 0
AreNames side ports net packet =
    (name : List ℕ) → net.port name ≡ Some (record { 0 = value packet (port_field side) }) → IsCalled ports.one name ⊎ IsCalled ports.other name

-- what is known of a port, if of one, is of the packet's
abbrev pub IsKnown : Option Known → Lookup → Values → Type 0
IsKnown known net packet = (k : Known) → known ≡ Some k → AreNames k.side k.ports net packet
