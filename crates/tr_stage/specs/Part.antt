-- A part of a packet's field that becomes another number.
use Rattle.std.specs.Prelude.{ℕ, ◌+◌, ◌-◌, ◌*◌, ◌/◌, ◌%◌, ◌^◌}
use Rattle.nv_base.specs.declared.field.Field.{Field}
use Rattle.expr_core.specs.declared.part.Bits.{Bits}
use Rattle.expr_core.specs.declared.part.Bits.TheVariants.{Whole, Bit, Range}
use Rattle.pkt_core.specs.Packet.{Values, value, with_value}

-- the number with another one for so many of its bits from the first on: the bits above and below them stay
unfoldable pub replaced : ℕ → ℕ → ℕ → ℕ → ℕ
replaced first count old new = old / 2 ^ (first + count) * 2 ^ (first + count) + (new * 2 ^ first + old % 2 ^ first)

-- the number with another one for these bits
abbrev pub with_bits : Bits → ℕ → ℕ → ℕ
with_bits Whole old new = new
with_bits (Bit n) old new = replaced n 1 old new
with_bits (Range first last) old new = replaced first (last - first + 1) old new

-- the packet with this number for a part of a field
abbrev pub with_part : Values → Field → Bits → ℕ → Values
with_part packet field bits number = with_value packet field (with_bits bits (value packet field) number)
