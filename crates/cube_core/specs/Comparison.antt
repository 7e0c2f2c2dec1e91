-- The cubes of a comparison of a part with a number (not from OVN).
use Rattle.std.specs.Prelude.{ℕ, zero, suc, ◌-◌, ◌*◌, ◌/◌, ◌%◌, ◌^◌, ◌==◌, Bool, true, false, List, [], ◌∷◌, ◌++◌, map, bit_and, bit_xor, if◌then◌else◌}
use Rattle.std.specs.List.{filter}
use Rattle.nv_base.specs.declared.field.Field.{Field}
use Rattle.nv_base.specs.Field.{field_width}
use Rattle.expr_core.specs.Width.{part_width}
use Rattle.expr_core.specs.declared.comparison.Rel.{Rel}
use Rattle.expr_core.specs.declared.comparison.Rel.TheVariants.{Eq, Ne, Lt, Le, Gt, Ge}
use Rattle.expr_core.specs.declared.part.Bits.{Bits}
use Rattle.expr_core.specs.declared.part.Bits.TheVariants.{Whole, Bit, Range}
use Rattle.cube_core.specs.declared.cube.Cube.{Cube}
use Rattle.cube_core.specs.Cube.{of_field}

-- the numbers below this one, from the highest
abbrev pub falling : ℕ → List ℕ
falling zero = []
falling (suc n) = n ∷ falling n

-- the number has this bit
abbrev pub has_bit : ℕ → ℕ → Bool
has_bit number bit = number / 2 ^ bit % 2 == 1

-- the bits of a number from this one on
abbrev pub from_bit : ℕ → ℕ → ℕ
from_bit bit number = number / 2 ^ bit * 2 ^ bit

-- the packets whose field agrees with a number in the higher bits of a mask, and has the opposite of this bit
abbrev pub differs_at : Field → ℕ → ℕ → ℕ → Cube
differs_at field mask number bit = of_field field (from_bit bit mask) (bit_xor number (2 ^ bit))

-- the packets whose field, of the bits of a mask, differs from a number first in one of these bits: a cube for each, from the highest
abbrev pub differing : Field → ℕ → ℕ → ℕ → List Cube
differing field mask number bits = map (differs_at field mask number) (filter (has_bit bits) (falling (field_width field)))

-- the first bits in which a number that is in the relation, and is not equal, may differ from this one
abbrev pub first_bits : Rel → ℕ → ℕ → ℕ
first_bits Eq mask number = 0
first_bits Ne mask number = mask
first_bits Lt mask number = bit_and mask number
first_bits Le mask number = bit_and mask number
first_bits Gt mask number = bit_xor mask (bit_and mask number)
first_bits Ge mask number = bit_xor mask (bit_and mask number)

-- whether equal numbers are in the relation
abbrev pub holds_of_equals : Rel → Bool
holds_of_equals Eq = true
holds_of_equals Ne = false
holds_of_equals Lt = false
holds_of_equals Le = true
holds_of_equals Gt = false
holds_of_equals Ge = true

-- the packets whose field, of the bits of a mask, is in the relation to a number
abbrev pub related : Field → ℕ → Rel → ℕ → List Cube
related field mask rel number = differing field mask number (first_bits rel mask number) ++ (if holds_of_equals rel then of_field field mask number ∷ [] else [])

-- the lowest bit of a part
abbrev pub lowest_bit : Bits → ℕ
lowest_bit Whole = 0
lowest_bit (Bit n) = n
lowest_bit (Range first last) = first

-- a part's number at its place in a field of this width
abbrev pub placed : Bits → ℕ → ℕ → ℕ
placed bits width number = number * 2 ^ lowest_bit bits % 2 ^ width

-- the mask of a part, at its place in the field
abbrev pub placed_mask : Bits → ℕ → ℕ → ℕ
placed_mask bits width mask = placed bits width (mask % 2 ^ part_width bits width)

-- every bit of a number
abbrev pub every_bit : ℕ
every_bit = 2 ^ 128 - 1
