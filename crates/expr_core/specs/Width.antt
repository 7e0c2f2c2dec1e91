-- Bits and masks.
use Rattle.std.specs.Prelude.{ℕ, ◌+◌, ◌-◌, ◌/◌, ◌%◌, ◌^◌, Bool, true, false, ◌&&◌, if◌then◌else◌}
use Rattle.expr_core.specs.declared.constant.Const.{Const}
use Rattle.expr_core.specs.declared.constant.Form.{Form}
use Rattle.expr_core.specs.declared.constant.Form.TheVariants.{Dec, Hex, Mac, Ip4}
use Rattle.expr_core.specs.declared.part.Bits.{Bits}
use Rattle.expr_core.specs.declared.part.Bits.TheVariants.{Whole, Bit, Range}

-- how many bits a part of a field of this width has
abbrev pub part_width : Bits → ℕ → ℕ
part_width Whole width = width
part_width (Bit n) width = 1
part_width (Range first last) width = last - first + 1

-- the number of these bits of a field's number
abbrev pub bits_of : Bits → ℕ → ℕ
bits_of Whole number = number
bits_of (Bit n) number = number / 2 ^ n % 2
bits_of (Range first last) number = number / 2 ^ first % 2 ^ (last - first + 1)

abbrev pub is_decimal : Form → Bool
is_decimal Dec = true
is_decimal _ = false

abbrev pub is_address : Form → Bool
is_address Ip4 = true
is_address _ = false

-- after an address, a decimal is the length of a prefix; all else is a mask
abbrev pub is_prefix : Const → Const → Bool
is_prefix base mask = is_address base.form && is_decimal mask.form

-- the bits that count for a prefix of this length: the first of 32
abbrev pub prefix_mask : ℕ → ℕ
prefix_mask len = 2 ^ 32 - 2 ^ (32 - len)

-- the bits that count
abbrev pub mask_of : Const → Const → ℕ
mask_of base mask = if is_prefix base mask then prefix_mask mask.value else mask.value

-- the numbers that a form spells are below this one
abbrev pub limit : Form → ℕ
limit Dec = 2 ^ 128
limit Hex = 2 ^ 128
limit Mac = 2 ^ 48
limit Ip4 = 2 ^ 32
