use Rattle.std.specs.Prelude.{ℕ, nat_lt, ◌/◌, ◌%◌, ◌&&◌, ◌==◌, List, [], ◌∷◌, length, map, Option, Some, None, is_some, unwrap_or, if◌then◌else◌, false}
use Rattle.std.specs.List.{list_all, position_or_len, before_first, after_first}
use Rattle.std.specs.Int.Digits.{number_from_digits}
use Rattle.std.specs.Fmt.{digit_glyph}
use Rattle.nv_base.specs.Number.{decimal_of, digits_number, below}

-- the byte that a decimal spells
abbrev pub octet_of : List ℕ → Option ℕ
octet_of text = below 256 (decimal_of text)

-- the byte that a pair of hexadecimal digits spells
abbrev pub pair_of : List ℕ → Option ℕ
pair_of text = if length text == 2 then digits_number 16 text else None

-- the number of so many bytes, the highest first, of which each part spells one
abbrev pub number_of_parts : (List ℕ → Option ℕ) → ℕ → List (List ℕ) → Option ℕ
number_of_parts byte count parts = if (length parts == count) && list_all (λ p. is_some (byte p)) parts then Some (number_from_digits 256 (map (λ p. unwrap_or (byte p) 0) parts)) else None

-- what is before and after the first byte of this value, if there is one
abbrev pub around_first : ℕ → List ℕ → Option (List ℕ × List ℕ)
around_first separator text = if nat_lt (position_or_len (λ b. b == separator) text) (length text) then Some (before_first (λ b. b == separator) text, after_first (λ b. b == separator) text) else None

-- a byte as two lower case digits
abbrev pub pair_text : ℕ → List ℕ
pair_text byte = digit_glyph false (byte / 16) ∷ digit_glyph false (byte % 16) ∷ []
