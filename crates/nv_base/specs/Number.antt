use Rattle.std.specs.Prelude.{ℕ, ◌^◌, Bool, not, ◌&&◌, ◌||◌, ◌==◌, nat_lt, nat_le, nat_eq, List, ◌++◌, length, drop, slice_index, Option, Some, None, codes, if◌then◌else◌, false}
use Rattle.std.specs.Char.{is_digit}
use Rattle.std.specs.List.{list_all, starts_with}
use Rattle.std.specs.Str.Parse.{digits_value}
use Rattle.std.specs.Fmt.{digits}

-- the number that digits of this base spell, where it is below 2 ^ 128
abbrev pub digits_number : ℕ → List ℕ → Option ℕ
digits_number radix text = if list_all (λ c. is_digit c radix) text && nat_lt (digits_value radix text) (2 ^ 128) then Some (digits_value radix text) else None

-- the text has a first digit, and it is no `0` before others
abbrev pub has_no_leading_zero : List ℕ → Bool
has_no_leading_zero text = (length text == 1) || (nat_lt 1 (length text) && not (slice_index text 0 == 48))

-- the number of a decimal without leading zeros
abbrev pub decimal_of : List ℕ → Option ℕ
decimal_of text = if has_no_leading_zero text then digits_number 10 text else None

-- the number, where it is below the limit
abbrev pub below : ℕ → Option ℕ → Option ℕ
below limit None = None
below limit (Some n) = if nat_lt n limit then Some n else None

-- the number of 1 to 32 hexadecimal digits
abbrev pub hexadecimal_of : List ℕ → Option ℕ
hexadecimal_of text = if nat_lt 0 (length text) && nat_le (length text) 32 then digits_number 16 text else None

-- the number that a text spells: in hexadecimal after `0x`, or in decimal
abbrev pub number_of : List ℕ → Option ℕ
number_of text = if starts_with nat_eq text (codes "0x") then hexadecimal_of (drop 2 text) else decimal_of text

-- how a number is written in hexadecimal: `0x`, and lower case digits without leading zeros
abbrev pub hexadecimal : ℕ → List ℕ
hexadecimal n = codes "0x" ++ digits 16 false n
