-- The bytes that constants are spelled with.
use Rattle.std.specs.Prelude.{ℕ, ◌==◌, ◌||◌, Bool}
use Rattle.std.specs.Char.{is_digit}

-- a hexadecimal digit, `x`, `.` or `:`
abbrev pub is_in_constant : ℕ → Bool
is_in_constant byte = is_digit byte 16 || (byte == 120) || (byte == 46) || (byte == 58)
