-- The bytes that names begin with.
use Rattle.std.specs.Prelude.{ℕ, ◌==◌, ◌||◌, ◌&&◌, Bool, nat_le}

-- a byte from the first to the last
abbrev pub is_between : ℕ → ℕ → ℕ → Bool
is_between first last byte = nat_le first byte && nat_le byte last

-- a letter or `_`
abbrev pub begins_name : ℕ → Bool
begins_name byte = is_between 97 122 byte || is_between 65 90 byte || (byte == 95)
