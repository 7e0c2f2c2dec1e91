-- Numbers in the bytes of a header (RFC 791, appendix B).
use Rattle.std.specs.Prelude.{ℕ, nat_le, Bool, List, length, drop}
use Rattle.byteorder.specs.Endian.{big_number}

-- the number in so many bytes from a place on, the highest first
abbrev pub number_at : ℕ → ℕ → List ℕ → ℕ
number_at place count bytes = big_number count (drop place bytes)

-- there are so many bytes
abbrev pub has : ℕ → List ℕ → Bool
has count bytes = nat_le count (length bytes)
