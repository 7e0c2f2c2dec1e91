-- The sum of an IPv4 header (RFC 791, 3.1; RFC 1071).
use Rattle.std.specs.Prelude.{ℕ, ◌+◌, ◌-◌, ◌*◌, ◌/◌, ◌%◌, List, [], ◌∷◌}

-- the sum of the 16-bit words of some bytes
abbrev pub word_sum : List ℕ → ℕ
word_sum [] = 0
word_sum (high ∷ []) = high * 256
word_sum (high ∷ low ∷ bytes) = high * 256 + low + word_sum bytes

-- the sum with what is above its lowest 16 bits added to them
abbrev pub carried : ℕ → ℕ
carried sum = sum % 0x10000 + sum / 0x10000

-- the one's complement of the one's complement sum of the words: of a header of 20 bytes, whose sum carries at most twice
unfoldable pub checksum : List ℕ → ℕ
checksum header = 0xffff - carried (carried (word_sum header))
