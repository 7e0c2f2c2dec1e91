use Rattle.std.specs.Prelude.{ℕ, ◌==◌, List, map, Option}
use Rattle.std.specs.List.{slice_split, join_with_byte}
use Rattle.std.specs.Int.{bytes_high_first}
use Rattle.nv_base.specs.Bytes.{pair_of, number_of_parts, pair_text}

-- the number of the MAC that a text spells: six pairs of hexadecimal digits joined by `:`
abbrev pub mac_of : List ℕ → Option ℕ
mac_of text = number_of_parts pair_of 6 (slice_split (λ b. b == 58) text)

-- how the MAC of this number is written
abbrev pub mac_text : ℕ → List ℕ
mac_text n = join_with_byte 58 (map pair_text (bytes_high_first 6 n))
