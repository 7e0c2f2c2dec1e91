use Rattle.std.specs.Prelude.{ℕ, ◌==◌, List, map, Option, decimal}
use Rattle.std.specs.Int.{to_be_bytes, w32}
use Rattle.std.specs.List.{slice_split, join_with_byte}
use Rattle.std.specs.Option.{option_map}
use Rattle.nv_base.specs.Bytes.{octet_of, number_of_parts}
use Rattle.nv_base.specs.declared.ip4.Ip4.{Ip4}

-- the address of this number
abbrev pub address : ℕ → Ip4
address n = record { 0 = n }

-- the address that a text spells: four decimals 0 to 255 joined by `.`
abbrev pub ip4_of : List ℕ → Option Ip4
ip4_of text = option_map address (number_of_parts octet_of 4 (slice_split (λ b. b == 46) text))

-- how an address is written
abbrev pub ip4_text : Ip4 → List ℕ
ip4_text a = join_with_byte 46 (map decimal (to_be_bytes w32 a.0))
