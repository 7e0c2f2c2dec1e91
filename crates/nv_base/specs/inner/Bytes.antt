-- What the reader of bytes answers, by how they are spelled.
use Rattle.std.specs.Prelude.{ℕ, List, Option}
use Rattle.nv_base.specs.Bytes.{octet_of, pair_of}
use Rattle.nv_base.specs.declared.bytes.Spelling.{Spelling}
use Rattle.nv_base.specs.declared.bytes.Spelling.TheVariants.{Decimal, Pair}

-- the byte that a part spells
abbrev pub byte_of : Spelling → List ℕ → Option ℕ
byte_of Decimal = octet_of
byte_of Pair = pair_of
