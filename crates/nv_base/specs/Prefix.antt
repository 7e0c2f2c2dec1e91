use Rattle.std.specs.Prelude.{ℕ, List, ◌∷◌, ◌++◌, Option, Some, None, decimal}
use Rattle.nv_base.specs.declared.ip4.Ip4.{Ip4}
use Rattle.nv_base.specs.Block.{Block}
use Rattle.nv_base.specs.Number.{decimal_of, below}
use Rattle.nv_base.specs.Bytes.{around_first}
use Rattle.nv_base.specs.Ip4.{ip4_of, ip4_text}

-- the prefix of this base and length
abbrev pub block : Ip4 → ℕ → Block
block base len = record { base = base; len = len }

-- the prefix of an address and a length, where there are both
abbrev pub block_of : Option Ip4 → Option ℕ → Option Block
block_of None len = None
block_of (Some base) None = None
block_of (Some base) (Some len) = Some (block base len)

-- the length that a text spells: a decimal 0 to 32
abbrev pub length_of : List ℕ → Option ℕ
length_of text = below 33 (decimal_of text)

-- the prefix of a text by what is around its first `/`: an address and a length, or an address alone
abbrev pub prefix_around : List ℕ → Option (List ℕ × List ℕ) → Option Block
prefix_around text None = block_of (ip4_of text) (Some 32)
prefix_around text (Some parts) = block_of (ip4_of parts.0) (length_of parts.1)

-- the prefix that a text spells
abbrev pub prefix_of : List ℕ → Option Block
prefix_of text = prefix_around text (around_first 47 text)

-- how a prefix is written, always with its length
abbrev pub prefix_text : Block → List ℕ
prefix_text p = ip4_text p.base ++ 47 ∷ decimal p.len
