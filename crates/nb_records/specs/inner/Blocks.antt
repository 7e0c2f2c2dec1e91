-- The blocks of a list of numbers.
use Rattle.std.specs.Prelude.{◌≡◌, ℕ, ◌+◌, ◌<◌, List, [], ◌∷◌, length, take, slice_index_or}
use Rattle.std.specs.List.{flat_map}
use Rattle.nv_base.specs.declared.object.ObjId.{ObjId}
use Rattle.nb_records.specs.declared.numbers.Block.{Block}

-- the numbers of a block
abbrev pub numbers_of : Block → List ObjId
numbers_of block = block.numbers.value.items

-- the numbers of blocks, one block after another
abbrev pub joined : List Block → List ObjId
joined blocks = flat_map numbers_of blocks

-- each block has numbers, and ends after those before it and its own
abbrev pub IsCounted : ℕ → List Block → Type 0
IsCounted before [] = Unit {0}
IsCounted before (block ∷ blocks) = (0 < length (numbers_of block)) × (block.end ≡ before + length (numbers_of block)) × IsCounted block.end blocks

-- a number of the list stands in a block, at a place there
pub record IsFound (blocks : List Block) (at block place : ℕ) : Type 0 where
  pub within : block < length blocks
  pub before : at ≡ length (joined (take block blocks)) + place
  pub inside : (d : Block) → place < length (numbers_of (slice_index_or blocks block d))
