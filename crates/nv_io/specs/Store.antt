-- What clauses see of a sink in memory.
use Rattle.std.specs.Prelude.{◌≡◌, ℕ, ◌-◌, ◌⊎◌, List, ◌++◌, length, take, Contains, min, Result, Ok, Err}
use Rattle.nv_io.specs.Counts.{next_count, count_after}
use Rattle.nv_io.specs.declared.sink.SinkFailed.{SinkFailed}

-- a sink: the bytes put, the most bytes in all, the most bytes of one put, the numbers of the puts that fail, the counts of puts and faults
pub record Store : Type 0 where
  pub kept : List ℕ
  pub room : ℕ
  pub piece : ℕ
  pub fail : List ℕ
  pub puts : ℕ
  pub faults : ℕ

-- the next put fails: its number is among those that fail, or the room is used up
abbrev pub NextPutFails : Store → Type 0
NextPutFails store = Contains store.fail (next_count store.puts) ⊎ (length store.kept ≡ store.room)

-- a sink that keeps no byte: the count of the bytes put, and of the puts
pub record Tally : Type 0 where
  pub total : ℕ
  pub puts : ℕ

-- One put: the sink before, the bytes offered, the answer, and the sink after.
abbrev pub IsPut : Store → List ℕ → Result ℕ SinkFailed → Store → Type 0
IsPut old bytes (Ok n) new =
    (NextPutFails old → ⊥) × (n ≡ min old.piece (min (length bytes) (old.room - length old.kept)))
    × (new ≡ record old { kept = old.kept ++ take n bytes; puts = next_count old.puts })
IsPut old bytes (Err failed) new = NextPutFails old × (new ≡ record old { puts = next_count old.puts; faults = next_count old.faults })

-- the same of a sink that keeps no byte and never fails
abbrev pub IsCountedPut : Tally → List ℕ → Result ℕ SinkFailed → Tally → Type 0
IsCountedPut old bytes (Ok n) new = (n ≡ length bytes) × (new ≡ record { total = count_after old.total n; puts = next_count old.puts })
IsCountedPut old bytes (Err failed) new = ⊥
