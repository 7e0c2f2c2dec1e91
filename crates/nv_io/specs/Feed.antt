-- What clauses see of a source in memory.
use Rattle.std.specs.Prelude.{◌≡◌, ℕ, List, length, take, drop, min, Contains, Result, Ok, Err}
use Rattle.nv_io.specs.Counts.{next_count, count_after}
use Rattle.nv_io.specs.declared.source.SourceFailed.{SourceFailed}

-- a source: the bytes still to come, the count of those given, the most bytes of one take, the numbers of the takes that fail, and the counts of takes and faults
pub record Feed : Type 0 where
  pub left : List ℕ
  pub given : ℕ
  pub piece : ℕ
  pub fail : List ℕ
  pub takes : ℕ
  pub faults : ℕ

-- a source that never fails: the bytes still to come, the count of those given, the most bytes of one take, the count of takes
pub record CleanFeed : Type 0 where
  pub left : List ℕ
  pub given : ℕ
  pub piece : ℕ
  pub takes : ℕ

-- the number of the next take is among those that fail
abbrev pub NextTakeFails : Feed → Type 0
NextTakeFails feed = Contains feed.fail (next_count feed.takes)

-- One take: the source before, what the caller's bytes then hold, the answer, and the source after.
abbrev pub IsTake : Feed → List ℕ → Result ℕ SourceFailed → Feed → Type 0
IsTake old into (Ok n) new =
    (NextTakeFails old → ⊥) × (n ≡ min old.piece (min (length into) (length old.left))) × (take n into ≡ take n old.left)
    × (new ≡ record old { left = drop n old.left; given = count_after old.given n; takes = next_count old.takes })
IsTake old into (Err failed) new = NextTakeFails old × (new ≡ record old { takes = next_count old.takes; faults = next_count old.faults })

-- the same of a source that never fails
abbrev pub IsCleanTake : CleanFeed → List ℕ → Result ℕ SourceFailed → CleanFeed → Type 0
IsCleanTake old into (Ok n) new =
    (n ≡ min old.piece (min (length into) (length old.left))) × (take n into ≡ take n old.left)
    × (new ≡ record old { left = drop n old.left; given = count_after old.given n; takes = next_count old.takes })
IsCleanTake old into (Err failed) new = ⊥
