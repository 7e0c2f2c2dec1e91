-- Counts of calls, of faults and of bytes. A `u64` may keep one, so a count that is said to rise stays at the last value.
use Rattle.std.specs.Prelude.{◌≡◌, ℕ, ◌+◌, ◌<◌, ◌⊎◌, min, max, nat_lt, if◌then◌else◌}

-- the last value of a count
abbrev pub last_count : ℕ
last_count = 18446744073709551615

-- a count after one call more
abbrev pub next_count : ℕ → ℕ
next_count n = if nat_lt n last_count then n + 1 else n

-- a count after n more: it grows to the last value at most
abbrev pub count_after : ℕ → ℕ → ℕ
count_after count n = max count (min (count + n) last_count)

-- a count of faults rose: it is greater, or it was at the last value and still is
abbrev pub Rose : ℕ → ℕ → Type 0
Rose old new = (old < new) ⊎ ((old ≡ last_count) × (new ≡ last_count))
