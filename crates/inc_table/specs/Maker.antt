-- How makers count.
use Rattle.std.specs.Prelude.{ℕ, zero, suc, ◌+◌, ◌==◌, if◌then◌else◌}

-- the count after one more; it stays at the last value of 64 bits
abbrev pub one_more : ℕ → ℕ
one_more made = if made == 18446744073709551615 then made else made + 1

-- the count after so many more
abbrev pub more_made : ℕ → ℕ → ℕ
more_made zero made = made
more_made (suc more) made = more_made more (one_more made)
