-- Amounts that are within a bound.
use Rattle.std.specs.Prelude.{ℕ, ◌+◌, ◌*◌, nat_lt, if◌then◌else◌, Option, Some, None}

-- the amount, where it is within the bound
abbrev pub up_to : ℕ → ℕ → Option ℕ
up_to bound amount = if nat_lt bound amount then None else Some amount

-- so many more, each of this amount, where that is known and within the bound
abbrev pub raised : ℕ → Option ℕ → ℕ → ℕ → Option ℕ
raised bound None more times = None
raised bound (Some most) more times = up_to bound (most + more * times)

-- so many more for each of these, where they are told
abbrev pub raised_by : ℕ → Option ℕ → Option ℕ → ℕ → Option ℕ
raised_by bound most None times = None
raised_by bound most (Some more) times = raised bound most more times
