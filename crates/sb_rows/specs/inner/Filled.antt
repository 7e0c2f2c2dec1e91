-- Places after their buckets.
use Rattle.std.specs.Prelude.{◌≡◌, ◌≤◌, ℕ, List, true, false, length, ltb}
use Rattle.std.specs.List.{AllWithin}
use Rattle.std.specs.Ordering.{nat_cmp, ordering_then}
use Rattle.std.specs.declared.cmp.Ordering.{Ordering}

-- the order of pairs of numbers
abbrev pub pair_cmp : ℕ × ℕ → ℕ × ℕ → Ordering
pair_cmp x y = ordering_then (nat_cmp x.0 y.0) (nat_cmp x.1 y.1)

-- before a place all buckets are lower, and from another one on none is
abbrev pub IsTurnBetween : List (ℕ × ℕ) → ℕ → ℕ → ℕ → Type 0
IsTurnBetween xs bucket low high = AllWithin (λ x. ltb x.0 bucket ≡ true) xs 0 low × AllWithin (λ x. ltb x.0 bucket ≡ false) xs high (length xs) × (low ≤ high) × (high ≤ length xs)
