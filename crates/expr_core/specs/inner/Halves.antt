-- A number of two halves of 64 bits.
use Rattle.std.specs.Prelude.{◌≡◌, ℕ, ◌+◌, ◌*◌, ◌/◌, ◌%◌, ◌^◌, ◌<◌}
use Rattle.std.proofs.Common.{arith}

-- the halves of the number that two halves make
pub halves_back : (high low : ℕ) → low < 2 ^ 64 → ((high * 2 ^ 64 + low) / 2 ^ 64 ≡ high) × ((high * 2 ^ 64 + low) % 2 ^ 64 ≡ low)
halves_back high low h = (omega arith, omega arith)

-- numbers with the same halves are one
pub same_halves : (m n : ℕ) → m / 2 ^ 64 ≡ n / 2 ^ 64 → m % 2 ^ 64 ≡ n % 2 ^ 64 → m ≡ n
same_halves m n high low = omega arith
