-- Powers of 2 within 128 bits and beyond.
use Rattle.std.proofs.Common.{◌≡◌, ℕ, ◌/◌, ◌%◌, ◌^◌, ◌<◌, ◌≤◌, true, nat_lt, sym, arith}
use Rattle.std.proofs.Math.Nat.{div-eq_of_lt, mod-eq_of_lt}
use Rattle.std.proofs.Math.Pow.{pow_mono}
use Rattle.std.proofs.lemmas.Nat.{pow_below, pow_pos}
use Rattle.std.proofs.lemmas.Bool.{lt-ltb}

large : (n count : ℕ) → n < 2 ^ 128 → 128 ≤ count → n < 2 ^ count
large n count fits far = omega (arith, fits, pow_mono far)

-- 128 bits or more are all bits
pub none_left : (n count : ℕ) → n < 2 ^ 128 → 128 ≤ count → 0 ≡ n / 2 ^ count
none_left n count fits far = sym (div-eq_of_lt (large n count fits far))

pub all_left : (n count : ℕ) → n < 2 ^ 128 → 128 ≤ count → n ≡ n % 2 ^ count
all_left n count fits far = sym (mod-eq_of_lt (large n count fits far))

pub is_below : (n count : ℕ) → n < 2 ^ 128 → 128 ≤ count → true ≡ nat_lt n (2 ^ count)
is_below n count fits far = sym (lt-ltb n (2 ^ count) (large n count fits far))

-- a power of 2 that has at most 128 bits is not cut off
pub power_fits : (count : ℕ) → count < 128 → 2 ^ count % 2 ^ 128 ≡ 2 ^ count
power_fits count near = mod-eq_of_lt (pow_below count 128 near)

pub power_positive : (count : ℕ) → 0 < 2 ^ count
power_positive count = pow_pos count

-- what a prefix leaves of 32 bits is at most all of them
pub prefix_power : (k : ℕ) → k ≤ 32 → 2 ^ k ≤ 2 ^ 32
prefix_power k few = pow_mono few
