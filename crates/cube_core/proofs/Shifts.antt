-- Shifts within 128 bits.
use Rattle.std.proofs.Common.{◌≡◌, ℕ, ◌<◌, ◌≤◌, ◌+◌, ◌-◌, ◌*◌, ◌/◌, ◌%◌, ◌^◌, sym, ap, ◌∙◌, arith, add-zero}
use Rattle.std.proofs.Math.Nat.{mod-eq_of_lt, mul-mod_left, mul_assoc, lt_trans}
use Rattle.std.proofs.lemmas.Nat.{pow-add, pow_pos, pow_below, mod-pow-add, shl-shr, shr_split, mod_below, shl_below}

-- the bits of a number from one on are at most the number
pub from_bit_below : (n bit : ℕ) → n / 2 ^ bit * 2 ^ bit ≤ n
from_bit_below n bit = omega (arith, shr_split n bit)

pub from_bit_fits : (n bit : ℕ) → n < 2 ^ 128 → n / 2 ^ bit * 2 ^ bit % 2 ^ 128 ≡ n / 2 ^ bit * 2 ^ bit
from_bit_fits n bit fits = mod-eq_of_lt (omega (arith, from_bit_below n bit))

-- a number that is placed within a field
pub placed_within : (n low width : ℕ) → low ≤ width → n % 2 ^ (width - low) * 2 ^ low ≡ n * 2 ^ low % 2 ^ width
placed_within n low width within =
    let split : width - low + low ≡ width = omega arith in
    let place = mod-pow-add (n * 2 ^ low) (width - low) low in
    sym (ap (λ w. n * 2 ^ low % 2 ^ w) (sym split) ∙ place
    ∙ ap (λ x. x % 2 ^ (width - low) * 2 ^ low + n * 2 ^ low % 2 ^ low) (shl-shr n low)
    ∙ ap (λ x. n % 2 ^ (width - low) * 2 ^ low + x) (mul-mod_left n (2 ^ low))
    ∙ add-zero (n % 2 ^ (width - low) * 2 ^ low))

-- and beyond it
pub placed_beyond : (n low width : ℕ) → width ≤ low → 0 ≡ n * 2 ^ low % 2 ^ width
placed_beyond n low width beyond =
    let split : low ≡ low - width + width = omega arith in
    sym (ap (λ l. n * 2 ^ l % 2 ^ width) split
    ∙ ap (λ x. n * x % 2 ^ width) (pow-add 2 (low - width) width)
    ∙ ap (λ x. x % 2 ^ width) (sym (mul_assoc n (2 ^ (low - width)) (2 ^ width)))
    ∙ mul-mod_left (n * 2 ^ (low - width)) (2 ^ width))

-- what is placed fits the field, and so many bits
pub placed_below : (n low width : ℕ) → n * 2 ^ low % 2 ^ width < 2 ^ width
placed_below n low width = mod_below (n * 2 ^ low) (2 ^ width) (pow_pos width)

pub shifted_fits : (n low width : ℕ) → low ≤ width → width ≤ 48 → n % 2 ^ (width - low) * 2 ^ low % 2 ^ 128 ≡ n % 2 ^ (width - low) * 2 ^ low
shifted_fits n low width within narrow =
    let below : n % 2 ^ (width - low) * 2 ^ low < 2 ^ (width - low + low) = shl_below (n % 2 ^ (width - low)) (width - low) low (mod_below n (2 ^ (width - low)) (pow_pos (width - low))) in
    mod-eq_of_lt (below_all (width - low + low) (n % 2 ^ (width - low) * 2 ^ low) (omega arith) below)
  where
    below_all : (w m : ℕ) → w < 128 → m < 2 ^ w → m < 2 ^ 128
    below_all w m few fits = lt_trans fits (pow_below w 128 few)

-- so a number that was cut and shifted is placed
pub placed_here : (n low width r : ℕ) → low < width → width ≤ 48 → r ≡ n % 2 ^ (width - low) → r * 2 ^ low % 2 ^ 128 ≡ n * 2 ^ low % 2 ^ width
placed_here n low width r within narrow is =
    ap (λ x. x * 2 ^ low % 2 ^ 128) is ∙ shifted_fits n low width (omega arith) narrow ∙ placed_within n low width (omega arith)
