-- The last address of a network has 32 bits.
use Rattle.std.proofs.Common.{◌≡◌, ℕ, ◌+◌, ◌-◌, ◌*◌, ◌/◌, ◌^◌, ◌<◌, ◌≤◌, arith, sym, ap, ◌∙◌, subst}
use Rattle.std.proofs.lemmas.Nat.{pow_pos, pow-add, shr_below, mul-add-lt}

-- a length and the bits that are left are 32
split_in_two : (len : ℕ) → len ≤ 32 → 2 ^ (32 - len) * 2 ^ len ≡ 2 ^ 32
split_in_two len short =
    let all : (32 - len) + len ≡ 32 = omega arith in
    sym (pow-add 2 (32 - len) len) ∙ ap (λ n. 2 ^ n) all

-- the last address of a network is below 2 to the power of 32
pub last_fits : (base len size : ℕ) → size ≡ 2 ^ (32 - len) → base < 2 ^ 32 → len ≤ 32 → base / size * size + (size - 1) < 2 ^ 32
last_fits base len size is fits short =
    let all : 32 ≡ len + (32 - len) = omega arith in
    let wide : base < 2 ^ (len + (32 - len)) = subst (λ n. base < 2 ^ n) all fits in
    let row : base / 2 ^ (32 - len) < 2 ^ len = shr_below base len (32 - len) wide in
    let last : 2 ^ (32 - len) - 1 < 2 ^ (32 - len) = omega (arith, pow_pos (32 - len)) in
    rw is
    (subst (λ n. base / 2 ^ (32 - len) * 2 ^ (32 - len) + (2 ^ (32 - len) - 1) < n) (split_in_two len short)
    (mul-add-lt (base / 2 ^ (32 - len)) (2 ^ (32 - len)) (2 ^ (32 - len) - 1) (2 ^ len) row last))
