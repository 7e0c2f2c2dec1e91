-- Numbers of which some bits are replaced fit as many bits as before.
use Rattle.std.proofs.Common.{◌≡◌, ℕ, ◌+◌, ◌-◌, ◌*◌, ◌/◌, ◌%◌, ◌^◌, ◌<◌, ◌≤◌, subst, sym, arith}
use Rattle.std.proofs.Math.Nat.{mod-eq_of_lt}
use Rattle.std.proofs.Math.Pow.{pow_mono}
use Rattle.std.proofs.lemmas.Nat.{pow_below, pow_pos, pow-add, mul-add-lt, mod_below, shr_below}
use Rattle.nv_base.specs.Field.{field_width}
use Rattle.nv_base.specs.declared.field.Field.{Field}
use Rattle.nv_base.specs.declared.field.Field.TheVariants.{Inport}
use Rattle.tr_stage.specs.Part.{replaced}

-- a power of 2 that has at most 128 bits is not cut off
pub power_fits : (count : ℕ) → count < 128 → 2 ^ count % 2 ^ 128 ≡ 2 ^ count
power_fits count near = mod-eq_of_lt (pow_below count 128 near)

pub power_positive : (count : ℕ) → 0 < 2 ^ count
power_positive count = pow_pos count

-- no field is wider than 48 bits
pub width_within : (field : Field) → field_width field ≤ 48
width_within Inport = omega arith
width_within _ = omega arith

-- what fits fewer bits fits more
pub fits_more : (n few many : ℕ) → few ≤ many → n < 2 ^ few → n < 2 ^ many
fits_more n few many more fits = omega (arith, fits, pow_mono more)

-- so do numbers of a field
pub field_fits : (n width : ℕ) → width ≤ 48 → n < 2 ^ width → n < 281474976710656
field_fits n width within fits = omega (arith, fits, pow_mono within)

-- the new bits and those below them
low_fits : (first count old new : ℕ) → new < 2 ^ count → new * 2 ^ first + old % 2 ^ first < 2 ^ (first + count)
low_fits first count old new fits = rw (pow-add 2 first count) (mul-add-lt new (2 ^ first) (old % 2 ^ first) (2 ^ count) fits (mod_below old (2 ^ first) (pow_pos first)))

-- all of them
pub still_fits : (first count width old new : ℕ) → first + count ≤ width → old < 2 ^ width → new < 2 ^ count → replaced first count old new < 2 ^ width
unfolding replaced
still_fits first count width old new within fits new_fits =
    let high = width - (first + count) in
    let all : first + count + high ≡ width = omega (arith, within) in
    let turned : high + (first + count) ≡ width = omega (arith, within) in
    let above = shr_below old high (first + count) (subst (λ n. old < 2 ^ n) (sym turned) fits) in
    subst (λ n. old / 2 ^ (first + count) * 2 ^ (first + count) + (new * 2 ^ first + old % 2 ^ first) < 2 ^ n) all
    (rw (pow-add 2 (first + count) high) (mul-add-lt (old / 2 ^ (first + count)) (2 ^ (first + count)) (new * 2 ^ first + old % 2 ^ first) (2 ^ high) above (low_fits first count old new new_fits)))

pub whole_fits : (first count old new : ℕ) → first + count ≤ 48 → old < 2 ^ 48 → new < 2 ^ count → old / 2 ^ (first + count) * 2 ^ (first + count) + (new * 2 ^ first + old % 2 ^ first) < 2 ^ 48
unfolding replaced
whole_fits first count old new within fits new_fits = still_fits first count 48 old new within fits new_fits
