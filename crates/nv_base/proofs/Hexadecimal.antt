-- Writing hexadecimal digits from the last to the first, as a loop does.
use Rattle.std.proofs.Common.{◌≡◌, ℕ, suc, ◌+◌, ◌-◌, ◌*◌, ◌/◌, ◌%◌, ◌^◌, ◌<◌, ◌≤◌, Bool, zero, true, false, eqb, List, ◌∷◌, length, drop, set, refl, sym, arith}
use Rattle.std.specs.Fmt.{digits, digits_onto, digit_glyph}
use Rattle.std.proofs.Math.Nat.{pow-succ'}
use Rattle.std.proofs.lemmas.Bool.{eqb-false}
use Rattle.std.proofs.lemmas.Bool.Decides.{eqb_tells}
use Rattle.std.proofs.lemmas.List.{drop-set, drop_all}

-- the digits of n before those from this place on
pub digits_before : ℕ → ℕ → List ℕ → List ℕ
digits_before at n after = digits_onto (at + 30) 16 false n after

pub begins : (n : ℕ) (text : List ℕ) → length text ≡ 34 → digits_before 34 n (drop 34 text) ≡ digits 16 false n
unfolding digits_before digits
begins n text long = rw (drop_all 34 text (omega arith)) refl

step : (at n : ℕ) (after : List ℕ) → 1 ≤ at → 16 ≤ n → digits_before at n after ≡ digits_before (at - 1) (n / 16) (digit_glyph false (n % 16) ∷ after)
unfolding digits_before
step at n after low big =
    let fuel : at + 30 ≡ suc (at - 1 + 30) = omega arith in
    let more : eqb (n / 16) 0 ≡ false = grind (arith, eqb_tells) in
    rw (fuel, more) refl

-- one digit more is written
pub goes_on : (at n : ℕ) (text : List ℕ) → 1 ≤ at → at ≤ length text → 16 ≤ n → digits_before (at - 1) (n / 16) (drop (at - 1) (set text (at - 1) (digit_glyph false (n % 16)))) ≡ digits_before at n (drop at text)
goes_on at n text low long big =
    let place : at - 1 + 1 ≡ at = omega arith in
    rw (drop-set text (at - 1) (digit_glyph false (n % 16)) (omega arith), place) (sym (step at n (drop at text) low big))

-- the first digit is written
pub ends : (at n : ℕ) (text : List ℕ) → 1 ≤ at → at ≤ length text → n < 16 → drop (at - 1) (set text (at - 1) (digit_glyph false n)) ≡ digits_before at n (drop at text)
unfolding digits_before
ends at n text low long small =
    let place : at - 1 + 1 ≡ at = omega arith in
    let fuel : at + 30 ≡ suc (at - 1 + 30) = omega arith in
    let none : n / 16 ≡ 0 = omega arith in
    let all : n % 16 ≡ n = omega arith in
    rw (drop-set text (at - 1) (digit_glyph false n) (omega arith), place, fuel, none, all) refl

-- the last place takes a number below 16
last : (at n : ℕ) → at ≡ 3 → n < 16 ^ (at - 2) → n < 16
last at n e small = let one : at - 2 ≡ 1 = omega arith in let here = rw one at small in omega (arith, here)

not_last : (at n : ℕ) → 3 ≤ at → 16 ≤ n → n < 16 ^ (at - 2) → 3 ≤ at - 1
not_last at n low big small = grind (arith, last)

-- what is left fits in the places that are left
pub fits : (at n : ℕ) → 3 ≤ at → 16 ≤ n → n < 16 ^ (at - 2) → (3 ≤ at - 1) × (n / 16 < 16 ^ (at - 1 - 2))
fits at n low big small =
    let place : at - 2 ≡ suc (at - 1 - 2) = omega (arith, not_last at n low big small) in
    let power : 16 ^ (at - 2) ≡ 16 * 16 ^ (at - 1 - 2) = rw place (pow-succ' 16 (at - 1 - 2)) in
    (not_last at n low big small, omega (arith, power))

-- one digit is too few for a number from 16 on
two : (m n : ℕ) → 1 ≤ m → 16 ≤ n → n < 16 ^ m → 1 ≤ m - 1
two zero n low big small = omega arith
two (suc zero) n low big small = omega arith
two (suc (suc m)) n low big small = omega arith

-- so many hexadecimal digits suffice
pub length-digits_onto-le : (k m n : ℕ) (after : List ℕ) → 1 ≤ m → n < 16 ^ m → length (digits_onto k 16 false n after) ≤ m + length after
length-digits_onto-le zero m n after low small = omega arith
length-digits_onto-le (suc k) m n after low small = by_end (eqb (n / 16) 0) refl (λ more. length-digits_onto-le k (m - 1) (n / 16) (digit_glyph false (n % 16) ∷ after) more.0 more.1)
  where
    by_end : (b : Bool) → eqb (n / 16) 0 ≡ b → ((1 ≤ m - 1) × (n / 16 < 16 ^ (m - 1)) → length (digits_onto k 16 false (n / 16) (digit_glyph false (n % 16) ∷ after)) ≤ m - 1 + suc (length after)) → length (digits_onto (suc k) 16 false n after) ≤ m + length after
    by_end true e rest = rw e (omega arith)
    by_end false e rest =
        let big : 16 ≤ n = omega (arith, eqb-false _ _ e) in
        let same : m + 2 - 2 ≡ m = omega arith in
        let fewer : m + 2 - 1 - 2 ≡ m - 1 = omega arith in
        let room = fits (m + 2) n (omega arith) big (rw same small) in
        let less : n / 16 < 16 ^ (m - 1) = rw (sym fewer) room.1 in
        rw e (omega (arith, rest (two m n low big small, less)))
