-- What is written is read again: numbers.
use Rattle.std.proofs.Common.{◌≡◌, ◌≢◌, ℕ, suc, ◌+◌, ◌/◌, ◌%◌, ◌^◌, ◌<◌, ◌≤◌, Bool, true, false, eqb, List, [], ◌∷◌, ◌++◌, length, get_or, Some, refl, sym, subst, arith, ◌&&◌, zero, inl, inr, length-append, nat_eq, decimal}
use Rattle.std.specs.Char.{is_digit, digit_value}
use Rattle.std.specs.List.{list_all, starts_with}
use Rattle.std.specs.Str.Parse.{digits_value, AllDigits}
use Rattle.std.specs.Fmt.{digits}
use Rattle.std.proofs.lemmas.Bool.{lt-ltb, le-leb}
use Rattle.std.proofs.lemmas.List.{get_or_append_left}
use Rattle.std.proofs.lemmas.Bool.Decides.{eqb_tells}
use Rattle.std.proofs.Math.Nat.{pow-le-pow_right}
use Rattle.std.proofs.lemmas.Int.Digits.{digits_value-lt}
use Rattle.std.proofs.lemmas.Fmt.{decimal_is_IsNumeral_wide, decimal_by_steps_wide, digits_is_IsNumeral}
use Rattle.nv_base.proofs.Hexadecimal.{length-digits_onto-le}
use Rattle.nv_base.specs.Number.{digits_number, has_no_leading_zero, decimal_of, number_of, hexadecimal}

-- two different numbers fail the test
pub differ : (a b : ℕ) → a ≢ b → eqb a b ≡ false
differ a b ne = elim (eqb_tells a b) as (λ _. eqb a b ≡ false) [ inl same ↦ absurd (ne same.1) | inr apart ↦ apart.0 ]

-- a numeral is its number
pub numeral : (radix n : ℕ) (ds : List ℕ) → AllDigits radix ds → digits_value radix ds ≡ n → n < 2 ^ 128 → digits_number radix ds ≡ Some n
numeral radix n ds all is small =
    rw (all_digits radix ds all, is, lt-ltb n (2 ^ 128) small) refl
  where
    all_digits : (radix : ℕ) (ds : List ℕ) → AllDigits radix ds → list_all (λ c. is_digit c radix) ds ≡ true
    all_digits radix [] all = refl
    all_digits radix (c ∷ cs) all = rw (lt-ltb _ _ all.0, all_digits radix cs all.1) refl

-- a first digit other than `0` leads
plain : (ds : List ℕ) → 0 < length ds → 48 < get_or ds 0 0 → has_no_leading_zero ds ≡ true
plain [] long first = absurd (omega arith)
plain (c ∷ []) long first = refl
plain (c ∷ d ∷ ds) long first =
    let two : suc (suc (length ds)) ≢ 1 = λ e. omega arith in
    rw (differ (suc (suc (length ds))) 1 two, lt-ltb 1 (suc (suc (length ds))) (omega arith), differ c 48 (λ e. omega arith)) refl

abbrev StartsPlainly : ℕ → List ℕ → Type 0
StartsPlainly n ds = (0 < length ds) × (0 < n → 48 < get_or ds 0 0)

one_more : (n d : ℕ) (ds : List ℕ) → 10 ≤ n → StartsPlainly (n / 10) ds → StartsPlainly n (ds ++ d ∷ [])
one_more n d ds big before = (omega (arith, length-append ds (d ∷ []), before.0), λ more. rw (get_or_append_left ds (d ∷ []) 0 0 before.0) (before.1 (omega arith)))

starts_plainly : (n : ℕ) → n < 10 ^ 64 → StartsPlainly n (decimal n)
starts_plainly n small = decimal_by_steps_wide StartsPlainly (λ n lt. (omega arith, λ more. omega arith)) (λ n ds big before. one_more n (48 + n % 10) ds big before) n small

-- a decimal has no leading zero
decimal_leads : (n : ℕ) → n < 10 ^ 64 → has_no_leading_zero (decimal n) ≡ true
unfolding digits
decimal_leads zero small = refl
decimal_leads (suc n) small = plain (decimal (suc n)) (starts_plainly (suc n) small).0 ((starts_plainly (suc n) small).1 (omega arith))

pub decimal_is_read : (n : ℕ) → n < 2 ^ 128 → decimal_of (decimal n) ≡ Some n
decimal_is_read n small =
    let wide : n < 10 ^ 64 = omega arith in
    let whole = decimal_is_IsNumeral_wide n wide in
    rw (decimal_leads n wide) (numeral 10 n (decimal n) whole.0.1 whole.1 small)

and_false : (b : Bool) → (b && false) ≡ false
and_false true = refl
and_false false = refl

-- digits do not begin with `0x`
no_mark : (ds : List ℕ) → AllDigits 10 ds → starts_with nat_eq ds (48 ∷ 120 ∷ []) ≡ false
no_mark [] all = refl
no_mark (c ∷ []) all = and_false (eqb 48 c)
no_mark (c ∷ d ∷ ds) all = rw (differ 120 d (λ e. no_digit (subst (λ (x : ℕ). digit_value x < 10) (sym e) all.1.0))) (and_false (eqb 48 c))
  where
    no_digit : digit_value 120 < 10 → ⊥
    no_digit h = omega arith

pub written_decimal : (n : ℕ) → n < 2 ^ 128 → number_of (decimal n) ≡ Some n
written_decimal n small =
    let wide : n < 10 ^ 64 = omega arith in
    rw (no_mark (decimal n) (decimal_is_IsNumeral_wide n wide).0.1) (decimal_is_read n small)

hex_length : (n : ℕ) → n < 2 ^ 128 → length (digits 16 false n) ≤ 32
unfolding digits
hex_length n small = length-digits_onto-le 64 32 n [] (omega arith) (omega arith)

pub written_hexadecimal : (n : ℕ) → n < 2 ^ 128 → number_of (hexadecimal n) ≡ Some n
written_hexadecimal n small =
    let whole = digits_is_IsNumeral 16 false (omega arith) (omega arith) n (omega arith) in
    rw (lt-ltb _ _ whole.0.0, le-leb _ _ (hex_length n small)) (numeral 16 n (digits 16 false n) whole.0.1 whole.1 small)

-- so many digits spell a number that fits
pub each_hexadecimal : (ds : List ℕ) → 0 < length ds → length ds ≤ 32 → AllDigits 16 ds → number_of (48 ∷ 120 ∷ ds) ≡ Some (digits_value 16 ds)
each_hexadecimal ds some few all =
    let most : 16 ^ length ds ≤ 16 ^ 32 = pow-le-pow_right {n = 16} (omega arith) {i = length ds} {j = 32} few in
    let small : digits_value 16 ds < 2 ^ 128 = omega (arith, digits_value-lt 16 ds all, most) in
    rw (lt-ltb _ _ some, le-leb _ _ few) (numeral 16 (digits_value 16 ds) ds all refl small)
