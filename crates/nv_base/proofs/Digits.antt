-- Reading digits one after the other, as a loop does.
use Rattle.std.proofs.Common.{◌≡◌, ℕ, ◌+◌, ◌*◌, ◌^◌, ◌<◌, ◌≤◌, Bool, true, false, cond, ltb, List, [], ◌∷◌, length, drop, get_or, Option, Some, None, refl, sym, ◌∙◌, subst, arith, ◌&&◌}
use Rattle.std.specs.Char.{is_digit, digit_value}
use Rattle.std.specs.List.{list_all}
use Rattle.std.specs.Str.Parse.{digits_value, digits_value_after, AllDigits}
use Rattle.std.proofs.lemmas.Int.Digits.{digits_value-lt}
use Rattle.std.proofs.Math.Nat.{le-mul_of_pos_right}
use Rattle.std.proofs.lemmas.Bool.{le-ltb, lt-ltb, ltb-true, and_parts}
use Rattle.std.proofs.lemmas.List.{at_drop_more, at_drop_all}
use Rattle.nv_base.proofs.Choices.{chosen}
use Rattle.nv_base.specs.Number.{digits_number}

-- the number of the digits before, and then of these
abbrev pub number_after : ℕ → ℕ → List ℕ → Option ℕ
number_after radix n text = cond (list_all (λ c. is_digit c radix) text && ltb (digits_value_after radix n text) (2 ^ 128)) (Some (digits_value_after radix n text)) None

-- a product by a number from 1 on is no smaller
times-ge : (n radix d : ℕ) → 1 ≤ radix → n ≤ n * radix + d
times-ge n radix d low = omega (arith, le-mul_of_pos_right {m = radix} n low)

-- more digits make no smaller number
digits_value_after-ge : (radix n : ℕ) (cs : List ℕ) → 1 ≤ radix → n ≤ digits_value_after radix n cs
digits_value_after-ge radix n [] low = omega arith
digits_value_after-ge radix n (c ∷ cs) low = omega (arith, times-ge n radix (digit_value c) low, digits_value_after-ge radix (n * radix + digit_value c) cs low)

and_false : (b : Bool) → (b && false) ≡ false
and_false true = refl
and_false false = refl

stops_at : (radix n c : ℕ) (cs : List ℕ) → 1 ≤ radix → 2 ^ 128 ≤ n * radix + digit_value c → number_after radix n (c ∷ cs) ≡ None
stops_at radix n c cs low h =
    let big : 2 ^ 128 ≤ digits_value_after radix n (c ∷ cs) = omega (arith, h, digits_value_after-ge radix (n * radix + digit_value c) cs low) in
    let no : ltb (digits_value_after radix n (c ∷ cs)) (2 ^ 128) ≡ false = le-ltb _ _ big in
    rw (no, and_false) refl

-- a number that is too large ends it
pub stops_at_size : (radix n : ℕ) (text : List ℕ) (i : ℕ) → 1 ≤ radix → i < length text → 2 ^ 128 ≤ n * radix + digit_value (get_or text i 0) → number_after radix n (drop i text) ≡ None
stops_at_size radix n text i low lt h = at_drop_more (number_after radix n) text i 0 lt ∙ stops_at radix n (get_or text i 0) (drop (i + 1) text) low h

-- nothing left
pub ends : (radix n : ℕ) (text : List ℕ) (i : ℕ) → length text ≤ i → n < 2 ^ 128 → number_after radix n (drop i text) ≡ Some n
ends radix n text i le small =
    let no : ltb n (2 ^ 128) ≡ true = lt-ltb _ _ small in
    at_drop_all (number_after radix n) text i le ∙ rw no refl

all_digits : (radix : ℕ) (text : List ℕ) → list_all (λ c. is_digit c radix) text ≡ true → AllDigits radix text
all_digits radix [] all = tt
all_digits radix (c ∷ cs) all = let parts = and_parts _ _ all in (ltb-true _ _ parts.0, all_digits radix cs parts.1)

-- two hexadecimal digits spell a byte
pub pair-lt : (text : List ℕ) (n : ℕ) → length text ≡ 2 → Some n ≡ digits_number 16 text → n < 256
pair-lt text n two e =
    let read = chosen (list_all (λ c. is_digit c 16) text && ltb (digits_value 16 text) (2 ^ 128)) (digits_value 16 text) n (sym e) in
    let digits = all_digits 16 text (and_parts _ _ read.0).0 in
    let small : digits_value 16 text < 16 ^ 2 = subst (λ (k : ℕ). digits_value 16 text < 16 ^ k) two (digits_value-lt 16 text digits) in
    omega (arith, small, read.1)
