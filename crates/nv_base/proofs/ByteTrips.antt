-- What is written is read again: numbers that are spelled byte by byte.
use Rattle.std.proofs.Common.{◌≡◌, ℕ, ◌+◌, ◌*◌, ◌/◌, ◌%◌, ◌^◌, ◌<◌, ◌≤◌, false, eqb, List, [], ◌∷◌, Option, Some, refl, ap, ◌∙◌, arith, decimal, inl, inr}
use Rattle.std.specs.Char.{digit_value}
use Rattle.std.specs.List.{All, slice_split, join_with_byte}
use Rattle.std.specs.Int.{bytes_high_first}
use Rattle.std.specs.Int.Digits.{number_from_digits}
use Rattle.std.specs.Str.Parse.{AllDigits}
use Rattle.std.specs.Fmt.{digit_glyph}
use Rattle.std.specs.Option.{option_map}
use Rattle.std.proofs.Math.Nat.{div-div-eq-div-mul}
use Rattle.std.proofs.lemmas.Bool.{cases_lt, lt-ltb, le-ltb, eq-eqb}
use Rattle.std.proofs.lemmas.List.Elements.{All-cons}
use Rattle.std.proofs.lemmas.List.Splits.{slice_split_at, slice_split_none}
use Rattle.std.proofs.lemmas.Fmt.{decimal_is_IsNumeral_wide}
use Rattle.nv_base.specs.Bytes.{octet_of, pair_of, pair_text, number_of_parts}
use Rattle.nv_base.specs.Ip4.{address, ip4_of, ip4_text}
use Rattle.nv_base.specs.Mac.{mac_of, mac_text}
use Rattle.nv_base.proofs.RoundTrips.{differ, numeral, decimal_is_read}

-- no byte of the piece is c
abbrev pub Clear : ℕ → List ℕ → Type 0
Clear c piece = All (λ x. eqb x c ≡ false) piece

abbrev pub AllClear : ℕ → List (List ℕ) → Type 0
AllClear c [] = Unit {0}
AllClear c (piece ∷ pieces) = Clear c piece × AllClear c pieces

-- pieces that are joined are split again
split-join : (c : ℕ) (piece : List ℕ) (pieces : List (List ℕ)) → AllClear c (piece ∷ pieces) → slice_split (λ b. eqb b c) (join_with_byte c (piece ∷ pieces)) ≡ piece ∷ pieces
split-join c piece [] clear = slice_split_none (λ b. eqb b c) piece clear.0
split-join c piece (next ∷ pieces) clear =
    slice_split_at (λ b. eqb b c) piece c (join_with_byte c (next ∷ pieces)) clear.0 (eq-eqb c c refl) ∙ ap (λ (rest : List (List ℕ)). piece ∷ rest) (split-join c next pieces clear.1)

-- one byte further down
shift : (n a b : ℕ) → 0 < a → b ≡ a * 256 → n / b * 256 + n / a % 256 ≡ n / a
shift n a b low is = rw (is, ← div-div-eq-div-mul n a 256) (omega arith)

-- a number is its bytes
from_four : (n : ℕ) → n < 2 ^ 32 → number_from_digits 256 (bytes_high_first 4 n) ≡ n
from_four n small =
    let top : n / 16777216 % 256 ≡ n / 16777216 = omega arith in
    omega (arith, top, shift n 65536 16777216 (omega arith) refl, shift n 256 65536 (omega arith) refl)

from_six : (n : ℕ) → n < 2 ^ 48 → number_from_digits 256 (bytes_high_first 6 n) ≡ n
from_six n small =
    let top : n / 1099511627776 % 256 ≡ n / 1099511627776 = omega arith in
    omega (arith, top, shift n 4294967296 1099511627776 (omega arith) refl, shift n 16777216 4294967296 (omega arith) refl, shift n 65536 16777216 (omega arith) refl, shift n 256 65536 (omega arith) refl)

-- a byte's two digits are read again
glyph_value : (d : ℕ) → d < 16 → digit_value (digit_glyph false d) ≡ d
glyph_value d small = elim (cases_lt d 10) as (λ _. digit_value (digit_glyph false d) ≡ d) [
  | inl lt ↦ rw (lt-ltb d 10 lt, le-ltb (48 + d) 48 (omega arith), lt-ltb (48 + d) 58 (omega arith)) (omega arith)
  | inr ge ↦ rw (le-ltb d 10 ge, le-ltb (87 + d) 48 (omega arith), le-ltb (87 + d) 58 (omega arith), le-ltb (87 + d) 65 (omega arith), le-ltb (87 + d) 91 (omega arith), le-ltb (87 + d) 97 (omega arith), lt-ltb (87 + d) 123 (omega arith)) (omega arith)
]

glyph_differs : (d : ℕ) → d < 16 → eqb (digit_glyph false d) 58 ≡ false
glyph_differs d small = elim (cases_lt d 10) as (λ _. eqb (digit_glyph false d) 58 ≡ false) [
  | inl lt ↦ rw (lt-ltb d 10 lt) (differ (48 + d) 58 (λ e. omega arith))
  | inr ge ↦ rw (le-ltb d 10 ge) (differ (87 + d) 58 (λ e. omega arith))
]

pair_is_read : (b : ℕ) → b < 256 → pair_of (pair_text b) ≡ Some b
pair_is_read b small =
    let high : digit_value (digit_glyph false (b / 16)) ≡ b / 16 = glyph_value (b / 16) (omega arith) in
    let low : digit_value (digit_glyph false (b % 16)) ≡ b % 16 = glyph_value (b % 16) (omega arith) in
    numeral 16 b (pair_text b) (omega (arith, high), (omega (arith, low), tt)) (omega (arith, high, low)) (omega arith)

pair_is_clear : (b : ℕ) → b < 256 → Clear 58 (pair_text b)
pair_is_clear b small = All-cons (λ x. eqb x 58 ≡ false) _ (digit_glyph false (b % 16) ∷ []) (glyph_differs (b / 16) (omega arith)) (All-cons (λ x. eqb x 58 ≡ false) _ [] (glyph_differs (b % 16) (omega arith)) (λ k d h. absurd (omega arith)))

octet_is_read : (b : ℕ) → b < 256 → octet_of (decimal b) ≡ Some b
octet_is_read b small = rw (decimal_is_read b (omega arith), lt-ltb b 256 small) refl

digits_are_clear : (c : ℕ) (ds : List ℕ) → 10 ≤ digit_value c → AllDigits 10 ds → Clear c ds
digits_are_clear c [] other all = λ k d h. absurd (omega arith)
digits_are_clear c (d ∷ ds) other all = All-cons (λ x. eqb x c ≡ false) d ds (differ d c (λ e. omega (arith, ap digit_value e, all.0))) (digits_are_clear c ds other all.1)

pub decimal_is_clear : (c n : ℕ) → 10 ≤ digit_value c → n < 2 ^ 64 → Clear c (decimal n)
decimal_is_clear c n other small = digits_are_clear c (decimal n) other (decimal_is_IsNumeral_wide n (omega arith)).0.1

four : (byte : List ℕ → Option ℕ) (p q r s : List ℕ) (a b c d : ℕ) → byte p ≡ Some a → byte q ≡ Some b → byte r ≡ Some c → byte s ≡ Some d → number_of_parts byte 4 (p ∷ q ∷ r ∷ s ∷ []) ≡ Some (number_from_digits 256 (a ∷ b ∷ c ∷ d ∷ []))
four byte p q r s a b c d e f g h = rw (e, f, g, h) refl

six : (byte : List ℕ → Option ℕ) (p q r s t u : List ℕ) (a b c d i j : ℕ) → byte p ≡ Some a → byte q ≡ Some b → byte r ≡ Some c → byte s ≡ Some d → byte t ≡ Some i → byte u ≡ Some j
    → number_of_parts byte 6 (p ∷ q ∷ r ∷ s ∷ t ∷ u ∷ []) ≡ Some (number_from_digits 256 (a ∷ b ∷ c ∷ d ∷ i ∷ j ∷ []))
six byte p q r s t u a b c d i j e f g h k l = rw (e, f, g, h, k, l) refl

pub written_address : (n : ℕ) → n < 2 ^ 32 → ip4_of (ip4_text (address n)) ≡ Some (address n)
written_address n small =
    let clear : (b : ℕ) → b < 256 → Clear 46 (decimal b) = λ b lt. decimal_is_clear 46 b (omega arith) (omega arith) in
    let split = split-join 46 (decimal (n / 16777216 % 256)) (decimal (n / 65536 % 256) ∷ decimal (n / 256 % 256) ∷ decimal (n % 256) ∷ []) (clear (n / 16777216 % 256) (omega arith), (clear (n / 65536 % 256) (omega arith), (clear (n / 256 % 256) (omega arith), (clear (n % 256) (omega arith), tt)))) in
    let bytes = four octet_of (decimal (n / 16777216 % 256)) (decimal (n / 65536 % 256)) (decimal (n / 256 % 256)) (decimal (n % 256)) (n / 16777216 % 256) (n / 65536 % 256) (n / 256 % 256) (n % 256) (octet_is_read (n / 16777216 % 256) (omega arith)) (octet_is_read (n / 65536 % 256) (omega arith)) (octet_is_read (n / 256 % 256) (omega arith)) (octet_is_read (n % 256) (omega arith)) in
    ap (λ (parts : List (List ℕ)). option_map address (number_of_parts octet_of 4 parts)) split ∙ ap (option_map address) bytes ∙ ap (λ (m : ℕ). Some (address m)) (from_four n small)

pub written_mac : (n : ℕ) → n < 2 ^ 48 → mac_of (mac_text n) ≡ Some n
written_mac n small =
    let split = split-join 58 (pair_text (n / 1099511627776 % 256)) (pair_text (n / 4294967296 % 256) ∷ pair_text (n / 16777216 % 256) ∷ pair_text (n / 65536 % 256) ∷ pair_text (n / 256 % 256) ∷ pair_text (n % 256) ∷ []) (pair_is_clear (n / 1099511627776 % 256) (omega arith), (pair_is_clear (n / 4294967296 % 256) (omega arith), (pair_is_clear (n / 16777216 % 256) (omega arith), (pair_is_clear (n / 65536 % 256) (omega arith), (pair_is_clear (n / 256 % 256) (omega arith), (pair_is_clear (n % 256) (omega arith), tt)))))) in
    let bytes = six pair_of (pair_text (n / 1099511627776 % 256)) (pair_text (n / 4294967296 % 256)) (pair_text (n / 16777216 % 256)) (pair_text (n / 65536 % 256)) (pair_text (n / 256 % 256)) (pair_text (n % 256)) (n / 1099511627776 % 256) (n / 4294967296 % 256) (n / 16777216 % 256) (n / 65536 % 256) (n / 256 % 256) (n % 256) (pair_is_read (n / 1099511627776 % 256) (omega arith)) (pair_is_read (n / 4294967296 % 256) (omega arith)) (pair_is_read (n / 16777216 % 256) (omega arith)) (pair_is_read (n / 65536 % 256) (omega arith)) (pair_is_read (n / 256 % 256) (omega arith)) (pair_is_read (n % 256) (omega arith)) in
    ap (λ (parts : List (List ℕ)). number_of_parts pair_of 6 parts) split ∙ bytes ∙ ap (λ (m : ℕ). Some m) (from_six n small)
