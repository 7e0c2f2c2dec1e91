-- A front of a MAC, with zeros after it, is a smaller MAC.
use Rattle.std.proofs.Common.{◌≡◌, ℕ, suc, zero, ◌+◌, ◌*◌, ◌/◌, ◌%◌, ◌^◌, ◌<◌, ◌≤◌, false, List, [], ◌∷◌, ◌++◌, take, drop, map, codes, refl, ap, sym, ◌∙◌, arith}
use Rattle.std.specs.List.{join_with_byte}
use Rattle.std.specs.Int.{bytes_high_first}
use Rattle.std.specs.Int.Digits.{number_from_digits}
use Rattle.std.specs.Fmt.{digit_glyph}
use Rattle.std.proofs.Math.Nat.{div-div-eq-div-mul}
use Rattle.nv_base.specs.Bytes.{pair_text}
use Rattle.nv_base.specs.Mac.{mac_text}

-- each number of a list is at most that of the other
abbrev pub AllLe : List ℕ → List ℕ → Type 0
AllLe [] [] = Unit {0}
AllLe (c ∷ cs) (b ∷ bs) = (c ≤ b) × AllLe cs bs
AllLe [] (b ∷ bs) = ⊥
AllLe (c ∷ cs) [] = ⊥

-- the bytes of which so many digits and colons are kept
abbrev cut : List ℕ → ℕ → List ℕ
cut [] k = []
cut (b ∷ bs) zero = 0 ∷ cut bs zero
cut (b ∷ bs) (suc zero) = b / 16 * 16 ∷ cut bs zero
cut (b ∷ bs) (suc (suc zero)) = b ∷ cut bs zero
cut (b ∷ bs) (suc (suc (suc k))) = b ∷ cut bs k

abbrev text : List ℕ → List ℕ
text bs = join_with_byte 58 (map pair_text bs)

-- as many zeros
abbrev zeros : List ℕ → List ℕ
zeros [] = []
zeros (b ∷ []) = 48 ∷ 48 ∷ []
zeros (b ∷ c ∷ cs) = 48 ∷ 48 ∷ 58 ∷ zeros (c ∷ cs)

half : (b : ℕ) → pair_text (b / 16 * 16) ≡ digit_glyph false (b / 16) ∷ 48 ∷ []
half b =
    let high : b / 16 * 16 / 16 ≡ b / 16 = omega arith in
    let low : b / 16 * 16 % 16 ≡ 0 = omega arith in
    ap (λ (d : ℕ). digit_glyph false d ∷ digit_glyph false (b / 16 * 16 % 16) ∷ []) high ∙ ap (λ (d : ℕ). digit_glyph false (b / 16) ∷ digit_glyph false d ∷ []) low

-- a byte before others
before_more : (b c : ℕ) (cs : List ℕ) (k : ℕ) → text (b ∷ cut (c ∷ cs) k) ≡ pair_text b ++ 58 ∷ text (cut (c ∷ cs) k)
before_more b c cs zero = refl
before_more b c cs (suc zero) = refl
before_more b c cs (suc (suc zero)) = refl
before_more b c cs (suc (suc (suc k))) = refl

filled : (bs : List ℕ) (k : ℕ) → take k (text bs) ++ drop k (zeros bs) ≡ text (cut bs k)
filled [] zero = refl
filled [] (suc k) = refl
filled (b ∷ []) zero = refl
filled (b ∷ []) (suc zero) = sym (half b)
filled (b ∷ []) (suc (suc zero)) = refl
filled (b ∷ []) (suc (suc (suc k))) = refl
filled (b ∷ c ∷ cs) zero = ap (λ xs. 48 ∷ 48 ∷ 58 ∷ xs) (filled (c ∷ cs) zero)
filled (b ∷ c ∷ cs) (suc zero) = ap (λ xs. digit_glyph false (b / 16) ∷ 48 ∷ 58 ∷ xs) (filled (c ∷ cs) zero) ∙ ap (λ xs. xs ++ 58 ∷ text (cut (c ∷ cs) zero)) (sym (half b))
filled (b ∷ c ∷ cs) (suc (suc zero)) = ap (λ xs. pair_text b ++ 58 ∷ xs) (filled (c ∷ cs) zero)
filled (b ∷ c ∷ cs) (suc (suc (suc k))) = ap (λ xs. pair_text b ++ 58 ∷ xs) (filled (c ∷ cs) k) ∙ sym (before_more b c cs k)

cut_less : (bs : List ℕ) (k : ℕ) → AllLe (cut bs k) bs
cut_less [] k = tt
cut_less (b ∷ bs) zero = (omega arith, cut_less bs zero)
cut_less (b ∷ bs) (suc zero) = (omega arith, cut_less bs zero)
cut_less (b ∷ bs) (suc (suc zero)) = (omega arith, cut_less bs zero)
cut_less (b ∷ bs) (suc (suc (suc k))) = (omega arith, cut_less bs k)

-- one byte further down
shift : (n a b : ℕ) → 0 < a → b ≡ a * 256 → n / b * 256 + n / a % 256 ≡ n / a
shift n a b low is = rw (is, ← div-div-eq-div-mul n a 256) (omega arith)

-- a number is its bytes
pub from_four : (n : ℕ) → n < 2 ^ 32 → number_from_digits 256 (bytes_high_first 4 n) ≡ n
from_four n small =
    let top : n / 16777216 % 256 ≡ n / 16777216 = omega arith in
    omega (arith, top, shift n 65536 16777216 (omega arith) refl, shift n 256 65536 (omega arith) refl)

from_six : (n : ℕ) → n < 2 ^ 48 → number_from_digits 256 (bytes_high_first 6 n) ≡ n
from_six n small =
    let top : n / 1099511627776 % 256 ≡ n / 1099511627776 = omega arith in
    omega (arith, top, shift n 4294967296 1099511627776 (omega arith) refl, shift n 16777216 4294967296 (omega arith) refl, shift n 65536 16777216 (omega arith) refl, shift n 256 65536 (omega arith) refl)

-- smaller bytes are those of a smaller number
smaller_six : (cs : List ℕ) (p q r s t u : ℕ) → AllLe cs (p ∷ q ∷ r ∷ s ∷ t ∷ u ∷ []) → p < 256 → q < 256 → r < 256 → s < 256 → t < 256 → u < 256
    → (number_from_digits 256 cs ≤ number_from_digits 256 (p ∷ q ∷ r ∷ s ∷ t ∷ u ∷ [])) × (bytes_high_first 6 (number_from_digits 256 cs) ≡ cs)
smaller_six (a ∷ b ∷ c ∷ d ∷ e ∷ f ∷ []) p q r s t u le sp sq sr ss st su =
    let la : a ≤ p = le.0 in
    let lb : b ≤ q = le.1.0 in
    let lc : c ≤ r = le.1.1.0 in
    let ld : d ≤ s = le.1.1.1.0 in
    let le5 : e ≤ t = le.1.1.1.1.0 in
    let lf : f ≤ u = le.1.1.1.1.1.0 in
    let n = number_from_digits 256 (a ∷ b ∷ c ∷ d ∷ e ∷ f ∷ []) in
    let is : n ≡ a * 1099511627776 + b * 4294967296 + c * 16777216 + d * 65536 + e * 256 + f = omega arith in
    let ea : n / 1099511627776 % 256 ≡ a = omega (arith, is, la, lb, lc, ld, le5, lf, sp, sq, sr, ss, st, su) in
    let eb : n / 4294967296 % 256 ≡ b = omega (arith, is, la, lb, lc, ld, le5, lf, sp, sq, sr, ss, st, su) in
    let ec : n / 16777216 % 256 ≡ c = omega (arith, is, la, lb, lc, ld, le5, lf, sp, sq, sr, ss, st, su) in
    let ed : n / 65536 % 256 ≡ d = omega (arith, is, la, lb, lc, ld, le5, lf, sp, sq, sr, ss, st, su) in
    let ee : n / 256 % 256 ≡ e = omega (arith, is, la, lb, lc, ld, le5, lf, sp, sq, sr, ss, st, su) in
    let ef : n % 256 ≡ f = omega (arith, is, la, lb, lc, ld, le5, lf, sp, sq, sr, ss, st, su) in
    (omega (arith, la, lb, lc, ld, le5, lf), six ea eb ec ed ee ef)
  where
    six : {a2 b2 c2 d2 e2 f2 : ℕ} → a2 ≡ a → b2 ≡ b → c2 ≡ c → d2 ≡ d → e2 ≡ e → f2 ≡ f → a2 ∷ b2 ∷ c2 ∷ d2 ∷ e2 ∷ f2 ∷ [] ≡ a ∷ b ∷ c ∷ d ∷ e ∷ f ∷ []
    six g h i j k l = rw (g, h, i, j, k, l) refl
smaller_six [] p q r s t u le sp sq sr ss st su = absurd le
smaller_six (a ∷ []) p q r s t u le sp sq sr ss st su = absurd le.1
smaller_six (a ∷ b ∷ []) p q r s t u le sp sq sr ss st su = absurd le.1.1
smaller_six (a ∷ b ∷ c ∷ []) p q r s t u le sp sq sr ss st su = absurd le.1.1.1
smaller_six (a ∷ b ∷ c ∷ d ∷ []) p q r s t u le sp sq sr ss st su = absurd le.1.1.1.1
smaller_six (a ∷ b ∷ c ∷ d ∷ e ∷ []) p q r s t u le sp sq sr ss st su = absurd le.1.1.1.1.1
smaller_six (a ∷ b ∷ c ∷ d ∷ e ∷ f ∷ g ∷ gs) p q r s t u le sp sq sr ss st su = absurd le.1.1.1.1.1.1

pub smaller_four : (cs : List ℕ) (p q r s : ℕ) → AllLe cs (p ∷ q ∷ r ∷ s ∷ []) → p < 256 → q < 256 → r < 256 → s < 256
    → (number_from_digits 256 cs ≤ number_from_digits 256 (p ∷ q ∷ r ∷ s ∷ [])) × (bytes_high_first 4 (number_from_digits 256 cs) ≡ cs)
smaller_four (a ∷ b ∷ c ∷ d ∷ []) p q r s le sp sq sr ss =
    let la : a ≤ p = le.0 in
    let lb : b ≤ q = le.1.0 in
    let lc : c ≤ r = le.1.1.0 in
    let ld : d ≤ s = le.1.1.1.0 in
    let n = number_from_digits 256 (a ∷ b ∷ c ∷ d ∷ []) in
    let is : n ≡ a * 16777216 + b * 65536 + c * 256 + d = omega arith in
    let ea : n / 16777216 % 256 ≡ a = omega (arith, is, la, lb, lc, ld, sp, sq, sr, ss) in
    let eb : n / 65536 % 256 ≡ b = omega (arith, is, la, lb, lc, ld, sp, sq, sr, ss) in
    let ec : n / 256 % 256 ≡ c = omega (arith, is, la, lb, lc, ld, sp, sq, sr, ss) in
    let ed : n % 256 ≡ d = omega (arith, is, la, lb, lc, ld, sp, sq, sr, ss) in
    (omega (arith, la, lb, lc, ld), four ea eb ec ed)
  where
    four : {a2 b2 c2 d2 : ℕ} → a2 ≡ a → b2 ≡ b → c2 ≡ c → d2 ≡ d → a2 ∷ b2 ∷ c2 ∷ d2 ∷ [] ≡ a ∷ b ∷ c ∷ d ∷ []
    four g h i j = rw (g, h, i, j) refl
smaller_four [] p q r s le sp sq sr ss = absurd le
smaller_four (a ∷ []) p q r s le sp sq sr ss = absurd le.1
smaller_four (a ∷ b ∷ []) p q r s le sp sq sr ss = absurd le.1.1
smaller_four (a ∷ b ∷ c ∷ []) p q r s le sp sq sr ss = absurd le.1.1.1
smaller_four (a ∷ b ∷ c ∷ d ∷ e ∷ es) p q r s le sp sq sr ss = absurd le.1.1.1.1

pub mac_fronts : (n k : ℕ) → n < 2 ^ 48 → (m : ℕ) × (take k (mac_text n) ++ drop k (codes "00:00:00:00:00:00") ≡ mac_text m) × (m ≤ n)
mac_fronts n k small =
    let bs = bytes_high_first 6 n in
    let fewer = smaller_six (cut bs k) (n / 1099511627776 % 256) (n / 4294967296 % 256) (n / 16777216 % 256) (n / 65536 % 256) (n / 256 % 256) (n % 256) (cut_less bs k) (omega arith) (omega arith) (omega arith) (omega arith) (omega arith) (omega arith) in
    (number_from_digits 256 (cut bs k), filled bs k ∙ ap text (sym fewer.1), omega (arith, fewer.0, from_six n small))
