-- The fronts of numbers as digits are written: those of smaller numbers.
use Rattle.std.proofs.Common.{◌≡◌, ℕ, suc, zero, ◌+◌, ◌/◌, ◌%◌, ◌^◌, ◌<◌, ◌≤◌, Bool, false, cond, List, [], ◌∷◌, ◌++◌, length, take, refl, ap, sym, ◌∙◌, arith, append_assoc, length-append, decimal, inl, inr}
use Rattle.std.specs.Fmt.{digits, digits_onto, digit_glyph}
use Rattle.std.proofs.lemmas.Bool.{cases_lt, eq-eqb}
use Rattle.nv_base.proofs.RoundTrips.{differ}
use Rattle.std.proofs.lemmas.List.{take_all, take-append-le}
use Rattle.std.proofs.lemmas.Fmt.{decimal_step_wide}

-- a way to write numbers: one digit for small ones, and one more after those of a smaller number
record Numerals (spell : ℕ → List ℕ) (base top : ℕ) (part : ℕ → ℕ) : Type 0 where
  one : (n : ℕ) → n < base → length (spell n) ≡ 1
  last : (n : ℕ) → base ≤ n → n < top → (d : ℕ) × (spell n ≡ spell (part n) ++ d ∷ [])
  falls : (n : ℕ) → base ≤ n → part n < n

fronts : (spell : ℕ → List ℕ) (base top : ℕ) (part : ℕ → ℕ) → Numerals spell base top part → (bound n k : ℕ) → n < bound → n < top → 0 < k → k ≤ length (spell n) → (m : ℕ) × (take k (spell n) ≡ spell m) × (m ≤ n)
fronts spell base top part numerals zero n k within small some le = absurd (omega (arith, within))
fronts spell base top part numerals (suc bound) n k within small some le = elim (cases_lt n base) as (λ _. (m : ℕ) × (take k (spell n) ≡ spell m) × (m ≤ n)) [
  | inl low ↦ (n, take_all k (spell n) (omega (arith, numerals.one n low, some)), omega arith)
  | inr high ↦
      let step = numerals.last n high small in
      let falls = numerals.falls n high in
      elim (cases_lt (length (spell (part n))) k) as (λ _. (m : ℕ) × (take k (spell n) ≡ spell m) × (m ≤ n)) [
        | inl long ↦ (n, take_all k (spell n) (omega (arith, long, ap length step.1, length-append (spell (part n)) (step.0 ∷ []))), omega arith)
        | inr short ↦
            let inner = fronts spell base top part numerals bound (part n) k (omega (arith, falls, within)) (omega (arith, falls, small)) some short in
            (inner.0, ap (take k) step.1 ∙ take-append-le k (spell (part n)) (step.0 ∷ []) short ∙ inner.1, omega (arith, inner.2, falls))
      ]
]

one_digit : (n : ℕ) → n < 10 → length (decimal n) ≡ 1
unfolding digits
one_digit n small = ap (λ (p : Bool). length (cond p (digit_glyph false (n % 10) ∷ []) (digits_onto 63 10 false (n / 10) (digit_glyph false (n % 10) ∷ [])))) (eq-eqb (n / 10) 0 (omega (arith, small)))

decimals : Numerals decimal 10 (10 ^ 64) (λ n. n / 10)
decimals = record { one = one_digit; last = λ n high small. (48 + n % 10, decimal_step_wide n high small); falls = λ n high. omega (arith, high) }

pub decimal_fronts : (n k : ℕ) → n < 2 ^ 128 → 0 < k → k ≤ length (decimal n) → (m : ℕ) × (take k (decimal n) ≡ decimal m) × (m ≤ n)
decimal_fronts n k small some le = fronts decimal 10 (10 ^ 64) (λ n. n / 10) decimals (suc n) n k (omega arith) (omega (arith, small)) some le

-- a number of two digits at most is one digit and another, or one
pub two_digits : (n k : ℕ) → n < 100 → 0 < k → k < length (decimal n) → (d : ℕ) × (d < 10) × (take k (decimal n) ++ (48 + d) ∷ [] ≡ decimal n)
two_digits n k small some less = elim (cases_lt n 10) as (λ _. (d : ℕ) × (d < 10) × (take k (decimal n) ++ (48 + d) ∷ [] ≡ decimal n)) [
  | inl low ↦ absurd (omega (arith, one_digit n low, some, less))
  | inr high ↦
      let step = decimal_step_wide n high (omega (arith, small)) in
      let one = one_digit (n / 10) (omega (arith, small)) in
      let k1 : k ≡ 1 = omega (arith, some, less, one, ap length step, length-append (decimal (n / 10)) ((48 + n % 10) ∷ [])) in
      let front : take k (decimal n) ≡ decimal (n / 10) = ap (take k) step ∙ take-append-le k (decimal (n / 10)) ((48 + n % 10) ∷ []) (omega (arith, k1, one)) ∙ take_all k (decimal (n / 10)) (omega (arith, k1, one)) in
      (n % 10, omega arith, ap (λ xs. xs ++ (48 + n % 10) ∷ []) front ∙ sym step)
]

-- hexadecimal digits
abbrev glyph : ℕ → ℕ
glyph n = digit_glyph false (n % 16)

abbrev onto : ℕ → ℕ → List ℕ → List ℕ
onto k n acc = digits_onto k 16 false n acc

onto_last : (k n : ℕ) (acc : List ℕ) → n < 16 → onto (suc k) n acc ≡ glyph n ∷ acc
onto_last k n acc h = ap (λ (t : Bool). cond t (glyph n ∷ acc) (onto k (n / 16) (glyph n ∷ acc))) (eq-eqb (n / 16) 0 (omega (arith, h)))

onto_next : (k n : ℕ) (acc : List ℕ) → 16 ≤ n → onto (suc k) n acc ≡ onto k (n / 16) (glyph n ∷ acc)
onto_next k n acc h = ap (λ (t : Bool). cond t (glyph n ∷ acc) (onto k (n / 16) (glyph n ∷ acc))) (differ (n / 16) 0 (λ e. omega (arith, h, e)))

onto-append : (k n : ℕ) (acc : List ℕ) → onto k n acc ≡ onto k n [] ++ acc
onto-append zero n acc = refl
onto-append (suc k) n acc = elim (cases_lt n 16) as (λ _. onto (suc k) n acc ≡ onto (suc k) n [] ++ acc) [
  | inl l ↦ onto_last k n acc l ∙ ap (λ x. x ++ acc) (sym (onto_last k n [] l))
  | inr l ↦ onto_next k n acc l ∙ onto-append k (n / 16) (glyph n ∷ acc) ∙ sym (append_assoc (onto k (n / 16) []) (glyph n ∷ []) acc) ∙ ap (λ x. x ++ acc) (sym (onto_next k n [] l ∙ onto-append k (n / 16) (glyph n ∷ [])))
]

-- the limit of digits does not matter once it is large enough
onto_enough : (j k n : ℕ) (acc : List ℕ) → n < 16 ^ suc j → n < 16 ^ suc k → onto (suc j) n acc ≡ onto (suc k) n acc
onto_enough zero k n acc p q = onto_last zero n acc (omega (arith, p)) ∙ sym (onto_last k n acc (omega (arith, p)))
onto_enough (suc j) zero n acc p q = onto_last (suc j) n acc (omega (arith, q)) ∙ sym (onto_last zero n acc (omega (arith, q)))
onto_enough (suc j) (suc k) n acc p q = elim (cases_lt n 16) as (λ _. onto (suc (suc j)) n acc ≡ onto (suc (suc k)) n acc) [
  | inl l ↦ onto_last (suc j) n acc l ∙ sym (onto_last (suc k) n acc l)
  | inr l ↦ onto_next (suc j) n acc l ∙ onto_enough j k (n / 16) (glyph n ∷ acc) (omega (arith, p)) (omega (arith, q)) ∙ sym (onto_next (suc k) n acc l)
]

hex_step : (n : ℕ) → 16 ≤ n → n < 16 ^ 64 → digits 16 false n ≡ digits 16 false (n / 16) ++ glyph n ∷ []
unfolding digits
hex_step n h small = onto_next 63 n [] h ∙ onto_enough 62 63 (n / 16) (glyph n ∷ []) (omega (arith, small)) (omega (arith, small)) ∙ onto-append 64 (n / 16) (glyph n ∷ [])

one_hex : (n : ℕ) → n < 16 → length (digits 16 false n) ≡ 1
unfolding digits
one_hex n small = ap length (onto_last 63 n [] small)

hexadecimals : Numerals (digits 16 false) 16 (16 ^ 64) (λ n. n / 16)
hexadecimals = record { one = one_hex; last = λ n high small. (glyph n, hex_step n high small); falls = λ n high. omega (arith, high) }

pub hex_fronts : (n k : ℕ) → n < 2 ^ 128 → 0 < k → k ≤ length (digits 16 false n) → (m : ℕ) × (take k (digits 16 false n) ≡ digits 16 false m) × (m ≤ n)
hex_fronts n k small some le = fronts (digits 16 false) 16 (16 ^ 64) (λ n. n / 16) hexadecimals (suc n) n k (omega arith) (omega (arith, small)) some le
