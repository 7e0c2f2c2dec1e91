-- The longest constant that a text begins with, and the bytes of constants.
use Rattle.std.proofs.Common.{◌≡◌, ℕ, suc, zero, ◌-◌, ◌<◌, ◌≤◌, min, true, false, ltb, eqb, ◌||◌, List, length, take, Some, None, ap, sym, subst, ◌∙◌, arith, inl, inr}
use Rattle.std.specs.Char.{is_digit, digit_value}
use Rattle.std.specs.List.{list_all, prefix_len}
use Rattle.std.specs.Option.{option_map}
use Rattle.std.proofs.lemmas.Bool.{or_left, or_right, or_cases, lt-ltb, ltb-true, false≢true}
use Rattle.std.proofs.lemmas.List.{length-take-le, take-take}
use Rattle.std.proofs.lemmas.List.Sums.{prefix_len-le-length}
use Rattle.nv_base.specs.Ip4.{ip4_of}
use Rattle.nv_base.specs.Mac.{mac_of}
use Rattle.nv_base.specs.Number.{decimal_of}
use Rattle.expr_core.specs.declared.constant.Const.{Const}
use Rattle.expr_core.specs.declared.constant.Form.TheVariants as form
use Rattle.expr_const.specs.Constant.{or_else, constant_in, constant_of, number_after_0x, longest}
use Rattle.expr_const.specs.inner.Bytes.{is_in_constant}
use Rattle.expr_const.proofs.Choices.{none_from, mapped, first_or_second}
use Rattle.expr_const.proofs.Decimals.{decimal_parts, decimal_length}
use Rattle.expr_const.proofs.Pieces.{weaker}
use Rattle.expr_const.proofs.Shapes.{hexadecimal_parts, mac_digits, mac_length, ip4_digits, ip4_length}
use Rattle.expr_const.proofs.LongestFronts.{NoneBetween, cut, shorter, here}
use Rattle.expr_const.proofs.Runs.{run_ends}

-- what is known of the text of a constant
abbrev pub Spelt : List ℕ → Type 0
Spelt text = (list_all is_in_constant text ≡ true) × (length text ≤ 39)

hexadecimal_byte : (c : ℕ) → is_digit c 16 ≡ true → is_in_constant c ≡ true
hexadecimal_byte c e = or_left _ _ (or_left _ _ (or_left (is_digit c 16) _ e))

decimal_byte : (c : ℕ) → is_digit c 10 ≡ true → is_in_constant c ≡ true
decimal_byte c e = hexadecimal_byte c (more (digit_value c) e)
  where
    more : (n : ℕ) → ltb n 10 ≡ true → ltb n 16 ≡ true
    more n e = lt-ltb n 16 (omega (arith, ltb-true n 10 e))

pub mac_byte : (c : ℕ) → (is_digit c 16 || eqb c 58) ≡ true → is_in_constant c ≡ true
mac_byte c e = elim (or_cases (is_digit c 16) (eqb c 58) e) as (λ _. is_in_constant c ≡ true) [ inl digit ↦ hexadecimal_byte c digit | inr colon ↦ or_right _ (eqb c 58) colon ]

ip4_byte : (c : ℕ) → (is_digit c 10 || eqb c 46) ≡ true → is_in_constant c ≡ true
ip4_byte c e = elim (or_cases (is_digit c 10) (eqb c 46) e) as (λ _. is_in_constant c ≡ true) [ inl digit ↦ decimal_byte c digit | inr dot ↦ or_left _ _ (or_right _ (eqb c 46) dot) ]

decimal_spelt : (text : List ℕ) (v : ℕ) → decimal_of text ≡ Some v → Spelt text
decimal_spelt text v e =
    let parts = decimal_parts text v e in
    (weaker (λ c. is_digit c 10) is_in_constant decimal_byte text parts.1, (decimal_length 39 text v e (omega (arith, parts.3)) (omega arith)).1)

hexadecimal_spelt : (text : List ℕ) (v : ℕ) → number_after_0x text ≡ Some v → Spelt text
hexadecimal_spelt text v e =
    let parts = hexadecimal_parts text v e in
    let digits = weaker (λ c. is_digit c 16) is_in_constant hexadecimal_byte parts.0 parts.3 in
    let P : List ℕ → Type 0 = Spelt in
    subst P (sym parts.1) (digits, omega (arith, parts.2))

mac_spelt : (text : List ℕ) (n : ℕ) → mac_of text ≡ Some n → Spelt text
mac_spelt text n e = (weaker (λ c. is_digit c 16 || eqb c 58) is_in_constant mac_byte text (mac_digits text n e), omega (arith, mac_length text n e))

pub constant_spelt : (text : List ℕ) (c : Const) → constant_of text ≡ Some c → Spelt text
constant_spelt text c e =
    elim (first_or_second (option_map (constant_in form.Dec) (decimal_of text)) (or_else (option_map (constant_in form.Hex) (number_after_0x text)) (or_else (option_map (constant_in form.Mac) (mac_of text)) (option_map (λ a. constant_in form.Ip4 a.0) (ip4_of text)))) c e) as (λ _. Spelt text) [
      | inl d ↦ let value = mapped (constant_in form.Dec) (decimal_of text) c d in decimal_spelt text value.0 value.1
      | inr rest ↦ elim (first_or_second (option_map (constant_in form.Hex) (number_after_0x text)) (or_else (option_map (constant_in form.Mac) (mac_of text)) (option_map (λ a. constant_in form.Ip4 a.0) (ip4_of text))) c rest) as (λ _. Spelt text) [
        | inl h ↦ let value = mapped (constant_in form.Hex) (number_after_0x text) c h in hexadecimal_spelt text value.0 value.1
        | inr rest ↦ elim (first_or_second (option_map (constant_in form.Mac) (mac_of text)) (option_map (λ a. constant_in form.Ip4 a.0) (ip4_of text)) c rest) as (λ _. Spelt text) [
          | inl m ↦ let value = mapped (constant_in form.Mac) (mac_of text) c m in mac_spelt text value.0 value.1
          | inr i ↦ let value = mapped (λ a. constant_in form.Ip4 a.0) (ip4_of text) c i in (weaker (λ c. is_digit c 10 || eqb c 46) is_in_constant ip4_byte text (ip4_digits text value.0 value.1), omega (arith, ip4_length text value.0 value.1))
        ]
      ]
    ]

-- no constant is longer than the run of its bytes among the first 39
no_longer : (text : List ℕ) (k : ℕ) → prefix_len is_in_constant (take (min (length text) 39) text) < k → k ≤ length text → constant_of (take k text) ≡ None
no_longer text k past within = none_from (constant_of (take k text)) (λ c e.
    let spelt = constant_spelt (take k text) c e in
    let long : length (take k text) ≡ k = length-take-le k text within in
    let short : k ≤ min (length text) 39 = omega (arith, spelt.1, long) in
    let room : length (take (min (length text) 39) text) ≡ min (length text) 39 = length-take-le (min (length text) 39) text (omega arith) in
    let beyond : list_all is_in_constant (take k (take (min (length text) 39) text)) ≡ false = run_ends is_in_constant (take (min (length text) 39) text) k 0 past (omega (arith, room, short)) in
    false≢true (sym (subst (λ (xs : List ℕ). list_all is_in_constant xs ≡ false) (take-take k (min (length text) 39) text short) beyond) ∙ spelt.0))

pub begins : (text : List ℕ) (most m : ℕ) → most ≡ min (length text) 39 → m ≡ prefix_len is_in_constant (take most text) → (m ≤ length text) × (longest m text ≡ longest (length text) text)
begins text most m limit is =
    let run : m ≡ prefix_len is_in_constant (take (min (length text) 39) text) = is ∙ ap (λ (n : ℕ). prefix_len is_in_constant (take n text)) limit in
    let room : length (take (min (length text) 39) text) ≡ min (length text) 39 = length-take-le (min (length text) 39) text (omega arith) in
    let within : m ≤ length text = omega (arith, run, room, prefix_len-le-length is_in_constant (take (min (length text) 39) text)) in
    let beyond : NoneBetween m (length text) text = λ k past high. no_longer text k (omega (arith, run, past)) high in
    (within, sym (cut m (length text) text within beyond))

-- one front after the other, from the longest
pub goes_on : (text : List ℕ) (m : ℕ) → 0 < m → None ≡ constant_of (take m text) → longest (m - 1) text ≡ longest m text
goes_on text zero low missing = absurd (omega arith)
goes_on text (suc m) low missing =
    let back : suc m - 1 ≡ m = omega arith in
    rw back (sym (shorter m text (sym missing)))

pub ends : (text : List ℕ) (m : ℕ) (c : Const) → 0 < m → Some c ≡ constant_of (take m text) → Some (c, m) ≡ longest m text
ends text zero c low is = absurd (omega arith)
ends text (suc m) c low is = sym (here m text c (sym is))
