-- Which values of `--generate` are accepted, and how they are read.
use Rattle.std.proofs.Common.{◌≡◌, ◌∙◌, ◌&&◌, ◌+◌, ◌-◌, ◌<◌, ◌≤◌, ◌^◌, ℕ, zero, suc, Bool, true, false, List, [], ◌∷◌, ◌++◌, length, get_or, Some, cond, drop, refl, sym, ap, subst, arith, codes, decimal}
use Rattle.std.specs.Prelude.{pos, nat_le, nat_lt}
use Rattle.std.specs.List.{list_all}
use Rattle.std.specs.Char.{digit_value}
use Rattle.std.specs.Str.Parse.{AllDigits, IsNumeral, digits_value, starts_with_minus, without_leading_plus}
use Rattle.std.proofs.lemmas.Bool.{le-leb, lt-ltb, ne_eqb}
use Rattle.std.proofs.lemmas.Fmt.{decimal_is_IsNumeral, first_decimal}
use Rattle.std.proofs.lemmas.Str.Parse.{digit_from_value}
use Rattle.clap.specs.ValueTests.{is_signed_in}
use Rattle.clap.proofs.OnLiterals.{clap_on_literals}
use Rattle.nv_options.specs.Options.{accepts, generate_in}

-- a number of digits alone has no sign
no_sign : (text : List ℕ) → IsNumeral 10 text → (starts_with_minus text ≡ false) × (without_leading_plus text ≡ text)
no_sign [] numeral = absurd (omega (arith, numeral.0))
no_sign (d ∷ ds) numeral =
    let range = digit_from_value d numeral.1.0 in
    (ne_eqb d 45 (λ (e : d ≡ 45). omega (arith, range, e)), ap (λ (b : Bool). drop (cond b 1 0) (d ∷ ds)) (ne_eqb d 43 (λ (e : d ≡ 43). omega (arith, range, e))))

all_digits : (text : List ℕ) → AllDigits 10 text → list_all (λ d. nat_lt (digit_value d) 10) text ≡ true
all_digits [] digits = refl
all_digits (d ∷ ds) digits = rw (lt-ltb (digit_value d) 10 digits.0) (all_digits ds digits.1)

all_true : (a b c d e : Bool) → a ≡ true → b ≡ true → c ≡ true → d ≡ true → e ≡ true → ((a && b) && (c && (d && e))) ≡ true
all_true a b c d e a_is b_is c_is d_is e_is = rw (a_is, b_is, c_is, d_is, e_is) refl

-- a decimal in the range passes
pub decimal_passes : (most n : ℕ) → most ≤ 16000 → 1 ≤ n → n ≤ most → is_signed_in (pos 1) (pos most) (decimal n) ≡ true
decimal_passes most n few low high =
    let numeral = decimal_is_IsNumeral n (omega (arith, few, high)) in
    let signs = no_sign (decimal n) numeral.0 in
    rw (signs.0, signs.1, numeral.1)
    (all_true (nat_lt 0 (length (decimal n))) (list_all (λ d. nat_lt (digit_value d) 10) (decimal n)) (nat_lt n (2 ^ 63)) (nat_le 1 n) (nat_le n most)
    (lt-ltb 0 (length (decimal n)) numeral.0.0) (all_digits (decimal n) numeral.0.1) (lt-ltb n (2 ^ 63) (omega (arith, few, high))) (le-leb 1 n low) (le-leb n most high))

-- a text that passes, after the option's name and `=`
pub joined_accepted : (name text : List ℕ) → is_signed_in (pos 1) (pos 16000) text ≡ true → accepts (name ∷ (codes "--generate=" ++ text) ∷ []) ≡ true
unfolding clap_on_literals
joined_accepted name text e = rw e refl

-- and one beside the other option
pub hops_first : (name hops ports : List ℕ) → is_signed_in (pos 1) (pos 64) hops ≡ true → is_signed_in (pos 1) (pos 16000) ports ≡ true
    → accepts (name ∷ (codes "--hops=" ++ hops) ∷ (codes "--generate=" ++ ports) ∷ []) ≡ true
unfolding clap_on_literals
hops_first name hops ports e f = rw (e, f) refl

pub hops_last : (name hops ports : List ℕ) → is_signed_in (pos 1) (pos 64) hops ≡ true → is_signed_in (pos 1) (pos 16000) ports ≡ true
    → accepts (name ∷ (codes "--generate=" ++ ports) ∷ (codes "--hops=" ++ hops) ∷ []) ≡ true
unfolding clap_on_literals
hops_last name hops ports e f = rw (f, e) refl

-- a text that begins with a digit from 1 on, after the option's name
accepted_at : (name rest : List ℕ) (k : ℕ) → k < 9 → is_signed_in (pos 1) (pos 16000) ((49 + k) ∷ rest) ≡ true → accepts (name ∷ codes "--generate" ∷ ((49 + k) ∷ rest) ∷ []) ≡ true
unfolding clap_on_literals
accepted_at name rest zero low e = rw e refl
accepted_at name rest (suc zero) low e = rw e refl
accepted_at name rest (suc (suc zero)) low e = rw e refl
accepted_at name rest (suc (suc (suc zero))) low e = rw e refl
accepted_at name rest (suc (suc (suc (suc zero)))) low e = rw e refl
accepted_at name rest (suc (suc (suc (suc (suc zero))))) low e = rw e refl
accepted_at name rest (suc (suc (suc (suc (suc (suc zero)))))) low e = rw e refl
accepted_at name rest (suc (suc (suc (suc (suc (suc (suc zero))))))) low e = rw e refl
accepted_at name rest (suc (suc (suc (suc (suc (suc (suc (suc zero)))))))) low e = rw e refl
accepted_at name rest (suc (suc (suc (suc (suc (suc (suc (suc (suc k))))))))) low e = absurd (omega (arith, low))

read_at : (name rest : List ℕ) (k : ℕ) → k < 9 → generate_in (name ∷ codes "--generate" ∷ ((49 + k) ∷ rest) ∷ []) ≡ Some (digits_value 10 ((49 + k) ∷ rest))
unfolding clap_on_literals generate_in
read_at name rest zero low = refl
read_at name rest (suc zero) low = refl
read_at name rest (suc (suc zero)) low = refl
read_at name rest (suc (suc (suc zero))) low = refl
read_at name rest (suc (suc (suc (suc zero)))) low = refl
read_at name rest (suc (suc (suc (suc (suc zero))))) low = refl
read_at name rest (suc (suc (suc (suc (suc (suc zero)))))) low = refl
read_at name rest (suc (suc (suc (suc (suc (suc (suc zero))))))) low = refl
read_at name rest (suc (suc (suc (suc (suc (suc (suc (suc zero)))))))) low = refl
read_at name rest (suc (suc (suc (suc (suc (suc (suc (suc (suc k))))))))) low = absurd (omega (arith, low))

joined_read_at : (name rest : List ℕ) (k : ℕ) → k < 9 → generate_in (name ∷ (codes "--generate=" ++ ((49 + k) ∷ rest)) ∷ []) ≡ Some (digits_value 10 ((49 + k) ∷ rest))
unfolding clap_on_literals generate_in
joined_read_at name rest zero low = refl
joined_read_at name rest (suc zero) low = refl
joined_read_at name rest (suc (suc zero)) low = refl
joined_read_at name rest (suc (suc (suc zero))) low = refl
joined_read_at name rest (suc (suc (suc (suc zero)))) low = refl
joined_read_at name rest (suc (suc (suc (suc (suc zero))))) low = refl
joined_read_at name rest (suc (suc (suc (suc (suc (suc zero)))))) low = refl
joined_read_at name rest (suc (suc (suc (suc (suc (suc (suc zero))))))) low = refl
joined_read_at name rest (suc (suc (suc (suc (suc (suc (suc (suc zero)))))))) low = refl
joined_read_at name rest (suc (suc (suc (suc (suc (suc (suc (suc (suc k))))))))) low = absurd (omega (arith, low))

-- so begins each decimal but 0
record Begins (text : List ℕ) : Type 0 where
  pub k : ℕ
  pub rest : List ℕ
  pub small : k < 9
  pub is : text ≡ (49 + k) ∷ rest

begins : (text : List ℕ) → IsNumeral 10 text → (48 < get_or text 0 0) → Begins text
begins [] numeral first = absurd (omega (arith, numeral.0))
begins (d ∷ ds) numeral first =
    let range = digit_from_value d numeral.1.0 in
    record { k = d - 49; rest = ds; small = omega (arith, range); is = ap (λ (c : ℕ). c ∷ ds) (omega (arith, first)) }

decimal_begins : (n : ℕ) → 1 ≤ n → n ≤ 16000 → Begins (decimal n)
decimal_begins n low high = begins (decimal n) (decimal_is_IsNumeral n (omega (arith, high))).0 (first_decimal n (omega (arith, low)) (omega (arith, high)))

pub apart_is_accepted : (name : List ℕ) (n : ℕ) → 1 ≤ n → n ≤ 16000 → accepts (name ∷ codes "--generate" ∷ decimal n ∷ []) ≡ true
apart_is_accepted name n low high =
    let b = decimal_begins n low high in
    subst (λ text. accepts (name ∷ codes "--generate" ∷ text ∷ []) ≡ true) (sym b.is)
    (accepted_at name b.rest b.k b.small (subst (λ text. is_signed_in (pos 1) (pos 16000) text ≡ true) b.is (decimal_passes 16000 n (omega arith) low high)))

pub apart_is_read : (name : List ℕ) (n : ℕ) → 1 ≤ n → n ≤ 16000 → generate_in (name ∷ codes "--generate" ∷ decimal n ∷ []) ≡ Some n
apart_is_read name n low high =
    let b = decimal_begins n low high in
    subst (λ text. generate_in (name ∷ codes "--generate" ∷ text ∷ []) ≡ Some (digits_value 10 text)) (sym b.is) (read_at name b.rest b.k b.small)
    ∙ ap Some (decimal_is_IsNumeral n (omega (arith, high))).1

pub joined_is_read : (name : List ℕ) (n : ℕ) → 1 ≤ n → n ≤ 16000 → generate_in (name ∷ (codes "--generate=" ++ decimal n) ∷ []) ≡ Some n
joined_is_read name n low high =
    let b = decimal_begins n low high in
    subst (λ text. generate_in (name ∷ (codes "--generate=" ++ text) ∷ []) ≡ Some (digits_value 10 text)) (sym b.is) (joined_read_at name b.rest b.k b.small)
    ∙ ap Some (decimal_is_IsNumeral n (omega (arith, high))).1
