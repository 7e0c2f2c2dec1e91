-- What a text in hexadecimal is as a decimal.
use Rattle.std.proofs.Common.{◌≡◌, ◌==◌, ◌≤◌, ℕ, Bool, true, false, not, ◌&&◌, ◌||◌, if◌then◌else◌, List, [], ◌∷◌, Option, None, codes, length, nat_lt, slice_index, refl, sym, ap, arith}
use Rattle.std.specs.Prelude.{nat_eq}
use Rattle.std.specs.List.{starts_with}
use Rattle.std.proofs.lemmas.Bool.{and_parts, eqb-true, ne_eqb}
use Rattle.nv_base.specs.Number.{below, decimal_of, digits_number}

-- it has a `0` before others, so that it is none
tested : (limit : ℕ) (one long zero : Bool) (number : Option ℕ) → one ≡ false → zero ≡ true → None ≡ below limit (if one || (long && not zero) then number else None)
tested limit false true true number more is = refl
tested limit false false true number more is = refl
tested limit true long zero number more is = absurd cc
tested limit false long false number more is = absurd cc

first_is : (text : List ℕ) → starts_with nat_eq text (codes "0x") ≡ true → slice_index text 0 ≡ 48
first_is [] begins = absurd cc
first_is (byte ∷ more) begins = sym (eqb-true 48 byte (and_parts _ _ begins).0)

pub hexadecimal_is_no_decimal : (limit : ℕ) (text : List ℕ) → 2 ≤ length text → starts_with nat_eq text (codes "0x") ≡ true → None ≡ below limit (decimal_of text)
hexadecimal_is_no_decimal limit text long begins =
    tested limit (length text == 1) (nat_lt 1 (length text)) (slice_index text 0 == 48) (digits_number 10 text) (ne_eqb (length text) 1 (λ (e : length text ≡ 1). absurd (omega arith))) (ap (λ byte. byte == 48) (first_is text begins))
