-- A front of an address, with zeros after it, is a smaller address.
use Rattle.std.proofs.Common.{◌≡◌, ℕ, suc, zero, ◌+◌, ◌-◌, ◌/◌, ◌%◌, ◌^◌, ◌<◌, ◌≤◌, List, [], ◌∷◌, ◌++◌, length, take, drop, map, codes, decimal, refl, ap, sym, ◌∙◌, arith, append_assoc, inl, inr}
use Rattle.std.specs.Fmt.{digits}
use Rattle.std.specs.List.{join_with_byte}
use Rattle.std.specs.Int.Digits.{number_from_digits}
use Rattle.std.proofs.Math.Seq.{take-append-add}
use Rattle.std.proofs.lemmas.Bool.{cases_lt}
use Rattle.std.proofs.lemmas.List.{take_all, take-append-le, append-nil}
use Rattle.nv_base.specs.Ip4.{address, ip4_text}
use Rattle.act_parse.proofs.Numerals.{decimal_fronts}
use Rattle.act_parse.proofs.Bytes.{AllLe, from_four, smaller_four}

abbrev text : List ℕ → List ℕ
text os = join_with_byte 46 (map decimal os)

-- as many zeros
abbrev zeros : List ℕ → List ℕ
zeros [] = []
zeros (o ∷ []) = 48 ∷ []
zeros (o ∷ p ∷ ps) = 48 ∷ 46 ∷ zeros (p ∷ ps)

abbrev all_zero : List ℕ → List ℕ
all_zero [] = []
all_zero (o ∷ os) = 0 ∷ all_zero os

zero_text : decimal 0 ≡ 48 ∷ []
unfolding digits
zero_text = refl

zeros_text : (o : ℕ) (os : List ℕ) → zeros (o ∷ os) ≡ text (all_zero (o ∷ os))
zeros_text o [] = sym zero_text
zeros_text o (p ∷ ps) = ap (λ xs. 48 ∷ 46 ∷ xs) (zeros_text p ps) ∙ ap (λ xs. xs ++ 46 ∷ text (all_zero (p ∷ ps))) (sym zero_text)

zeros_less : (os : List ℕ) → AllLe (all_zero os) os
zeros_less [] = tt
zeros_less (o ∷ os) = (omega arith, zeros_less os)

same_less : (os : List ℕ) → AllLe os os
same_less [] = tt
same_less (o ∷ os) = (omega arith, same_less os)

-- each number is that of a byte
abbrev AllBytes : List ℕ → Type 0
AllBytes [] = Unit {0}
AllBytes (o ∷ os) = (o < 256) × AllBytes os

-- a front of a decimal, of one digit or more
some_front : (o k : ℕ) → o < 256 → 0 < k → (m : ℕ) × (take k (decimal o) ≡ decimal m) × (m ≤ o)
some_front o k small some = elim (cases_lt (length (decimal o)) k) as (λ _. (m : ℕ) × (take k (decimal o) ≡ decimal m) × (m ≤ o)) [
  | inl long ↦ (o, take_all k (decimal o) (omega (arith, long)), omega arith)
  | inr short ↦ decimal_fronts o k (omega (arith, small)) some short
]

-- smaller octets, and from where the zeros are taken
abbrev Filled : List ℕ → ℕ → Type 0
Filled os k = (c : ℕ) × (cs : List ℕ) × (j : ℕ) × (take k (text os) ++ drop j (zeros os) ≡ text (c ∷ cs)) × AllLe (c ∷ cs) os

filled : (o : ℕ) (os : List ℕ) (k : ℕ) → AllBytes (o ∷ os) → Filled (o ∷ os) k
filled o os zero bytes = (0, all_zero os, 0, zeros_text o os, zeros_less (o ∷ os))
filled o [] (suc k) bytes =
    let front = some_front o (suc k) bytes.0 (omega arith) in
    (front.0, [], 1, append-nil (take (suc k) (decimal o)) ∙ front.1, (front.2, tt))
filled o (p ∷ ps) (suc k) bytes = elim (cases_lt (length (decimal o)) (suc k)) as (λ _. Filled (o ∷ p ∷ ps) (suc k)) [
  | inl long ↦
      let left = suc k - length (decimal o) - 1 in
      let more = filled p ps left bytes.1 in
      let far : suc k ≡ length (decimal o) + suc left = omega (arith, long) in
      let front : take (suc k) (decimal o ++ 46 ∷ text (p ∷ ps)) ≡ decimal o ++ 46 ∷ take left (text (p ∷ ps)) = ap (λ (n : ℕ). take n (decimal o ++ 46 ∷ text (p ∷ ps))) far ∙ take-append-add (decimal o) (46 ∷ text (p ∷ ps)) (suc left) in (
        o,
        more.0 ∷ more.1,
        suc (suc more.2),
        ap (λ xs. xs ++ drop more.2 (zeros (p ∷ ps))) front ∙ append_assoc (decimal o) (46 ∷ take left (text (p ∷ ps))) (drop more.2 (zeros (p ∷ ps))) ∙ ap (λ xs. decimal o ++ 46 ∷ xs) more.3,
        (omega arith, more.4),
      )
  | inr short ↦
      let front = some_front o (suc k) bytes.0 (omega arith) in (
        front.0,
        all_zero (p ∷ ps),
        1,
        ap (λ xs. xs ++ 46 ∷ zeros (p ∷ ps)) (take-append-le (suc k) (decimal o) (46 ∷ text (p ∷ ps)) short ∙ front.1) ∙ ap (λ xs. decimal front.0 ++ 46 ∷ xs) (zeros_text p ps),
        (front.2, zeros_less (p ∷ ps)),
      )
]

pub address_fronts : (n k : ℕ) → n < 2 ^ 32 → (m : ℕ) × (j : ℕ) × (take k (ip4_text (address n)) ++ drop j (codes "0.0.0.0") ≡ ip4_text (address m)) × (m ≤ n)
address_fronts n k small =
    let part = filled (n / 16777216 % 256) (n / 65536 % 256 ∷ n / 256 % 256 ∷ n % 256 ∷ []) k (omega arith, (omega arith, (omega arith, (omega arith, tt)))) in
    let cs = part.0 ∷ part.1 in
    let fewer = smaller_four cs (n / 16777216 % 256) (n / 65536 % 256) (n / 256 % 256) (n % 256) part.4 (omega arith) (omega arith) (omega arith) (omega arith) in
    (number_from_digits 256 cs, part.2, part.3 ∙ ap text (sym fewer.1), omega (arith, fewer.0, from_four n small))
