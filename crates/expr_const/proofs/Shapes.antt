-- What the spelling of a constant tells of its bytes and its length.
use Rattle.std.proofs.Common.{◌≡◌, ℕ, ◌<◌, ◌≤◌, Bool, true, false, ltb, leb, eqb, List, [], ◌∷◌, length, Option, Some, None, is_some, ◌||◌, ◌&&◌, refl, ap, subst, arith}
use Rattle.std.specs.Char.{is_digit}
use Rattle.std.specs.List.{list_all, slice_split, join_with_byte}
use Rattle.std.specs.Str.Parse.{digits_value}
use Rattle.std.proofs.lemmas.Bool.{lt-ltb, ltb-true, leb-true, le-leb, eqb-true, and_parts, or_left}
use Rattle.std.proofs.lemmas.Option.{cond_some}
use Rattle.std.proofs.lemmas.List.Splits.{join_with_byte-slice_split}
use Rattle.nv_base.specs.Bytes.{octet_of, pair_of, number_of_parts}
use Rattle.nv_base.specs.Ip4.{address, ip4_of}
use Rattle.nv_base.specs.declared.ip4.Ip4.{Ip4}
use Rattle.nv_base.specs.Mac.{mac_of}
use Rattle.nv_base.specs.Number.{digits_number, decimal_of, below, hexadecimal_of}
use Rattle.expr_const.specs.Constant.{number_after_0x}
use Rattle.expr_const.proofs.Choices.{none_from, guarded, mapped}
use Rattle.expr_const.proofs.Decimals.{decimal_parts, decimal_length}
use Rattle.expr_const.proofs.Pieces.{weaker, joined_all, joined_length_le, joined_length_is}

-- what the parts are that spell bytes
pub split_parts : (byte : List ℕ → Option ℕ) (count c : ℕ) (text : List ℕ) (n : ℕ) → number_of_parts byte count (slice_split (λ b. eqb b c) text) ≡ Some n
    → (parts : List (List ℕ)) × (length parts ≡ count) × (list_all (λ p. is_some (byte p)) parts ≡ true) × (join_with_byte c parts ≡ text)
split_parts byte count c text n e =
    let tests = and_parts _ _ (guarded _ (Some _) n e).0 in
    (slice_split (λ b. eqb b c) text, eqb-true _ _ tests.0, tests.1, join_with_byte-slice_split c text)

there : {T : Type 0} (o : Option T) → is_some o ≡ true → (x : T) × (o ≡ Some x)
there None e = absurd cc
there (Some x) e = (x, refl)

pub below_parts : (limit : ℕ) (o : Option ℕ) (n : ℕ) → below limit o ≡ Some n → (o ≡ Some n) × (n < limit)
below_parts limit None n e = absurd cc
below_parts limit (Some m) n e = let inner = cond_some (ltb m limit) m n e in (ap Some inner.1, rw (← inner.1) (ltb-true _ _ inner.0))

pub digits_parts : (radix : ℕ) (text : List ℕ) (n : ℕ) → digits_number radix text ≡ Some n → list_all (λ c. is_digit c radix) text ≡ true
digits_parts radix text n e = (and_parts _ _ (cond_some _ (digits_value radix text) n e).0).0

pub pair_parts : (p : List ℕ) → is_some (pair_of p) ≡ true → (eqb (length p) 2 ≡ true) × (list_all (λ c. is_digit c 16) p ≡ true)
pair_parts p e =
    let value = there (pair_of p) e in
    let outer = guarded (eqb (length p) 2) (digits_number 16 p) value.0 value.1 in
    (outer.0, digits_parts 16 p value.0 outer.1)

pub octet_parts : (p : List ℕ) → is_some (octet_of p) ≡ true → (ltb 0 (length p) ≡ true) × (leb (length p) 3 ≡ true) × (list_all (λ c. is_digit c 10) p ≡ true)
octet_parts p e =
    let value = there (octet_of p) e in
    let decimal = below_parts 256 (decimal_of p) value.0 value.1 in
    let long = decimal_length 3 p value.0 decimal.0 (omega (arith, decimal.1)) (omega arith) in
    (lt-ltb _ _ long.0, le-leb _ _ long.1, (decimal_parts p value.0 decimal.0).1)

pub mac_length : (text : List ℕ) (n : ℕ) → mac_of text ≡ Some n → length text ≡ 17
mac_length text n e =
    let split = split_parts pair_of 6 58 text n e in
    let long = joined_length_is 2 58 split.0 (weaker _ _ (λ p h. (pair_parts p h).0) split.0 split.2) in
    subst (λ (xs : List ℕ). length xs ≡ 17) split.3 (omega (arith, long, split.1))

pub mac_digits : (text : List ℕ) (n : ℕ) → mac_of text ≡ Some n → list_all (λ c. is_digit c 16 || eqb c 58) text ≡ true
mac_digits text n e =
    let split = split_parts pair_of 6 58 text n e in
    subst (λ (xs : List ℕ). list_all (λ c. is_digit c 16 || eqb c 58) xs ≡ true) split.3
    (joined_all (λ c. is_digit c 16 || eqb c 58) 58 split.0 refl (weaker _ _ (λ p h. weaker _ _ (λ c d. or_left _ _ d) p (pair_parts p h).1) split.0 split.2))

pub ip4_number : (text : List ℕ) (a : Ip4) → ip4_of text ≡ Some a → (n : ℕ) × (number_of_parts octet_of 4 (slice_split (λ b. eqb b 46) text) ≡ Some n)
ip4_number text a e = mapped address (number_of_parts octet_of 4 (slice_split (λ b. eqb b 46) text)) a e

pub ip4_length : (text : List ℕ) (a : Ip4) → ip4_of text ≡ Some a → length text ≤ 15
ip4_length text a e =
    let number = ip4_number text a e in
    let split = split_parts octet_of 4 46 text number.0 number.1 in
    let long = joined_length_le 3 46 split.0 (weaker _ _ (λ p h. (octet_parts p h).1) split.0 split.2) in
    subst (λ (xs : List ℕ). length xs ≤ 15) split.3 (omega (arith, long, split.1))

pub ip4_digits : (text : List ℕ) (a : Ip4) → ip4_of text ≡ Some a → list_all (λ c. is_digit c 10 || eqb c 46) text ≡ true
ip4_digits text a e =
    let number = ip4_number text a e in
    let split = split_parts octet_of 4 46 text number.0 number.1 in
    subst (λ (xs : List ℕ). list_all (λ c. is_digit c 10 || eqb c 46) xs ≡ true) split.3
    (joined_all (λ c. is_digit c 10 || eqb c 46) 46 split.0 refl (weaker _ _ (λ p h. weaker _ _ (λ c d. or_left _ _ d) p (octet_parts p h).2) split.0 split.2))

-- the digits after `0x`
pub hexadecimal_parts : (text : List ℕ) (n : ℕ) → number_after_0x text ≡ Some n → (ds : List ℕ) × (text ≡ 48 ∷ 120 ∷ ds) × (length ds ≤ 32) × (list_all (λ c. is_digit c 16) ds ≡ true)
hexadecimal_parts [] n e = absurd cc
hexadecimal_parts (a ∷ []) n e = absurd (no_mark (eqb 48 a) (guarded _ _ n e).0)
  where
    no_mark : (b : Bool) → (b && false) ≡ true → ⊥
    no_mark true e = absurd cc
    no_mark false e = absurd cc
hexadecimal_parts (a ∷ b ∷ ds) n e =
    let outer = guarded _ (hexadecimal_of ds) n e in
    let mark = and_parts _ _ outer.0 in
    let second = and_parts _ _ mark.1 in
    let inner = guarded _ (digits_number 16 ds) n outer.1 in
    (ds, same (eqb-true 48 a mark.0) (eqb-true 120 b second.0), leb-true _ _ (and_parts _ _ inner.0).1, digits_parts 16 ds n inner.1)
  where
    same : 48 ≡ a → 120 ≡ b → a ∷ b ∷ ds ≡ 48 ∷ 120 ∷ ds
    same e f = rw (e, f) refl

pub ip4_too_long : (text : List ℕ) → 15 < length text → ip4_of text ≡ None
ip4_too_long text long = none_from (ip4_of text) (λ a e. omega (arith, long, ip4_length text a e))

pub mac_not_so_long : (text : List ℕ) → (length text ≡ 17 → ⊥) → mac_of text ≡ None
mac_not_so_long text other = none_from (mac_of text) (λ n e. other (mac_length text n e))
