-- What a text spells where it spells no constant of the forms before, and what a written constant spells.
use Rattle.std.proofs.Common.{◌≡◌, ℕ, suc, zero, ◌%◌, ◌^◌, ◌<◌, ◌≤◌, Bool, true, false, cond, eqb, ◌&&◌, is_some, List, [], ◌∷◌, ◌++◌, length, take, Some, None, refl, ap, sym, subst, ◌∙◌, arith}
use Rattle.std.specs.Char.{is_digit}
use Rattle.std.specs.List.{All, list_all, join_with_byte, slice_split}
use Rattle.std.specs.Option.{option_map}
use Rattle.std.proofs.lemmas.Bool.{and_parts, and_right, false≢true}
use Rattle.std.proofs.lemmas.List.Folds.{list_all-append}
use Rattle.std.proofs.lemmas.List.Splits.{slice_split_at}
use Rattle.nv_base.specs.Bytes.{octet_of, pair_of, number_of_parts}
use Rattle.nv_base.specs.Ip4.{address, ip4_of, ip4_text}
use Rattle.nv_base.specs.declared.ip4.Ip4.{Ip4}
use Rattle.nv_base.specs.Mac.{mac_of, mac_text}
use Rattle.nv_base.specs.Number.{decimal_of, hexadecimal}
use Rattle.nv_base.proofs.ByteTrips.{written_address, written_mac}
use Rattle.nv_base.proofs.RoundTrips.{decimal_is_read, written_hexadecimal}
use Rattle.expr_core.specs.Text.{number_in}
use Rattle.expr_core.specs.Width.{limit}
use Rattle.expr_core.specs.declared.constant.Form.{Form}
use Rattle.expr_core.specs.declared.constant.Form.TheVariants.{Dec, Hex, Mac, Ip4 as Address}
use Rattle.expr_const.specs.Constant.{constant_in, constant_of, number_after_0x}
use Rattle.expr_const.proofs.Choices.{none_from}
use Rattle.expr_const.proofs.Decimals.{decimal_parts}
use Rattle.expr_const.proofs.Shapes.{split_parts, ip4_number, mac_digits, ip4_digits, ip4_length, mac_not_so_long, hexadecimal_parts}

-- what is between pieces
between : (q : ℕ → Bool) (c : ℕ) (parts : List (List ℕ)) → 2 ≤ length parts → q c ≡ false → list_all q (join_with_byte c parts) ≡ false
between q c [] two fails = absurd (omega arith)
between q c (p ∷ []) two fails = absurd (omega arith)
between q c (p ∷ r ∷ ps) two fails = rw (list_all-append q p (c ∷ join_with_byte c (r ∷ ps)), fails, and_right (list_all q p) false refl) refl

-- a MAC has a byte `:`, and an address a byte `.`
pub mac_fails : (q : ℕ → Bool) (text : List ℕ) (n : ℕ) → q 58 ≡ false → mac_of text ≡ Some n → list_all q text ≡ false
mac_fails q text n fails e = let split = split_parts pair_of 6 58 text n e in subst (λ (xs : List ℕ). list_all q xs ≡ false) split.3 (between q 58 split.0 (omega (arith, split.1)) fails)

pub ip4_fails : (q : ℕ → Bool) (text : List ℕ) (a : Ip4) → q 46 ≡ false → ip4_of text ≡ Some a → list_all q text ≡ false
ip4_fails q text a fails e =
    let number = ip4_number text a e in
    let split = split_parts octet_of 4 46 text number.0 number.1 in
    subst (λ (xs : List ℕ). list_all q xs ≡ false) split.3 (between q 46 split.0 (omega (arith, split.1)) fails)

pub no_decimal : (text : List ℕ) → list_all (λ c. is_digit c 10) text ≡ false → decimal_of text ≡ None
no_decimal text fails = none_from (decimal_of text) (λ v e. false≢true (sym fails ∙ (decimal_parts text v e).1))

-- no byte of these is an `x`
pub no_hexadecimal : (q : ℕ → Bool) (text : List ℕ) → q 120 ≡ false → list_all q text ≡ true → number_after_0x text ≡ None
no_hexadecimal q text fails all = none_from (number_after_0x text) (λ n e.
    let parts = hexadecimal_parts text n e in
    let after = (and_parts (q 48) (q 120 && list_all q parts.0) (subst (λ (xs : List ℕ). list_all q xs ≡ true) parts.1 all)).1 in
    false≢true (sym fails ∙ (and_parts (q 120) (list_all q parts.0) after).0))

-- what is written of a number is the constant
mac_constant : (text : List ℕ) (v : ℕ) → mac_of text ≡ Some v → constant_of text ≡ Some (constant_in Mac v)
mac_constant text v e = rw (no_decimal text (mac_fails (λ c. is_digit c 10) text v refl e), no_hexadecimal _ text refl (mac_digits text v e), e) refl

address_constant : (text : List ℕ) (v : ℕ) → ip4_of text ≡ Some (address v) → constant_of text ≡ Some (constant_in Address v)
address_constant text v e =
    let few : (length text ≡ 17 → ⊥) = λ long. omega (arith, long, ip4_length text (address v) e) in
    rw (no_decimal text (ip4_fails (λ c. is_digit c 10) text (address v) refl e), no_hexadecimal _ text refl (ip4_digits text (address v) e), mac_not_so_long text few, e) refl

-- what is written of a number of a form spells the constant
pub spells : (f : Form) (v : ℕ) → v < limit f → constant_of (number_in f v) ≡ Some (constant_in f v)
spells Dec v small = rw (decimal_is_read v small) refl
spells Hex v small = rw (no_decimal (hexadecimal v) refl, written_hexadecimal v small) refl
spells Mac v small =
    let same : v % 2 ^ 48 ≡ v = omega (arith, small) in
    ap (λ (n : ℕ). constant_of (mac_text n)) same ∙ mac_constant (mac_text v) v (written_mac v small)
spells Address v small =
    let same : v % 2 ^ 32 ≡ v = omega (arith, small) in
    ap (λ (n : ℕ). constant_of (ip4_text (address n))) same ∙ address_constant (ip4_text (address v)) v (written_address v small)

-- an empty part is no byte
empty_part : (d : List ℕ) (more : List (List ℕ)) → number_of_parts octet_of 4 (d ∷ [] ∷ more) ≡ None
empty_part d more = refused (eqb (suc (suc (length more))) 4) (is_some (octet_of d) && false) _ (and_right (is_some (octet_of d)) false refl)
  where
    refused : (a b : Bool) (n : ℕ) → b ≡ false → cond (a && b) (Some n) None ≡ None
    refused a b n e = rw (e, and_right a false refl) refl

empty_after : (rest : List ℕ) (j : ℕ) → (more : List (List ℕ)) × (slice_split (λ b. eqb b 46) (take j (46 ∷ rest)) ≡ [] ∷ more)
empty_after rest zero = ([], refl)
empty_after rest (suc j) = (slice_split (λ b. eqb b 46) (take j rest), refl)

pub no_address : (d rest : List ℕ) (j : ℕ) → All (λ x. eqb x 46 ≡ false) d → ip4_of (d ++ 46 ∷ take j (46 ∷ rest)) ≡ None
no_address d rest j clear =
    let empty = empty_after rest j in
    let parts : slice_split (λ b. eqb b 46) (d ++ 46 ∷ take j (46 ∷ rest)) ≡ d ∷ [] ∷ empty.0 =
    slice_split_at (λ b. eqb b 46) d 46 (take j (46 ∷ rest)) clear refl ∙ ap (λ (ps : List (List ℕ)). d ∷ ps) empty.1 in
    ap (λ (ps : List (List ℕ)). option_map address (number_of_parts octet_of 4 ps)) parts ∙ ap (option_map address) (empty_part d empty.0)
