-- The number that a text spells, in decimal or after `0x`, before the other constants.
use Rattle.std.proofs.Common.{◌≡◌, ◌∙◌, ℕ, Bool, true, false, cond, List, Option, Some, None, nat_eq, codes, refl, sym, ap}
use Rattle.std.specs.Char.{is_digit}
use Rattle.std.specs.List.{list_all, starts_with}
use Rattle.std.specs.Option.{option_map}
use Rattle.std.proofs.lemmas.Bool.Decides.{Decides-eqb}
use Rattle.std.proofs.lemmas.Slice.Eq.{starts_is}
use Rattle.nv_base.specs.Ip4.{ip4_of}
use Rattle.nv_base.specs.Mac.{mac_of}
use Rattle.nv_base.specs.Number.{decimal_of, number_of}
use Rattle.expr_core.specs.declared.constant.Const.{Const}
use Rattle.expr_core.specs.declared.constant.Form.TheVariants as form
use Rattle.expr_const.specs.Constant.{or_else, constant_in, constant_of, number_after_0x}
use Rattle.expr_const.proofs.Choices.{or_else_none, or_else_first, or_else_third}
use Rattle.expr_const.proofs.Misses.{no_decimal}

-- what begins with `0x` is no decimal
no_decimal_after_0x : (text : List ℕ) → starts_with nat_eq text (codes "0x") ≡ true → decimal_of text ≡ None
no_decimal_after_0x text marked =
    let parts = (starts_is Decides-eqb text (codes "0x") (starts_with nat_eq text (codes "0x")) refl).0 marked in
    no_decimal text (ap (list_all (λ c. is_digit c 10)) parts)

-- the constant of each form that a text spells
abbrev in_decimal : List ℕ → Option Const
in_decimal text = option_map (constant_in form.Dec) (decimal_of text)

abbrev in_hexadecimal : List ℕ → Option Const
in_hexadecimal text = option_map (constant_in form.Hex) (number_after_0x text)

abbrev as_mac : List ℕ → Option Const
as_mac text = option_map (constant_in form.Mac) (mac_of text)

abbrev as_address : List ℕ → Option Const
as_address text = option_map (λ a. constant_in form.Ip4 a.0) (ip4_of text)

abbrev as_number : List ℕ → Option Const
as_number text = or_else (in_decimal text) (in_hexadecimal text)

-- the number, in the form that its first bytes tell
pub number_form : (text : List ℕ) (b : Bool) → starts_with nat_eq text (codes "0x") ≡ b → as_number text ≡ option_map (constant_in (cond b form.Hex form.Dec)) (number_of text)
number_form text true e = rw (no_decimal_after_0x text e, e) refl
number_form text false e = rw e (or_else_none _)

pub no_number : (text : List ℕ) → None ≡ number_of text → None ≡ as_number text
no_number text none =
    let form = number_form text (starts_with nat_eq text (codes "0x")) refl in
    sym (rw (← none) at form)

-- a number is the constant; where there is none a MAC is, and where there is neither the address
pub constant_is_number : (text : List ℕ) (c : Const) → Some c ≡ as_number text → Some c ≡ constant_of text
constant_is_number text c e = or_else_first (in_decimal text) (in_hexadecimal text) (or_else (as_mac text) (as_address text)) c e

pub constant_is_mac : (text : List ℕ) (c : Const) → None ≡ as_number text → Some c ≡ as_mac text → Some c ≡ constant_of text
constant_is_mac text c none e =
    let third = or_else_third (in_decimal text) (in_hexadecimal text) (or_else (as_mac text) (as_address text)) none in
    ap (λ o. or_else o (as_address text)) e ∙ sym third

pub constant_is_address : (text : List ℕ) (o : Option Const) → None ≡ as_number text → None ≡ as_mac text → o ≡ as_address text → o ≡ constant_of text
constant_is_address text o none no_mac e =
    let third = or_else_third (in_decimal text) (in_hexadecimal text) (or_else (as_mac text) (as_address text)) none in
    e ∙ ap (λ o. or_else o (as_address text)) no_mac ∙ sym third
