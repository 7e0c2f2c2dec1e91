-- Which texts spell a constant, of a match or of an action.
use Rattle.std.specs.Prelude.{ℕ, zero, suc, nat_eq, List, take, drop, Option, Some, None, codes, if◌then◌else◌}
use Rattle.std.specs.List.{starts_with}
use Rattle.std.specs.Option.{option_map}
use Rattle.nv_base.specs.Mac.{mac_of}
use Rattle.nv_base.specs.Ip4.{ip4_of}
use Rattle.nv_base.specs.Number.{decimal_of, hexadecimal_of}
use Rattle.expr_core.specs.declared.constant.Const.{Const}
use Rattle.expr_core.specs.declared.constant.Form.{Form}
use Rattle.expr_core.specs.declared.constant.Form.TheVariants as form

-- the first of two that is there
abbrev pub or_else : {T : Type 0} → Option T → Option T → Option T
or_else None second = second
or_else (Some t) second = Some t

-- the constant of this form and number
abbrev pub constant_in : Form → ℕ → Const
constant_in f n = record { form = f; value = n }

-- the number after `0x`
abbrev pub number_after_0x : List ℕ → Option ℕ
number_after_0x text = if starts_with nat_eq text (codes "0x") then hexadecimal_of (drop 2 text) else None

-- the constant that a text spells: in decimal, in hexadecimal, as a MAC or as an address
abbrev pub constant_of : List ℕ → Option Const
constant_of text =
    or_else (option_map (constant_in form.Dec) (decimal_of text))
    (or_else (option_map (constant_in form.Hex) (number_after_0x text))
    (or_else (option_map (constant_in form.Mac) (mac_of text))
    (option_map (λ a. constant_in form.Ip4 a.0) (ip4_of text))))

-- the constant of the longest front of at most so many bytes that spells one, and how many bytes it takes
abbrev pub longest : ℕ → List ℕ → Option (Const × ℕ)
longest zero text = None
longest (suc n) text = or_else (option_map (λ c. (c, suc n)) (constant_of (take (suc n) text))) (longest n text)
