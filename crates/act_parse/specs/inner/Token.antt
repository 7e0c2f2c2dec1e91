-- What single words, numbers, addresses and names are in the action language.
use Rattle.std.specs.Prelude.{ℕ, ◌^◌, ◌==◌, ◌||◌, ◌&&◌, not, Bool, nat_lt, nat_le, nat_eq, List, length, take, drop, Option, Some, None, if◌then◌else◌}
use Rattle.std.specs.List.{prefix_len}
use Rattle.std.specs.Cmp.Lexicographic.{pointwise}
use Rattle.nv_base.specs.Name.{is_quotable}
use Rattle.nv_base.specs.Ip4.{address}
use Rattle.nv_base.specs.declared.ip4.Ip4.{Ip4}
use Rattle.expr_core.specs.Text.{const_text}
use Rattle.expr_core.specs.Width.{is_decimal, is_address}
use Rattle.expr_core.specs.declared.constant.Const.{Const}
use Rattle.expr_const.specs.Constant.{constant_of}

-- a byte from the first to the last
abbrev pub is_between : ℕ → ℕ → ℕ → Bool
is_between first last byte = nat_le first byte && nat_le byte last

-- a letter or `_`
abbrev pub begins_word : ℕ → Bool
begins_word byte = is_between 97 122 byte || is_between 65 90 byte || (byte == 95)

-- a letter, a digit, `_` or `.`
abbrev pub is_in_word : ℕ → Bool
is_in_word byte = begins_word byte || is_between 48 57 byte || (byte == 46)

-- the longest front of which each byte passes the test
abbrev pub run : (ℕ → Bool) → List ℕ → List ℕ
run inside text = take (prefix_len inside text) text

-- what follows that front
abbrev pub after_run : (ℕ → Bool) → List ℕ → List ℕ
after_run inside text = drop (prefix_len inside text) text

-- the longest word that the text begins with
abbrev pub word : List ℕ → List ℕ
word text = run is_in_word text

-- what follows that word
abbrev pub after_word : List ℕ → List ℕ
after_word text = after_run is_in_word text

-- a decimal digit
abbrev pub is_in_decimal : ℕ → Bool
is_in_decimal byte = is_between 48 57 byte

-- a digit or `.`
abbrev pub is_in_address : ℕ → Bool
is_in_address byte = is_in_decimal byte || (byte == 46)

-- a byte of a constant or of the name of a field
abbrev pub is_in_value : ℕ → Bool
is_in_value byte = is_in_word byte || (byte == 58)

-- a byte before the double quote that ends a name
abbrev pub is_in_name : ℕ → Bool
is_in_name byte = not (byte == 34)

-- the text begins with these bytes
abbrev pub is_at : List ℕ → List ℕ → Bool
is_at token text = pointwise nat_eq (take (length token) text) token

-- the constant, where it is written so
abbrev pub as_written : List ℕ → Option Const → Option Const
as_written text None = None
as_written text (Some c) = if pointwise nat_eq text (const_text c) then Some c else None

-- the constant that is written so
abbrev pub constant : List ℕ → Option Const
constant text = as_written text (constant_of text)

-- the decimal that is written so, if it is not below the first and below the limit
abbrev pub decimal_within : ℕ → ℕ → Option Const → Option ℕ
decimal_within first limit None = None
decimal_within first limit (Some c) = if is_decimal c.form && (nat_le first c.value && nat_lt c.value limit) then Some c.value else None

abbrev pub decimal_of : ℕ → ℕ → List ℕ → Option ℕ
decimal_of first limit text = decimal_within first limit (constant text)

-- the address that is written so
abbrev pub address_from : Option Const → Option Ip4
address_from None = None
address_from (Some c) = if is_address c.form && nat_lt c.value (2 ^ 32) then Some (address c.value) else None

abbrev pub address_of : List ℕ → Option Ip4
address_of text = address_from (constant text)

-- the name that may be in double quotes
abbrev pub name_of : List ℕ → Option (List ℕ)
name_of text = if is_quotable text then Some text else None
