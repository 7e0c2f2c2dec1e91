-- Which texts spell a token.
use Rattle.std.specs.Prelude.{ℕ, ◌-◌, ◌==◌, ◌||◌, ◌&&◌, Bool, false, nat_le, nat_eq, List, [], ◌∷◌, length, take, drop, slice_index, Option, Some, None, codes, if◌then◌else◌}
use Rattle.std.specs.List.{list_all}
use Rattle.std.specs.Cmp.Lexicographic.{pointwise}
use Rattle.std.specs.Option.{option_map}
use Rattle.nv_base.specs.Name.{is_quotable}
use Rattle.expr_core.specs.declared.comparison.Rel.TheVariants.{Eq, Ne, Lt, Le, Gt, Ge}
use Rattle.expr_const.specs.Constant.{or_else, constant_of}
use Rattle.expr_parse.specs.Class.{is_between, begins_name}
use Rattle.expr_parse.specs.Token.{Token}
use Rattle.expr_parse.specs.Token.Token.{Name, Number, Text, AddrSet, Group, Relation, And, Or, Not, Open, Close, OpenBrace, CloseBrace, OpenBracket, CloseBracket, Comma, Slash, Dots}

-- a letter, a digit, `_` or `.`
abbrev pub is_in_name : ℕ → Bool
is_in_name byte = begins_name byte || is_between 48 57 byte || (byte == 46)

-- a letter or `_`, and then letters, digits, `_` and `.`
abbrev pub is_name : List ℕ → Bool
is_name [] = false
is_name (b ∷ bs) = begins_name b && list_all is_in_name bs

-- a name, after this byte
abbrev pub name_after : ℕ → List ℕ → Option (List ℕ)
name_after mark [] = None
name_after mark (b ∷ bs) = if (b == mark) && is_name bs then Some bs else None

-- what is between the first byte and the last
abbrev pub inside : List ℕ → List ℕ
inside text = take (length text - 2) (drop 1 text)

-- the text begins and ends with a double quote
abbrev pub is_quoted : List ℕ → Bool
is_quoted text = nat_le 2 (length text) && (slice_index text 0 == 34) && (slice_index text (length text - 1) == 34)

-- what is between double quotes, where it may
abbrev pub quoted_of : List ℕ → Option (List ℕ)
quoted_of text = if is_quoted text && is_quotable (inside text) then Some (inside text) else None

-- the signs, and how each is spelled
abbrev pub signs : List (List ℕ × Token)
signs =
    (codes "(", Open) ∷ (codes ")", Close) ∷ (codes "{", OpenBrace) ∷ (codes "}", CloseBrace) ∷ (codes "[", OpenBracket) ∷ (codes "]", CloseBracket)
    ∷ (codes ",", Comma) ∷ (codes "/", Slash) ∷ (codes "..", Dots) ∷ (codes "!", Not) ∷ (codes "&&", And) ∷ (codes "||", Or)
    ∷ (codes "==", Relation Eq) ∷ (codes "!=", Relation Ne) ∷ (codes "<", Relation Lt) ∷ (codes "<=", Relation Le) ∷ (codes ">", Relation Gt) ∷ (codes ">=", Relation Ge) ∷ []

-- the sign of this spelling, among these
abbrev pub sign_among : List (List ℕ × Token) → List ℕ → Option Token
sign_among [] text = None
sign_among (s ∷ ss) text = if pointwise nat_eq s.0 text then Some s.1 else sign_among ss text

-- the token that the whole text spells
unfoldable pub spelled : List ℕ → Option Token
spelled text =
    or_else (sign_among signs text)
    (or_else (if is_name text then Some (Name text) else None)
    (or_else (option_map Number (constant_of text))
    (or_else (option_map Text (quoted_of text))
    (or_else (option_map AddrSet (name_after 36 text))
    (option_map Group (name_after 64 text))))))
