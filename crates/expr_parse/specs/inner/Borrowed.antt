-- The tokens that the code has, which borrow their names from the text.
use Rattle.std.specs.Prelude.{ℕ}
use Rattle.expr_core.specs.Constant.{constant}
use Rattle.expr_parse.specs.Token.{Token}
use Rattle.expr_parse.specs.Token.Token.{Name, Number, Text, AddrSet, Group, Relation, And, Or, Not, Open, Close, OpenBrace, CloseBrace, OpenBracket, CloseBracket, Comma, Slash, Dots}
use Rattle.expr_parse.specs.declared.token.FrontToken.{FrontToken}
use Rattle.expr_parse.specs.declared.token.Token.{Token as BorrowedToken}
use Rattle.expr_parse.specs.declared.token.Token.TheVariants as borrowed
use Rattle.expr_parse.specs.declared.token.TokenAt.{TokenAt}

-- what the token is
abbrev pub token_of : BorrowedToken → Token
token_of (borrowed.Name bytes) = Name bytes.now
token_of (borrowed.Number s) = Number (constant s.form s.value)
token_of (borrowed.Text bytes) = Text bytes.now
token_of (borrowed.AddrSet bytes) = AddrSet bytes.now
token_of (borrowed.Group bytes) = Group bytes.now
token_of (borrowed.Rel r) = Relation r
token_of borrowed.And = And
token_of borrowed.Or = Or
token_of borrowed.Not = Not
token_of borrowed.Open = Open
token_of borrowed.Close = Close
token_of borrowed.OpenBrace = OpenBrace
token_of borrowed.CloseBrace = CloseBrace
token_of borrowed.OpenBracket = OpenBracket
token_of borrowed.CloseBracket = CloseBracket
token_of borrowed.Comma = Comma
token_of borrowed.Slash = Slash
token_of borrowed.Dots = Dots

-- its offset, and what it is
abbrev pub token_at : TokenAt → ℕ × Token
token_at p = (p.offset, token_of p.token)

-- what the first token is, and how many bytes it takes
abbrev pub front_token : FrontToken → Token × ℕ
front_token f = (token_of f.token, f.len)
