-- The tokens of the match language.
use Rattle.std.specs.Prelude.{ℕ, List}
use Rattle.expr_core.specs.declared.constant.Const.{Const}
use Rattle.expr_core.specs.declared.comparison.Rel.{Rel}

-- a token
pub data Token : Type 0 where
  Name : List ℕ → Token
  Number : Const → Token
  Text : List ℕ → Token
  AddrSet : List ℕ → Token
  Group : List ℕ → Token
  Relation : Rel → Token
  And : Token
  Or : Token
  Not : Token
  Open : Token
  Close : Token
  OpenBrace : Token
  CloseBrace : Token
  OpenBracket : Token
  CloseBracket : Token
  Comma : Token
  Slash : Token
  Dots : Token

-- tokens, each with the offset of its first byte
abbrev pub Tokens : Type 0
Tokens = List (ℕ × Token)
