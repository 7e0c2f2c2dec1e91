-- The grammar of the match language, read from left to right.
use Rattle.std.specs.Prelude.{ℕ, zero, suc, ◌==◌, ◌&&◌, Bool, true, false, nat_le, List, [], ◌∷◌, ◌++◌, length, if◌then◌else◌, Option, Some, None}
use Rattle.expr_core.specs.Formula.{Formula, Formulas, formulas}
use Rattle.expr_core.specs.Formula.Formula.{Leaf, Not as Negation, And as Conjunction, Or as Disjunction}
use Rattle.expr_core.specs.Width.{is_decimal}
use Rattle.expr_core.specs.declared.constant.Const.{Const}
use Rattle.expr_core.specs.declared.comparison.Item.{Item}
use Rattle.expr_core.specs.declared.comparison.Item.TheVariants as item_of
use Rattle.expr_core.specs.declared.comparison.Right.{Right}
use Rattle.expr_core.specs.declared.comparison.Right.TheVariants as right_of
use Rattle.expr_core.specs.declared.expr.Atom.{Atom}
use Rattle.expr_core.specs.declared.expr.Atom.TheVariants.{Truth, Bare, Compare}
use Rattle.expr_core.specs.declared.part.Bits.{Bits}
use Rattle.expr_core.specs.declared.part.Bits.TheVariants.{Whole, Bit, Range}
use Rattle.expr_core.specs.declared.part.Part.{Part}
use Rattle.expr_parse.specs.declared.fault.MatchFault.{MatchFault}
use Rattle.expr_parse.specs.declared.fault.MatchFault.TheVariants.{Syntax, Mixed, TooDeep, Memory}
use Rattle.expr_parse.specs.declared.operator.Operator.{Operator}
use Rattle.expr_parse.specs.declared.operator.Operator.TheVariants as operator
use Rattle.expr_parse.specs.Token.{Token, Tokens}
use Rattle.expr_parse.specs.Token.Token.{Name, Number, Text, AddrSet, Group, Relation, And, Or, Not, Open, Close, OpenBrace, CloseBrace, OpenBracket, CloseBracket, Comma, Slash, Dots}
use Rattle.expr_parse.specs.Tokens.{tokens_of}

-- what a reading comes to: a value and the tokens after it, or the first fault
pub data Reading (T : Type 0) : Type 0 where
  Read : T → Tokens → Reading T
  Fails : MatchFault → Reading T

-- read on after what was read
abbrev pub and_then : {S T : Type 0} → Reading S → (S → Tokens → Reading T) → Reading T
and_then (Read s rest) go_on = go_on s rest
and_then (Fails fault) go_on = Fails fault

-- a fault at the first of these tokens, or at the offset where the tokens end
abbrev pub stuck : {T : Type 0} → ℕ → Tokens → Reading T
stuck end [] = Fails (Syntax end)
stuck end (t ∷ ts) = Fails (Syntax t.0)

-- the number of a bit: a decimal of at most 255
abbrev pub bit_number : ℕ → Tokens → Reading ℕ
bit_number end ((p, Number c) ∷ rest) = if is_decimal c.form && nat_le c.value 255 then Read c.value rest else Fails (Syntax p)
bit_number end rest = stuck end rest

-- the end of a range of bits, which began with this one
abbrev pub last_bit : ℕ → ℕ → ℕ → Tokens → Reading Bits
last_bit end first last ((p, CloseBracket) ∷ rest) = Read (Range first last) rest
last_bit end first last rest = stuck end rest

-- one bit, or a range of bits that begins with it
abbrev pub first_bit : ℕ → ℕ → Tokens → Reading Bits
first_bit end first ((p, CloseBracket) ∷ rest) = Read (Bit first) rest
first_bit end first ((p, Dots) ∷ rest) = and_then (bit_number end rest) (last_bit end first)
first_bit end first rest = stuck end rest

-- [ "[" decimal [ ".." decimal ] "]" ]
abbrev pub bits : ℕ → Tokens → Reading Bits
bits end ((p, OpenBracket) ∷ rest) = and_then (bit_number end rest) (first_bit end)
bits end rest = Read Whole rest

-- a part, whose name is at this offset
abbrev pub part_of : List ℕ → ℕ → Bits → Part
part_of name offset bits = record { name = name; bits = bits; offset = offset }

-- Part = name [ "[" decimal [ ".." decimal ] "]" ], after its name
abbrev pub part : ℕ → ℕ → List ℕ → Tokens → Reading Part
part end offset name rest = and_then (bits end rest) (λ b after. Read (part_of name offset b) after)

-- a mask or the length of a prefix
abbrev pub mask : ℕ → Const → Tokens → Reading Item
mask end c ((p, Number m) ∷ rest) = Read (item_of.Masked c m) rest
mask end c rest = stuck end rest

-- Const [ "/" Const ], after the first
abbrev pub number : ℕ → Const → Tokens → Reading Item
number end c ((p, Slash) ∷ rest) = mask end c rest
number end c rest = Read (item_of.One c) rest

-- Item = Const [ "/" Const ] | string | $name | @name
abbrev pub item : ℕ → Tokens → Reading Item
item end ((p, Number c) ∷ rest) = number end c rest
item end ((p, Text name) ∷ rest) = Read (item_of.Text name) rest
item end ((p, AddrSet name) ∷ rest) = Read (item_of.AddrSet name) rest
item end ((p, Group name) ∷ rest) = Read (item_of.Group name) rest
item end rest = stuck end rest

-- { "," Item } "}", after these items, with at most so many more
abbrev pub items : ℕ → ℕ → List Item → Tokens → Reading Right
items end more before ((p, CloseBrace) ∷ rest) = Read (right_of.Set before) rest
items end (suc more) before ((p, Comma) ∷ rest) = and_then (item end rest) (λ i after. items end more (before ++ i ∷ []) after)
items end more before rest = stuck end rest

-- Right = Item | "{" Item { "," Item } "}"
abbrev pub right : ℕ → Tokens → Reading Right
right end ((p, OpenBrace) ∷ rest) = and_then (item end rest) (λ i after. items end (length rest) (i ∷ []) after)
right end rest = and_then (item end rest) (λ i after. Read (right_of.Item i) after)

-- Compare = Part Rel Right, or a part alone, after the part
abbrev pub compared : ℕ → Part → Tokens → Reading (Formula Atom)
compared end p ((q, Relation r) ∷ rest) = and_then (right end rest) (λ s after. Read (Leaf (Compare p r s)) after)
compared end p rest = Read (Leaf (Bare p)) rest

-- the atom `0` or `1`
abbrev pub truth : ℕ → Const → Tokens → Reading (Formula Atom)
truth offset c rest = if is_decimal c.form && (c.value == 0) then Read (Leaf (Truth false)) rest else (if is_decimal c.form && (c.value == 1) then Read (Leaf (Truth true)) rest else Fails (Syntax offset))

-- ")" after a match
abbrev pub closed : ℕ → Formula Atom → Tokens → Reading (Formula Atom)
closed end f ((p, Close) ∷ rest) = Read f rest
closed end f rest = stuck end rest

-- How the inside of a level is read: what `!` negates, and what is in parentheses. Both are given the offset of the sign.
pub record Inside : Type 0 where
  pub negated : ℕ → Tokens → Reading (Formula Atom)
  pub enclosed : ℕ → Tokens → Reading (Formula Atom)

-- Not = "!" Not | Atom, and Atom = "0" | "1" | "(" Match ")" | Part
abbrev pub operand : ℕ → Inside → Tokens → Reading (Formula Atom)
operand end inside ((p, Not) ∷ rest) = and_then (inside.negated p rest) (λ f after. Read (Negation f) after)
operand end inside ((p, Open) ∷ rest) = and_then (inside.enclosed p rest) (closed end)
operand end inside ((p, Number c) ∷ rest) = truth p c rest
operand end inside ((p, Name name) ∷ rest) = and_then (part end p name rest) (λ q after. Read (Leaf (Bare q)) after)
operand end inside rest = stuck end rest

-- Unit = Not | Compare: what begins with a name may be a comparison
abbrev pub unit : ℕ → Inside → Tokens → Reading (Formula Atom)
unit end inside ((p, Name name) ∷ rest) = and_then (part end p name rest) (compared end)
unit end inside rest = operand end inside rest

-- the sign of an operator
abbrev pub sign : Operator → Token
sign operator.And = And
sign operator.Or = Or

-- formulas that an operator joins
abbrev pub join : Operator → Formulas Atom → Formula Atom
join operator.And fs = Conjunction fs
join operator.Or fs = Disjunction fs

-- the tokens after the operator's sign, where it is the first
abbrev pub after_operator : Operator → Tokens → Option Tokens
after_operator operator.And ((p, And) ∷ rest) = Some rest
after_operator operator.Or ((p, Or) ∷ rest) = Some rest
after_operator o ts = None

-- the end of units that an operator joins, at which the other operator is a fault
abbrev pub chain_end : Operator → List (Formula Atom) → Tokens → Reading (Formula Atom)
chain_end operator.And units ((p, Or) ∷ rest) = Fails (Mixed p)
chain_end operator.Or units ((p, And) ∷ rest) = Fails (Mixed p)
chain_end o units ts = Read (join o (formulas units)) ts

-- one more unit, where there are tokens for it, or else the end
abbrev pub one_more : (Tokens → Reading (Formula Atom)) → (Formula Atom → Tokens → Reading (Formula Atom)) → Reading (Formula Atom) → Option Tokens → Reading (Formula Atom)
one_more unit go_on end None = end
one_more unit go_on end (Some rest) = and_then (unit rest) go_on

-- { sign Unit }, after these units, with at most so many more
abbrev pub chain : (Tokens → Reading (Formula Atom)) → Operator → ℕ → List (Formula Atom) → Tokens → Reading (Formula Atom)
chain unit o zero units ts = chain_end o units ts
chain unit o (suc more) units ts = one_more unit (λ f after. chain unit o more (units ++ f ∷ []) after) (chain_end o units ts) (after_operator o ts)

-- what joins the first unit with others
abbrev pub joined : ℕ → Inside → Formula Atom → Tokens → Reading (Formula Atom)
joined end inside first ((p, And) ∷ rest) = chain (unit end inside) operator.And (suc (length rest)) (first ∷ []) ((p, And) ∷ rest)
joined end inside first ((p, Or) ∷ rest) = chain (unit end inside) operator.Or (suc (length rest)) (first ∷ []) ((p, Or) ∷ rest)
joined end inside first rest = Read first rest

-- Match = Unit | Unit "&&" Unit { "&&" Unit } | Unit "||" Unit { "||" Unit }
abbrev pub whole : ℕ → Inside → Tokens → Reading (Formula Atom)
whole end inside ts = and_then (unit end inside ts) (joined end inside)

-- no level is left: `(` and `!` are faults
abbrev pub too_deep : ℕ → Tokens → Reading (Formula Atom)
too_deep offset ts = Fails (TooDeep offset)

-- the inside of the next level, where so many may be opened
abbrev pub levels : ℕ → ℕ → Inside
levels end zero = record { negated = too_deep; enclosed = too_deep }
levels end (suc n) = record { negated = λ offset ts. operand end (levels end n) ts; enclosed = λ offset ts. whole end (levels end n) ts }

-- how many levels may be open at once
abbrev pub level_limit : ℕ
level_limit = 64

-- a match ends where the tokens end, and they end where the text, which is so long, ends
abbrev pub finished : ℕ → ℕ → Formula Atom → Tokens → Reading (Formula Atom)
finished len end f [] = if end == len then Read f [] else Fails (Syntax end)
finished len end f (t ∷ ts) = stuck end (t ∷ ts)

-- the match that tokens are, which end at this offset of a text of this length
abbrev pub match_of : ℕ → Tokens × ℕ → Reading (Formula Atom)
match_of len text = and_then (whole text.1 (levels text.1 level_limit) text.0) (finished len text.1)

-- The match that a text is, or the first fault from the left.
abbrev pub reading : List ℕ → Reading (Formula Atom)
reading text = match_of (length text) (tokens_of text)

-- out of memory
abbrev pub is_memory : MatchFault → Bool
is_memory Memory = true
is_memory _ = false
