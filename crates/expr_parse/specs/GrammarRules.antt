-- The grammar of the match language as rules: which tokens are which match. A rule knows no order of reading and no fault.
use Rattle.std.specs.Prelude.{◌≡◌, ℕ, suc, ◌≤◌, Bool, true, false, List, [], ◌∷◌, ◌++◌, length, map}
use Rattle.expr_core.specs.Formula.{Formula, formulas}
use Rattle.expr_core.specs.Formula.Formula.{Leaf, Not as Negation}
use Rattle.expr_core.specs.declared.constant.Form.TheVariants as form
use Rattle.expr_core.specs.declared.comparison.Item.{Item}
use Rattle.expr_core.specs.declared.comparison.Item.TheVariants as item_of
use Rattle.expr_core.specs.declared.comparison.Rel.{Rel}
use Rattle.expr_core.specs.declared.comparison.Right.{Right}
use Rattle.expr_core.specs.declared.comparison.Right.TheVariants as right_of
use Rattle.expr_core.specs.declared.expr.Atom.{Atom}
use Rattle.expr_core.specs.declared.expr.Atom.TheVariants.{Truth, Bare, Compare}
use Rattle.expr_core.specs.declared.part.Bits.{Bits}
use Rattle.expr_core.specs.declared.part.Bits.TheVariants.{Whole, Bit, Range}
use Rattle.expr_core.specs.declared.part.Part.{Part}
use Rattle.expr_parse.specs.declared.operator.Operator.{Operator}
use Rattle.expr_parse.specs.Token.{Token, Tokens}
use Rattle.expr_parse.specs.Token.Token.{Name, Number, Text, AddrSet, Group, Relation, Not, Open, Close, OpenBrace, CloseBrace, OpenBracket, CloseBracket, Comma, Slash, Dots}
use Rattle.expr_parse.specs.Tokens.{tokens_of}
use Rattle.expr_parse.specs.Grammar.{level_limit, sign, join}

-- what the tokens are, without their offsets
abbrev pub kinds : Tokens → List Token
kinds ts = map (λ t. t.1) ts

-- a number in decimal
abbrev pub decimal : ℕ → Token
decimal n = Number (record { form = form.Dec; value = n })

-- "0" and "1"
abbrev pub truth_number : Bool → ℕ
truth_number false = 0
truth_number true = 1

-- "[" decimal "]" and "[" decimal ".." decimal "]", or nothing
abbrev pub bits_tokens : Bits → List Token
bits_tokens Whole = []
bits_tokens (Bit n) = OpenBracket ∷ decimal n ∷ CloseBracket ∷ []
bits_tokens (Range m n) = OpenBracket ∷ decimal m ∷ Dots ∷ decimal n ∷ CloseBracket ∷ []

-- a bit's number is at most 255
abbrev pub AreBits : Bits → Type 0
AreBits Whole = Unit {0}
AreBits (Bit n) = n ≤ 255
AreBits (Range m n) = (m ≤ 255) × (n ≤ 255)

-- Part = name | name "[" decimal "]" | name "[" decimal ".." decimal "]"
pub record IsPart (ts : Tokens) (p : Part) : Type 0 where
  pub after : Tokens
  pub whole : ts ≡ (p.offset, Name p.name) ∷ after
  pub bits : kinds after ≡ bits_tokens p.bits
  pub numbers : AreBits p.bits

-- Item = Const | Const "/" Const | string | $name | @name
abbrev pub item_tokens : Item → List Token
item_tokens (item_of.One c) = Number c ∷ []
item_tokens (item_of.Masked c m) = Number c ∷ Slash ∷ Number m ∷ []
item_tokens (item_of.Text name) = Text name ∷ []
item_tokens (item_of.AddrSet name) = AddrSet name ∷ []
item_tokens (item_of.Group name) = Group name ∷ []

-- Item { "," Item }
abbrev pub items_tokens : Item → List Item → List Token
items_tokens i [] = item_tokens i
items_tokens i (j ∷ js) = item_tokens i ++ Comma ∷ items_tokens j js

-- Right = Item | "{" Item { "," Item } "}"
abbrev pub IsRight : List Token → Right → Type 0
IsRight ts (right_of.Item i) = ts ≡ item_tokens i
IsRight ts (right_of.Set []) = ⊥
IsRight ts (right_of.Set (i ∷ is)) = ts ≡ OpenBrace ∷ (items_tokens i is ++ CloseBrace ∷ [])

-- "0", "1", Part, and Part Rel Right
abbrev pub IsAtom : Tokens → Atom → Type 0
IsAtom ts (Truth b) = kinds ts ≡ decimal (truth_number b) ∷ []
IsAtom ts (Bare p) = IsPart ts p
IsAtom ts (Compare p r s) = (front : Tokens) × (offset : ℕ) × (back : Tokens) × (ts ≡ front ++ (offset, Relation r) ∷ back) × IsPart front p × IsRight (kinds back) s

mutual
  -- Match = Unit | Unit "&&" Unit { "&&" Unit } | Unit "||" Unit { "||" Unit }, where so many levels may be opened
  pub data IsMatch : ℕ → Tokens → Formula Atom → Type 0 where
    alone : {n : ℕ} {ts : Tokens} {f : Formula Atom} → IsUnit n ts f → IsMatch n ts f
    joined : {n : ℕ} {ts : Tokens} (o : Operator) (f g : Formula Atom) (fs : List (Formula Atom)) → AreUnits n o ts (f ∷ g ∷ fs) → IsMatch n ts (join o (formulas (f ∷ g ∷ fs)))

  -- Unit { sign Unit }
  pub data AreUnits : ℕ → Operator → Tokens → List (Formula Atom) → Type 0 where
    last : {n : ℕ} {o : Operator} {ts : Tokens} (f : Formula Atom) → IsUnit n ts f → AreUnits n o ts (f ∷ [])
    more : {n : ℕ} {o : Operator} {ts : Tokens} {f : Formula Atom} {fs : List (Formula Atom)} (front : Tokens) (offset : ℕ) (back : Tokens) → ts ≡ front ++ (offset, sign o) ∷ back → IsUnit n front f → AreUnits n o back fs → AreUnits n o ts (f ∷ fs)

  -- Unit = Not | Part Rel Right
  pub data IsUnit : ℕ → Tokens → Formula Atom → Type 0 where
    plain : {n : ℕ} {ts : Tokens} {f : Formula Atom} → IsOperand n ts f → IsUnit n ts f
    comparison : {n : ℕ} {ts : Tokens} (p : Part) (r : Rel) (s : Right) → IsAtom ts (Compare p r s) → IsUnit n ts (Leaf (Compare p r s))

  -- Not = "!" Not | Atom, and Atom = "0" | "1" | "(" Match ")" | Part; each "!" and each "(" opens a level
  pub data IsOperand : ℕ → Tokens → Formula Atom → Type 0 where
    truth : {n : ℕ} {ts : Tokens} (b : Bool) → IsAtom ts (Truth b) → IsOperand n ts (Leaf (Truth b))
    bare : {n : ℕ} {ts : Tokens} (p : Part) → IsAtom ts (Bare p) → IsOperand n ts (Leaf (Bare p))
    negation : {n : ℕ} {ts : Tokens} {f : Formula Atom} (offset : ℕ) (after : Tokens) → ts ≡ (offset, Not) ∷ after → IsOperand n after f → IsOperand (suc n) ts (Negation f)
    enclosed : {n : ℕ} {ts : Tokens} {f : Formula Atom} (opening closing : ℕ) (inner : Tokens) → ts ≡ (opening, Open) ∷ (inner ++ (closing, Close) ∷ []) → IsMatch n inner f → IsOperand (suc n) ts f

-- The text is this match: its tokens reach its end, and they are the match, with at most 64 levels open.
abbrev pub IsText : List ℕ → Formula Atom → Type 0
IsText text f = ((tokens_of text).1 ≡ length text) × IsMatch level_limit (tokens_of text).0 f
