-- Trees that have a text, and the tokens of that text.
use Rattle.std.specs.Prelude.{◌≡◌, ◌<◌, Bool, true, List, [], ◌∷◌, ◌++◌, length, if◌then◌else◌}
use Rattle.expr_core.specs.Formula.{Formula, Formulas}
use Rattle.expr_core.specs.Formula.Formula.{Leaf, Not as Negation, And as Conjunction, Or as Disjunction}
use Rattle.expr_core.specs.Formula.Formulas.{Nil, Cons}
use Rattle.nv_base.specs.Name.{is_quotable}
use Rattle.expr_core.specs.Named.{without_offsets}
use Rattle.expr_core.specs.Width.{limit}
use Rattle.expr_core.specs.Text.{is_joined, needs_parentheses, expr_writing, expr_text}
use Rattle.expr_core.specs.declared.constant.Const.{Const}
use Rattle.expr_core.specs.declared.comparison.Item.{Item}
use Rattle.expr_core.specs.declared.comparison.Item.TheVariants as item_of
use Rattle.expr_core.specs.declared.comparison.Right.{Right}
use Rattle.expr_core.specs.declared.comparison.Right.TheVariants as right_of
use Rattle.expr_core.specs.declared.expr.Atom.{Atom}
use Rattle.expr_core.specs.declared.expr.Atom.TheVariants.{Truth, Bare, Compare}
use Rattle.expr_core.specs.declared.part.Part.{Part}
use Rattle.expr_parse.specs.Spelling.{is_name}
use Rattle.expr_parse.specs.Token.{Token}
use Rattle.expr_parse.specs.Token.Token.{Name, Relation, And, Or, Not, Open, Close, OpenBrace, CloseBrace}
use Rattle.expr_parse.specs.Tokens.{tokens_of}
use Rattle.expr_parse.specs.Grammar.{reading}
use Rattle.expr_parse.specs.Grammar.Reading.{Read}
use Rattle.expr_parse.specs.GrammarRules.{kinds, decimal, truth_number, bits_tokens, AreBits, item_tokens, items_tokens}

-- Well-formed trees: each part can be spelled.

abbrev pub IsConst : Const → Type 0
IsConst c = c.value < limit c.form

abbrev pub IsItem : Item → Type 0
IsItem (item_of.One c) = IsConst c
IsItem (item_of.Masked c m) = IsConst c × IsConst m
IsItem (item_of.Text name) = is_quotable name ≡ true
IsItem (item_of.AddrSet name) = is_name name ≡ true
IsItem (item_of.Group name) = is_name name ≡ true

abbrev pub AreItems : List Item → Type 0
AreItems [] = Unit {0}
AreItems (i ∷ is) = IsItem i × AreItems is

-- a set has one item or more
abbrev pub IsRightSide : Right → Type 0
IsRightSide (right_of.Item i) = IsItem i
IsRightSide (right_of.Set []) = ⊥
IsRightSide (right_of.Set (i ∷ is)) = IsItem i × AreItems is

abbrev pub IsPartName : Part → Type 0
IsPartName p = (is_name p.name ≡ true) × AreBits p.bits

abbrev pub IsLeaf : Atom → Type 0
IsLeaf (Truth b) = Unit {0}
IsLeaf (Bare p) = IsPartName p
IsLeaf (Compare p r s) = IsPartName p × IsRightSide s

-- The tokens of the canonical text.

abbrev pub part_tokens : Part → List Token
part_tokens p = Name p.name ∷ bits_tokens p.bits

abbrev pub right_tokens : Right → List Token
right_tokens (right_of.Item i) = item_tokens i
right_tokens (right_of.Set []) = OpenBrace ∷ CloseBrace ∷ []
right_tokens (right_of.Set (i ∷ is)) = OpenBrace ∷ (items_tokens i is ++ CloseBrace ∷ [])

abbrev pub atom_tokens : Atom → List Token
atom_tokens (Truth b) = decimal (truth_number b) ∷ []
atom_tokens (Bare p) = part_tokens p
atom_tokens (Compare p r s) = part_tokens p ++ Relation r ∷ right_tokens s

abbrev pub enclosed_tokens : Bool → List Token → List Token
enclosed_tokens parentheses ts = if parentheses then Open ∷ (ts ++ Close ∷ []) else ts

abbrev mutual
  pub tree_tokens : Formula Atom → List Token
  tree_tokens (Leaf a) = atom_tokens a
  tree_tokens (Negation f) = Not ∷ enclosed_tokens (needs_parentheses expr_writing f) (tree_tokens f)
  tree_tokens (Conjunction fs) = operand_tokens And fs
  tree_tokens (Disjunction fs) = operand_tokens Or fs

  -- operands with a sign before each but the first
  pub operand_tokens : Token → Formulas Atom → List Token
  operand_tokens sign Nil = []
  operand_tokens sign (Cons f fs) = enclosed_tokens (is_joined f) (tree_tokens f) ++ more_tokens sign fs

  pub more_tokens : Token → Formulas Atom → List Token
  more_tokens sign Nil = []
  more_tokens sign (Cons f fs) = sign ∷ (enclosed_tokens (is_joined f) (tree_tokens f) ++ more_tokens sign fs)

-- The tokens of the tree's text reach its end, and are the tree's.
pub record IsLexed (f : Formula Atom) : Type 0 where
  pub whole : (tokens_of (expr_text f)).1 ≡ length (expr_text f)
  pub tokens : kinds (tokens_of (expr_text f)).0 ≡ tree_tokens f

-- The text of a tree is read as the tree, without offsets.
abbrev pub IsReadAgain : Formula Atom → Type 0
IsReadAgain f = (g : Formula Atom) × (reading (expr_text f) ≡ Read g []) × (without_offsets g ≡ without_offsets f)
