-- How matches are written.
use Rattle.std.specs.Prelude.{ℕ, ◌%◌, ◌^◌, Bool, true, false, List, [], ◌∷◌, ◌++◌, codes, decimal, if◌then◌else◌}
use Rattle.nv_base.specs.Number.{hexadecimal}
use Rattle.nv_base.specs.Mac.{mac_text}
use Rattle.nv_base.specs.Ip4.{address, ip4_text}
use Rattle.nv_base.specs.Field.{field_name}
use Rattle.expr_core.specs.Formula.{Formula, Formulas}
use Rattle.expr_core.specs.Formula.Formula.{Leaf, Not, And, Or}
use Rattle.expr_core.specs.Formula.Formulas.{Nil, Cons}
use Rattle.expr_core.specs.Predicate.{pred_name}
use Rattle.expr_core.specs.declared.constant.Const.{Const}
use Rattle.expr_core.specs.declared.constant.Form.{Form}
use Rattle.expr_core.specs.declared.constant.Form.TheVariants.{Dec, Hex, Mac, Ip4}
use Rattle.expr_core.specs.declared.comparison.Rel.{Rel}
use Rattle.expr_core.specs.declared.comparison.Rel.TheVariants.{Eq, Ne, Lt, Le, Gt, Ge}
use Rattle.expr_core.specs.declared.comparison.Item.{Item}
use Rattle.expr_core.specs.declared.comparison.Item.TheVariants as item
use Rattle.expr_core.specs.declared.comparison.Right.{Right}
use Rattle.expr_core.specs.declared.comparison.Right.TheVariants as right
use Rattle.expr_core.specs.declared.part.Bits.{Bits}
use Rattle.expr_core.specs.declared.part.Bits.TheVariants.{Whole, Bit, Range}
use Rattle.expr_core.specs.declared.part.Part.{Part}
use Rattle.expr_core.specs.declared.expr.Atom.{Atom}
use Rattle.expr_core.specs.declared.expr.Atom.TheVariants as atom
use Rattle.expr_core.specs.declared.typed.TypedAtom.{TypedAtom}
use Rattle.expr_core.specs.declared.typed.TypedAtom.TheVariants as typed

-- a number in this form; a MAC has its 48 lowest bits, and an address its 32 lowest
abbrev pub number_in : Form → ℕ → List ℕ
number_in Dec n = decimal n
number_in Hex n = hexadecimal n
number_in Mac n = mac_text (n % 2 ^ 48)
number_in Ip4 n = ip4_text (address (n % 2 ^ 32))

abbrev pub const_text : Const → List ℕ
const_text c = number_in c.form c.value

abbrev pub bits_text : Bits → List ℕ
bits_text Whole = []
bits_text (Bit n) = codes "[" ++ decimal n ++ codes "]"
bits_text (Range first last) = codes "[" ++ decimal first ++ codes ".." ++ decimal last ++ codes "]"

abbrev pub rel_text : Rel → List ℕ
rel_text Eq = codes "=="
rel_text Ne = codes "!="
rel_text Lt = codes "<"
rel_text Le = codes "<="
rel_text Gt = codes ">"
rel_text Ge = codes ">="

abbrev pub item_text : Item → List ℕ
item_text (item.One c) = const_text c
item_text (item.Masked c m) = const_text c ++ codes "/" ++ const_text m
item_text (item.Text name) = codes "\"" ++ name ++ codes "\""
item_text (item.AddrSet name) = codes "$" ++ name
item_text (item.Group name) = codes "@" ++ name

-- items with `, ` between, after what is written before the first
abbrev pub items_text : List ℕ → List Item → List ℕ
items_text front [] = []
items_text front (i ∷ is) = front ++ item_text i ++ items_text (codes ", ") is

abbrev pub right_text : Right → List ℕ
right_text (right.Item i) = item_text i
right_text (right.Set is) = codes "{" ++ items_text [] is ++ codes "}"

-- a relation and its right side, after the part
abbrev pub relation_text : Rel → Right → List ℕ
relation_text r s = codes " " ++ rel_text r ++ codes " " ++ right_text s

abbrev pub truth_text : Bool → List ℕ
truth_text holds = if holds then codes "1" else codes "0"

abbrev pub part_text : Part → List ℕ
part_text p = p.name ++ bits_text p.bits

abbrev pub atom_text : Atom → List ℕ
atom_text (atom.Truth holds) = truth_text holds
atom_text (atom.Bare p) = part_text p
atom_text (atom.Compare p r s) = part_text p ++ relation_text r s

abbrev pub typed_atom_text : TypedAtom → List ℕ
typed_atom_text (typed.Truth holds) = truth_text holds
typed_atom_text (typed.Bare f bits) = field_name f ++ bits_text bits
typed_atom_text (typed.Holds p) = pred_name p
typed_atom_text (typed.Compare f bits r s) = field_name f ++ bits_text bits ++ relation_text r s

-- how the atoms of a formula are written, and which of them are comparisons
pub record Writing (A : Type 0) : Type 0 where
  pub text : A → List ℕ
  pub compares : A → Bool

-- two or more formulas that an operator joins
abbrev pub is_joined : {A : Type 0} → Formula A → Bool
is_joined (And fs) = true
is_joined (Or fs) = true
is_joined _ = false

-- what `!` negates only in parentheses: what an operator joins, and a comparison
abbrev pub needs_parentheses : {A : Type 0} → Writing A → Formula A → Bool
needs_parentheses w (Leaf a) = w.compares a
needs_parentheses w (Not f) = false
needs_parentheses w (And fs) = true
needs_parentheses w (Or fs) = true

abbrev pub opening : Bool → List ℕ
opening parentheses = if parentheses then codes "(" else []

abbrev pub closing : Bool → List ℕ
closing parentheses = if parentheses then codes ")" else []

-- a text in parentheses, where it needs them
abbrev pub enclosed : Bool → List ℕ → List ℕ
enclosed parentheses text = opening parentheses ++ text ++ closing parentheses

abbrev mutual
  -- the canonical text of a formula
  pub formula_text : {A : Type 0} → Writing A → Formula A → List ℕ
  formula_text w (Leaf a) = w.text a
  formula_text w (Not f) = codes "!" ++ enclosed (needs_parentheses w f) (formula_text w f)
  formula_text w (And fs) = operands_text w [] (codes " && ") fs
  formula_text w (Or fs) = operands_text w [] (codes " || ") fs

  -- the operands of an operator, after what is written before the first
  pub operands_text : {A : Type 0} → Writing A → List ℕ → List ℕ → Formulas A → List ℕ
  operands_text w front operator Nil = []
  operands_text w front operator (Cons f fs) = front ++ enclosed (is_joined f) (formula_text w f) ++ operands_text w operator operator fs

abbrev pub is_comparison : Atom → Bool
is_comparison (atom.Compare p r s) = true
is_comparison _ = false

abbrev pub is_typed_comparison : TypedAtom → Bool
is_typed_comparison (typed.Compare f bits r s) = true
is_typed_comparison _ = false

abbrev pub expr_writing : Writing Atom
expr_writing = record { text = atom_text; compares = is_comparison }

abbrev pub typed_writing : Writing TypedAtom
typed_writing = record { text = typed_atom_text; compares = is_typed_comparison }

-- how a match is written
abbrev pub expr_text : Formula Atom → List ℕ
expr_text e = formula_text expr_writing e

-- how a checked match is written
abbrev pub typed_text : Formula TypedAtom → List ℕ
typed_text t = formula_text typed_writing t
