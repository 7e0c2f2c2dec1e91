-- The digest of a match: SipHash-1-3 of the numbers and the texts that its tree is made of, in their order. Each that may be of several
-- kinds begins with the number of its kind, a text and a set with how many follow, and operands end with a 7.
use Rattle.std.specs.Prelude.{ℕ, Bool, false, true, length, fold, List}
use Rattle.std.specs.Hash.{le_bytes}
use Rattle.std.specs.Hash.DefaultHasher as sip
use Rattle.std.specs.declared.hash.DefaultHasher.{DefaultHasher}
use Rattle.nv_base.specs.Field.{field_number}
use Rattle.nv_base.specs.declared.field.Field.{Field}
use Rattle.expr_core.specs.Formula.{Formula, Formulas}
use Rattle.expr_core.specs.Formula.Formula.{Leaf, Not, And, Or}
use Rattle.expr_core.specs.Formula.Formulas.{Nil, Cons}
use Rattle.expr_core.specs.declared.comparison.Item.{Item}
use Rattle.expr_core.specs.declared.comparison.Item.TheVariants as item
use Rattle.expr_core.specs.declared.comparison.Rel.{Rel}
use Rattle.expr_core.specs.declared.comparison.Rel.TheVariants as rel
use Rattle.expr_core.specs.declared.comparison.Right.{Right}
use Rattle.expr_core.specs.declared.comparison.Right.TheVariants as right
use Rattle.expr_core.specs.declared.constant.Const.{Const}
use Rattle.expr_core.specs.declared.constant.Form.{Form}
use Rattle.expr_core.specs.declared.constant.Form.TheVariants as form
use Rattle.expr_core.specs.declared.part.Bits.{Bits}
use Rattle.expr_core.specs.declared.part.Bits.TheVariants as bits
use Rattle.expr_core.specs.declared.predicate.Pred.{Pred}
use Rattle.expr_core.specs.declared.predicate.Pred.TheVariants as pred
use Rattle.expr_core.specs.declared.typed.TypedAtom.{TypedAtom}
use Rattle.expr_core.specs.declared.typed.TypedAtom.TheVariants as atom

-- with a number more, in eight bytes
abbrev pub number_fed : DefaultHasher → ℕ → DefaultHasher
number_fed s n = sip.write s (le_bytes 8 n)

-- with a text more
abbrev pub text_fed : DefaultHasher → List ℕ → DefaultHasher
text_fed s text = sip.write (number_fed s (length text)) text

-- the number of a form
abbrev pub form_number : Form → ℕ
form_number form.Dec = 0
form_number form.Hex = 1
form_number form.Mac = 2
form_number form.Ip4 = 3

-- with a constant more
abbrev pub constant_fed : DefaultHasher → Const → DefaultHasher
constant_fed s c = sip.write (number_fed s (form_number c.form)) (le_bytes 16 c.value)

-- with the bits of a part more
abbrev pub bits_fed : DefaultHasher → Bits → DefaultHasher
bits_fed s bits.Whole = number_fed s 0
bits_fed s (bits.Bit bit) = number_fed (number_fed s 1) bit
bits_fed s (bits.Range first last) = number_fed (number_fed (number_fed s 2) first) last

-- with an item more
abbrev pub item_fed : DefaultHasher → Item → DefaultHasher
item_fed s (item.One c) = constant_fed (number_fed s 0) c
item_fed s (item.Masked c mask) = constant_fed (constant_fed (number_fed s 1) c) mask
item_fed s (item.Text name) = text_fed (number_fed s 2) name
item_fed s (item.AddrSet name) = text_fed (number_fed s 3) name
item_fed s (item.Group name) = text_fed (number_fed s 4) name

-- the number of a relation
abbrev pub rel_number : Rel → ℕ
rel_number rel.Eq = 0
rel_number rel.Ne = 1
rel_number rel.Lt = 2
rel_number rel.Le = 3
rel_number rel.Gt = 4
rel_number rel.Ge = 5

-- with the right side of a comparison more
abbrev pub right_fed : DefaultHasher → Right → DefaultHasher
right_fed s (right.Item i) = item_fed (number_fed s 0) i
right_fed s (right.Set items) = fold item_fed (number_fed (number_fed s 1) (length items)) items

-- the number of a predicate
abbrev pub predicate_number : Pred → ℕ
predicate_number pred.EthMcast = 0
predicate_number pred.EthBcast = 1
predicate_number pred.Ip4 = 2
predicate_number pred.Arp = 3
predicate_number pred.Ip6 = 4
predicate_number pred.Ip = 5
predicate_number pred.Tcp = 6
predicate_number pred.Udp = 7
predicate_number pred.Icmp4 = 8
predicate_number pred.Icmp = 9
predicate_number pred.Ip4Mcast = 10
predicate_number pred.CtNew = 11
predicate_number pred.CtEst = 12
predicate_number pred.CtRel = 13
predicate_number pred.CtRpl = 14
predicate_number pred.CtInv = 15
predicate_number pred.CtTrk = 16

-- with the kind and the part of an atom more
abbrev pub part_fed : DefaultHasher → ℕ → Field → Bits → DefaultHasher
part_fed s kind field b = bits_fed (number_fed (number_fed s kind) (field_number field)) b

-- the number of a truth value
abbrev pub truth_number : Bool → ℕ
truth_number false = 0
truth_number true = 1

-- with an atom more
abbrev pub atom_fed : DefaultHasher → TypedAtom → DefaultHasher
atom_fed s (atom.Truth holds) = number_fed (number_fed s 0) (truth_number holds)
atom_fed s (atom.Bare field b) = part_fed s 1 field b
atom_fed s (atom.Holds predicate) = number_fed (number_fed s 2) (predicate_number predicate)
atom_fed s (atom.Compare field b r side) = right_fed (number_fed (part_fed s 3 field b) (rel_number r)) side

-- with a match more
abbrev mutual
  pub match_fed : DefaultHasher → Formula TypedAtom → DefaultHasher
  match_fed s (Leaf a) = atom_fed s a
  match_fed s (Not f) = match_fed (number_fed s 4) f
  match_fed s (And fs) = number_fed (matches_fed (number_fed s 5) fs) 7
  match_fed s (Or fs) = number_fed (matches_fed (number_fed s 6) fs) 7

  -- with matches more
  pub matches_fed : DefaultHasher → Formulas TypedAtom → DefaultHasher
  matches_fed s Nil = s
  matches_fed s (Cons f fs) = matches_fed (match_fed s f) fs

-- the digest of a match
abbrev pub digest : Formula TypedAtom → ℕ
digest f = sip.finish (match_fed sip.initial f)
