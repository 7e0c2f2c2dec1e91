-- The cubes of a match: what it means, as a list of cubes (not from OVN).
use Rattle.std.specs.Prelude.{ℕ, Bool, true, false, not, List, [], ◌∷◌, ◌++◌, map, Option, Some, None, if◌then◌else◌}
use Rattle.nv_base.specs.declared.field.Field.{Field}
use Rattle.nv_base.specs.declared.object.ObjId.{ObjId}
use Rattle.nv_base.specs.Field.{field_width, field_prerequisite}
use Rattle.expr_core.specs.Formula.{Formula, Formulas}
use Rattle.expr_core.specs.Formula.Formula.{Leaf, Not, And, Or}
use Rattle.expr_core.specs.Formula.Formulas.{Nil, Cons}
use Rattle.expr_core.specs.Lookup.{Lookup}
use Rattle.expr_core.specs.Opposite.{opposite}
use Rattle.expr_core.specs.Tests.{tests, prerequisite_tests}
use Rattle.expr_core.specs.Width.{mask_of}
use Rattle.expr_core.specs.declared.comparison.Item.{Item}
use Rattle.expr_core.specs.declared.comparison.Item.TheVariants.{One, Masked, Text, AddrSet, Group}
use Rattle.expr_core.specs.declared.comparison.Rel.{Rel}
use Rattle.expr_core.specs.declared.comparison.Rel.TheVariants.{Eq, Ne}
use Rattle.expr_core.specs.declared.comparison.Right.{Right}
use Rattle.expr_core.specs.declared.comparison.Right.TheVariants as right_of
use Rattle.expr_core.specs.declared.part.Bits.{Bits}
use Rattle.expr_core.specs.declared.test.Test.{Test}
use Rattle.expr_core.specs.declared.typed.TypedAtom.{TypedAtom}
use Rattle.expr_core.specs.declared.typed.TypedAtom.TheVariants.{Truth, Bare, Holds, Compare}
use Rattle.expr_sets.specs.Members.{Members}
use Rattle.expr_sets.specs.declared.members.Masked as masked
use Rattle.cube_core.specs.declared.cube.Cube.{Cube}
use Rattle.cube_core.specs.Comparison.{every_bit, placed, placed_mask, related}
use Rattle.cube_core.specs.Cube.{everything, of_field}
use Rattle.cube_core.specs.Limit.{join_all}

-- what names mean, and the members of sets and groups
pub record Names : Type 0 where
  pub lookup : Lookup
  pub members : Members

abbrev pub names_of : Lookup → Members → Names
names_of lookup members = record { lookup = lookup; members = members }

-- ---- comparisons

-- a number all of whose bits count
abbrev pub whole_number : ℕ → masked.Masked
whole_number number = record { number = number; mask = every_bit }

-- the cubes of a comparison of a part with a number, of which the bits of a mask count
abbrev pub masked_cubes : Field → Bits → Rel → masked.Masked → List Cube
masked_cubes field bits rel m = related field (placed_mask bits (field_width field) m.mask) rel (placed bits (field_width field) m.number)

-- the number of a port, where there is one
abbrev pub port_numbers : Option ObjId → List masked.Masked
port_numbers None = []
port_numbers (Some port) = whole_number port.0 ∷ []

-- the numbers that an item of a right side stands for, in stored order
abbrev pub numbers_of : Names → ℕ → Item → List masked.Masked
numbers_of names width (One c) = whole_number c.value ∷ []
numbers_of names width (Masked c m) = record { number = c.value; mask = mask_of c m } ∷ []
numbers_of names width (Text name) = port_numbers (names.lookup.port name)
numbers_of names width (AddrSet name) = names.members.of_set name width
numbers_of names width (Group name) = map (λ port. whole_number port.0) (names.members.of_group name)

-- A part equals one of several, and differs from all of them. It is in no order with several.
abbrev pub join_by : Rel → List (Option (List Cube)) → Option (List Cube)
join_by Eq lists = join_all false lists
join_by Ne lists = join_all true lists
join_by rel lists = Some []

-- the cubes of a comparison of a part with an item
abbrev pub item_cubes : Names → Field → Bits → Rel → Item → Option (List Cube)
item_cubes names field bits rel (One c) = Some (masked_cubes field bits rel (whole_number c.value))
item_cubes names field bits rel item = join_by rel (map (λ m. Some (masked_cubes field bits rel m)) (numbers_of names (field_width field) item))

-- the cubes of a comparison of a part with a right side
abbrev pub right_cubes : Names → Field → Bits → Rel → Right → Option (List Cube)
right_cubes names field bits rel (right_of.Item item) = item_cubes names field bits rel item
right_cubes names field bits rel (right_of.Set items) = join_by rel (map (item_cubes names field bits rel) items)

-- the packets that pass a test
abbrev pub test_cube : Test → Cube
test_cube t = of_field t.field (placed_mask t.bits (field_width t.field) every_bit) (placed t.bits (field_width t.field) t.number)

-- the packets that have a field: one of the tests of each list passes
abbrev pub prerequisite_cubes : Field → List (Option (List Cube))
prerequisite_cubes field = map (λ alternatives. Some (map test_cube alternatives)) (prerequisite_tests (field_prerequisite field))

-- the packets that have a field, and of which this list is
abbrev pub with_field : Field → Option (List Cube) → Option (List Cube)
with_field field cubes = join_all true (prerequisite_cubes field ++ cubes ∷ [])

-- the packets that have a field, a part of which is in the relation to a number
abbrev pub number_cubes : Field → Bits → Rel → ℕ → Option (List Cube)
number_cubes field bits rel number = with_field field (Some (masked_cubes field bits rel (whole_number number)))

-- ---- matches

-- the relation, or under a negation its opposite
abbrev pub turned : Bool → Rel → Rel
turned negated rel = if negated then opposite rel else rel

abbrev pub truth_cubes : Bool → List Cube
truth_cubes true = everything ∷ []
truth_cubes false = []

abbrev pub test_cubes : Bool → Test → Option (List Cube)
test_cubes negated t = number_cubes t.field t.bits (turned negated Eq) t.number

-- the cubes of an atom, or of its negation
abbrev pub atom_cubes : Names → Bool → TypedAtom → Option (List Cube)
atom_cubes names negated (Truth holds) = Some (truth_cubes (if negated then not holds else holds))
atom_cubes names negated (Bare field bits) = number_cubes field bits (turned negated Eq) 1
atom_cubes names negated (Holds p) = join_all negated (map (test_cubes negated) (tests p))
atom_cubes names negated (Compare field bits rel right) = with_field field (right_cubes names field bits (turned negated rel) right)

-- The cubes of a match, or of its negation. Under a negation a conjunction is a disjunction of negations, and a disjunction a
-- conjunction of them.
abbrev mutual
  pub match_cubes : Names → Bool → Formula TypedAtom → Option (List Cube)
  match_cubes names negated (Leaf atom) = atom_cubes names negated atom
  match_cubes names negated (Not f) = match_cubes names (not negated) f
  match_cubes names negated (And fs) = join_all (not negated) (operand_cubes names negated fs)
  match_cubes names negated (Or fs) = join_all negated (operand_cubes names negated fs)

  pub operand_cubes : Names → Bool → Formulas TypedAtom → List (Option (List Cube))
  operand_cubes names negated Nil = []
  operand_cubes names negated (Cons f fs) = match_cubes names negated f ∷ operand_cubes names negated fs
