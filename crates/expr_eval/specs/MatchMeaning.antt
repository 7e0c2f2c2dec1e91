-- What a match means (after ovn-sb(5), 'Logical_Flow TABLE'; what the negation of a predicate means is not from OVN).
-- There are two meanings: `holds`, that the match holds, and `negation_holds`, that its negation does. A field that a packet does not
-- have is in no relation: neither holds then.
use Rattle.std.specs.Prelude.{ℕ, ◌==◌, Bool, not, ◌&&◌, ◌||◌, true, false}
use Rattle.std.specs.List.{list_any, list_all}
use Rattle.nv_base.specs.declared.field.Field.{Field}
use Rattle.nv_base.specs.Field.{field_width}
use Rattle.pkt_core.specs.Packet.{Values, value}
use Rattle.pkt_core.specs.Prerequisite.{is_there}
use Rattle.expr_core.specs.Formula.{Formula, Formulas}
use Rattle.expr_core.specs.Formula.Formula.{Leaf, Not, And, Or}
use Rattle.expr_core.specs.Formula.Formulas.{Nil, Cons}
use Rattle.expr_core.specs.Lookup.{Lookup}
use Rattle.expr_core.specs.Opposite.{opposite}
use Rattle.expr_core.specs.Tests.{test, tests}
use Rattle.expr_core.specs.declared.test.Test.{Test}
use Rattle.expr_core.specs.Width.{bits_of}
use Rattle.expr_core.specs.declared.part.Bits.{Bits}
use Rattle.expr_core.specs.declared.typed.TypedAtom.{TypedAtom}
use Rattle.expr_core.specs.declared.typed.TypedAtom.TheVariants.{Truth, Bare, Holds, Compare}
use Rattle.expr_eval.specs.Relation.{relates}

-- the number of a part of the packet
abbrev pub part_of : Values → Field → Bits → ℕ
part_of packet field bits = bits_of bits (value packet field)

-- the part has the number of the test
abbrev pub passes : Values → Test → Bool
passes packet t = part_of packet t.field t.bits == t.number

-- the packet has the field, and the part has this number
abbrev pub has : Values → Test → Bool
has packet t = is_there packet t.field && passes packet t

-- the packet has the field, and the part has another number
abbrev pub has_not : Values → Test → Bool
has_not packet t = is_there packet t.field && not (passes packet t)

-- A part alone is the test for 1. A comparison needs its field, and then the part is in the relation to the right side.
abbrev pub atom_holds : Lookup → Values → TypedAtom → Bool
atom_holds net packet (Truth b) = b
atom_holds net packet (Bare field bits) = has packet (test field bits 1)
atom_holds net packet (Holds p) = list_any (has packet) (tests p)
atom_holds net packet (Compare field bits rel right) = is_there packet field && relates net (field_width field) (part_of packet field bits) rel right

abbrev pub atom_negation_holds : Lookup → Values → TypedAtom → Bool
atom_negation_holds net packet (Truth b) = not b
atom_negation_holds net packet (Bare field bits) = has_not packet (test field bits 1)
atom_negation_holds net packet (Holds p) = list_all (has_not packet) (tests p)
atom_negation_holds net packet (Compare field bits rel right) = is_there packet field && relates net (field_width field) (part_of packet field bits) (opposite rel) right

abbrev mutual
  -- the match holds of the packet
  pub holds : Lookup → Values → Formula TypedAtom → Bool
  holds net packet (Leaf a) = atom_holds net packet a
  holds net packet (Not f) = negation_holds net packet f
  holds net packet (And fs) = all_hold net packet fs
  holds net packet (Or fs) = some_hold net packet fs

  -- the negation of the match holds of the packet
  pub negation_holds : Lookup → Values → Formula TypedAtom → Bool
  negation_holds net packet (Leaf a) = atom_negation_holds net packet a
  negation_holds net packet (Not f) = holds net packet f
  negation_holds net packet (And fs) = some_negation_holds net packet fs
  negation_holds net packet (Or fs) = all_negations_hold net packet fs

  pub all_hold : Lookup → Values → Formulas TypedAtom → Bool
  all_hold net packet Nil = true
  all_hold net packet (Cons f fs) = holds net packet f && all_hold net packet fs

  pub some_hold : Lookup → Values → Formulas TypedAtom → Bool
  some_hold net packet Nil = false
  some_hold net packet (Cons f fs) = holds net packet f || some_hold net packet fs

  pub all_negations_hold : Lookup → Values → Formulas TypedAtom → Bool
  all_negations_hold net packet Nil = true
  all_negations_hold net packet (Cons f fs) = negation_holds net packet f && all_negations_hold net packet fs

  pub some_negation_holds : Lookup → Values → Formulas TypedAtom → Bool
  some_negation_holds net packet Nil = false
  some_negation_holds net packet (Cons f fs) = negation_holds net packet f || some_negation_holds net packet fs
