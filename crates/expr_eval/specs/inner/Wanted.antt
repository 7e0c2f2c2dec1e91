-- A meaning or that of the negation, whichever is asked for: how the code reads both in one.
use Rattle.std.specs.Prelude.{ℕ, Bool, true, false, ◌&&◌, List}
use Rattle.std.specs.List.{list_any, list_all}
use Rattle.nv_base.specs.declared.field.Field.{Field}
use Rattle.pkt_core.specs.Packet.{Values}
use Rattle.pkt_core.specs.Prerequisite.{is_there}
use Rattle.expr_core.specs.Opposite.{opposite}
use Rattle.expr_core.specs.declared.comparison.Rel.{Rel}
use Rattle.expr_core.specs.declared.part.Bits.{Bits}
use Rattle.expr_core.specs.Formula.{Formula}
use Rattle.expr_core.specs.Lookup.{Lookup}
use Rattle.expr_core.specs.declared.typed.TypedAtom.{TypedAtom}
use Rattle.expr_core.specs.declared.test.Test.{Test}
use Rattle.expr_eval.specs.MatchMeaning.{part_of, has, has_not, atom_holds, atom_negation_holds, holds, negation_holds}
use Rattle.expr_eval.specs.Relation.{compares}

abbrev pub meant_test : Bool → Values → Test → Bool
meant_test true packet t = has packet t
meant_test false packet t = has_not packet t

abbrev pub meant_tests : Bool → Values → List Test → Bool
meant_tests true packet ts = list_any (has packet) ts
meant_tests false packet ts = list_all (has_not packet) ts

-- of a comparison with one number
abbrev pub meant_number : Bool → Values → Field → Bits → Rel → ℕ → Bool
meant_number true packet field bits rel number = is_there packet field && compares (part_of packet field bits) rel number
meant_number false packet field bits rel number = is_there packet field && compares (part_of packet field bits) (opposite rel) number

abbrev pub meant_atom : Bool → Lookup → Values → TypedAtom → Bool
meant_atom true net packet a = atom_holds net packet a
meant_atom false net packet a = atom_negation_holds net packet a

abbrev pub meant : Bool → Lookup → Values → Formula TypedAtom → Bool
meant true net packet f = holds net packet f
meant false net packet f = negation_holds net packet f
