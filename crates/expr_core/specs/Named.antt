-- A match that met a check, in names; and a match without the offsets of its parts.
use Rattle.std.specs.Prelude.{ℕ, List}
use Rattle.nv_base.specs.Field.{field_name}
use Rattle.expr_core.specs.Formula.{Formula, formula_map}
use Rattle.expr_core.specs.Predicate.{pred_name}
use Rattle.expr_core.specs.declared.expr.Atom.{Atom}
use Rattle.expr_core.specs.declared.expr.Atom.TheVariants as atom
use Rattle.expr_core.specs.declared.part.Bits.{Bits}
use Rattle.expr_core.specs.declared.part.Bits.TheVariants.{Whole}
use Rattle.expr_core.specs.declared.part.Part.{Part}
use Rattle.expr_core.specs.declared.typed.TypedAtom.{TypedAtom}
use Rattle.expr_core.specs.declared.typed.TypedAtom.TheVariants as typed

-- a part without its offset
abbrev pub part_named : List ℕ → Bits → Part
part_named name bits = record { name = name; bits = bits; offset = 0 }

-- the atom with the names of its field or predicate
abbrev pub named_atom : TypedAtom → Atom
named_atom (typed.Truth b) = atom.Truth b
named_atom (typed.Bare f bits) = atom.Bare (part_named (field_name f) bits)
named_atom (typed.Holds p) = atom.Bare (part_named (pred_name p) Whole)
named_atom (typed.Compare f bits r s) = atom.Compare (part_named (field_name f) bits) r s

-- the match with names in place of fields and predicates
abbrev pub named : Formula TypedAtom → Formula Atom
named t = formula_map named_atom t

abbrev pub part_without_offset : Part → Part
part_without_offset p = part_named p.name p.bits

abbrev pub atom_without_offset : Atom → Atom
atom_without_offset (atom.Truth b) = atom.Truth b
atom_without_offset (atom.Bare p) = atom.Bare (part_without_offset p)
atom_without_offset (atom.Compare p r s) = atom.Compare (part_without_offset p) r s

-- the match, all its offsets zero
abbrev pub without_offsets : Formula Atom → Formula Atom
without_offsets e = formula_map atom_without_offset e
