-- The check of a match: the first rule that fails, from the left, or the match with fields in place of names.
use Rattle.std.specs.Prelude.{ℕ, Bool, true, false, not, ◌&&◌, Option, Some, None, Result, Ok, Err, if◌then◌else◌}
use Rattle.expr_core.specs.Formula.{Formula, Formulas}
use Rattle.expr_core.specs.Formula.Formula.{Leaf, Not, And, Or}
use Rattle.expr_core.specs.Formula.Formulas.{Nil, Cons}
use Rattle.expr_core.specs.declared.comparison.Rel.{Rel}
use Rattle.expr_core.specs.declared.comparison.Right.{Right}
use Rattle.expr_core.specs.declared.part.Bits.{Bits}
use Rattle.expr_core.specs.declared.part.Part.{Part}
use Rattle.expr_core.specs.declared.expr.Atom.{Atom}
use Rattle.expr_core.specs.declared.expr.Atom.TheVariants.{Truth, Bare, Compare}
use Rattle.expr_core.specs.declared.typed.TypedAtom.{TypedAtom}
use Rattle.expr_core.specs.declared.typed.TypedAtom.TheVariants as typed
use Rattle.expr_check.specs.declared.fault.TypeFault.{TypeFault}
use Rattle.expr_check.specs.declared.fault.TypeFault.TheVariants.{UnknownField, NotAllowedHere, WrongWidth, WrongForm, Memory}
use Rattle.expr_core.specs.declared.role.Role.{Role}
use Rattle.expr_core.specs.declared.subject.Subject.{Subject}
use Rattle.expr_core.specs.declared.subject.Subject.TheVariants as subject
use Rattle.expr_core.specs.Subject.{subject_of}
use Rattle.expr_core.specs.TypeRules.{is_allowed, width_of, bits_fit, right_fits, may_stand_alone, may_be_compared}

-- what the rules say of a part at this offset: the first that fails, or the atom
abbrev pub judged : ℕ → Bool → Bool → Bool → TypedAtom → Result TypedAtom TypeFault
judged offset allowed fits suits atom =
    if not allowed then Err (NotAllowedHere offset) else (if not fits then Err (WrongWidth offset) else (if not suits then Err (WrongForm offset) else Ok atom))

-- a part of this subject alone
abbrev pub alone : Subject → Bits → TypedAtom
alone (subject.Field f) bits = typed.Bare f bits
alone (subject.Pred p) bits = typed.Holds p

-- a comparison of a part of this subject; none of a predicate passes the rules
abbrev pub comparison : Subject → Bits → Rel → Right → TypedAtom
comparison (subject.Field f) bits rel right = typed.Compare f bits rel right
comparison (subject.Pred p) bits rel right = typed.Holds p

abbrev pub checked_bare : Role → Part → Option Subject → Result TypedAtom TypeFault
checked_bare role part None = Err (UnknownField part.offset)
checked_bare role part (Some s) = judged part.offset (is_allowed role s) (bits_fit (width_of s) part.bits) (may_stand_alone s part.bits) (alone s part.bits)

abbrev pub checked_comparison : Role → Part → Rel → Right → Option Subject → Result TypedAtom TypeFault
checked_comparison role part rel right None = Err (UnknownField part.offset)
checked_comparison role part rel right (Some s) =
    judged part.offset (is_allowed role s) (bits_fit (width_of s) part.bits && right_fits (width_of s) part.bits right) (may_be_compared s part.bits rel right) (comparison s part.bits rel right)

abbrev pub checked_atom : Role → Atom → Result TypedAtom TypeFault
checked_atom role (Truth holds) = Ok (typed.Truth holds)
checked_atom role (Bare part) = checked_bare role part (subject_of part.name)
checked_atom role (Compare part rel right) = checked_comparison role part rel right (subject_of part.name)

-- what is made of a match that passed
abbrev pub mapped : {A B : Type 0} → (A → B) → Result A TypeFault → Result B TypeFault
mapped make (Ok a) = Ok (make a)
mapped make (Err fault) = Err fault

-- the first fault of two, or both together
abbrev pub both : {A B C : Type 0} → (A → B → C) → Result A TypeFault → Result B TypeFault → Result C TypeFault
both join (Ok a) (Ok b) = Ok (join a b)
both join (Ok a) (Err fault) = Err fault
both join (Err fault) second = Err fault

abbrev mutual
  -- the match with fields in place of names, or the first fault
  pub checked : Role → Formula Atom → Result (Formula TypedAtom) TypeFault
  checked role (Leaf a) = mapped Leaf (checked_atom role a)
  checked role (Not f) = mapped Not (checked role f)
  checked role (And fs) = mapped And (all_checked role fs)
  checked role (Or fs) = mapped Or (all_checked role fs)

  pub all_checked : Role → Formulas Atom → Result (Formulas TypedAtom) TypeFault
  all_checked role Nil = Ok Nil
  all_checked role (Cons f fs) = both Cons (checked role f) (all_checked role fs)

-- out of memory
abbrev pub is_memory : TypeFault → Bool
is_memory Memory = true
is_memory _ = false
