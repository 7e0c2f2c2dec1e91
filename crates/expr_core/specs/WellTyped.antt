-- Which matches are well-typed: no type rule fails.
use Rattle.std.specs.Prelude.{◌≡◌, Bool, true, ◌&&◌}
use Rattle.expr_core.specs.Formula.{Formula, Formulas}
use Rattle.expr_core.specs.Formula.Formula.{Leaf, Not, And, Or}
use Rattle.expr_core.specs.Formula.Formulas.{Nil, Cons}
use Rattle.expr_core.specs.TypeRules.{is_allowed, width_of, bits_fit, right_fits, may_stand_alone, may_be_compared}
use Rattle.expr_core.specs.declared.role.Role.{Role}
use Rattle.expr_core.specs.declared.subject.Subject.TheVariants.{Field, Pred}
use Rattle.expr_core.specs.declared.typed.TypedAtom.{TypedAtom}
use Rattle.expr_core.specs.declared.typed.TypedAtom.TheVariants.{Truth, Bare, Holds, Compare}

-- it is allowed in the role, its bits and numbers fit, and the field is used so
abbrev pub is_typed_atom : Role → TypedAtom → Bool
is_typed_atom role (Truth b) = true
is_typed_atom role (Bare f bits) = is_allowed role (Field f) && (bits_fit (width_of (Field f)) bits && may_stand_alone (Field f) bits)
is_typed_atom role (Holds p) = is_allowed role (Pred p)
is_typed_atom role (Compare f bits rel right) = is_allowed role (Field f) && ((bits_fit (width_of (Field f)) bits && right_fits (width_of (Field f)) bits right) && may_be_compared (Field f) bits rel right)

abbrev mutual
  -- the match is well-typed in the role
  pub IsTyped : Role → Formula TypedAtom → Type 0
  IsTyped role (Leaf a) = is_typed_atom role a ≡ true
  IsTyped role (Not t) = IsTyped role t
  IsTyped role (And ts) = AreTyped role ts
  IsTyped role (Or ts) = AreTyped role ts

  pub AreTyped : Role → Formulas TypedAtom → Type 0
  AreTyped role Nil = Unit {0}
  AreTyped role (Cons t ts) = IsTyped role t × AreTyped role ts
