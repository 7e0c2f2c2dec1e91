-- A match that passes the check of its role is well-typed.
use Rattle.std.specs.Prelude.{◌≡◌, Ok}
use Rattle.expr_core.specs.Formula.{Formula}
use Rattle.expr_core.specs.WellTyped.{IsTyped}
use Rattle.expr_core.specs.declared.expr.Atom.{Atom}
use Rattle.expr_core.specs.declared.role.Role.{Role}
use Rattle.expr_core.specs.declared.typed.TypedAtom.{TypedAtom}
use Rattle.expr_check.specs.Check.{checked}
use Rattle.expr_check.proofs.Passed.{well_typed}

pub is_typed : (role : Role) (e : Formula Atom) (t : Formula TypedAtom) → checked role e ≡ Ok t → IsTyped role t
is_typed role e t passes = (well_typed role e t passes).1
