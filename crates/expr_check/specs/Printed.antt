-- Matches that are told apart by their text.
use Rattle.std.specs.Prelude.{◌≤◌}
use Rattle.expr_core.specs.Formula.{Formula}
use Rattle.expr_core.specs.Named.{named}
use Rattle.expr_core.specs.Text.{expr_writing}
use Rattle.expr_core.specs.WellFormed.{IsWellFormed, levels_of}
use Rattle.expr_core.specs.WellTyped.{IsTyped}
use Rattle.expr_core.specs.declared.role.Role.{Role}
use Rattle.expr_core.specs.declared.typed.TypedAtom.{TypedAtom}
use Rattle.expr_parse.specs.Grammar.{level_limit}
use Rattle.expr_parse.specs.Written.{IsLeaf}

-- well-typed in the role, and with a text that opens at most 64 levels
pub record IsPrintable (role : Role) (t : Formula TypedAtom) : Type 0 where
  pub typed : IsTyped role t
  pub formed : IsWellFormed IsLeaf (named t)
  pub shallow : levels_of expr_writing (named t) ≤ level_limit
