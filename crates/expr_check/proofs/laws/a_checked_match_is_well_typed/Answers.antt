use Rattle.expr_check.proofs.Passed.{well_typed}
use Rattle.expr_check.proofs.laws.a_checked_match_is_well_typed.Goals as goal

pub returns : goal.returns
returns c = well_typed
