use Rattle.expr_check.proofs.Passed.{read_back}
use Rattle.expr_check.proofs.laws.a_printed_match_is_checked_as_itself.Goals as goal

pub returns : goal.returns
returns c = read_back
