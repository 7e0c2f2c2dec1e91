use Rattle.expr_core.proofs.Names.{written_by_name}
use Rattle.expr_core.proofs.laws.checked_matches_are_written_by_name.Goals as goal

pub returns : goal.returns
returns c = written_by_name
