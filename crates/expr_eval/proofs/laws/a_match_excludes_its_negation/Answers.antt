use Rattle.expr_eval.proofs.Apart.{apart}
use Rattle.expr_eval.proofs.laws.a_match_excludes_its_negation.Goals as goal

pub returns : goal.returns
returns c = apart
