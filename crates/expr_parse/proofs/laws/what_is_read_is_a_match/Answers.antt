use Rattle.expr_parse.proofs.Traces.{what_is_read}
use Rattle.expr_parse.proofs.laws.what_is_read_is_a_match.Goals as goal

pub returns : goal.returns
returns c = what_is_read
