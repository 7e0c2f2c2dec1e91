use Rattle.expr_parse.proofs.WellFormed.{formed}
use Rattle.expr_parse.proofs.laws.what_is_read_is_well_formed.Goals as goal

pub returns : goal.returns
returns c = formed
