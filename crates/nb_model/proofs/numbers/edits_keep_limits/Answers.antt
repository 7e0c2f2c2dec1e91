use Rattle.nb_model.proofs.Within.{edit_within}
use Rattle.nb_model.proofs.numbers.edits_keep_limits.Goals as goal

pub returns : goal.returns
returns c = edit_within
