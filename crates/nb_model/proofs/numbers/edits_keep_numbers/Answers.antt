use Rattle.nb_model.proofs.EditsNumbered.{edit_numbered}
use Rattle.nb_model.proofs.numbers.edits_keep_numbers.Goals as goal

pub returns : goal.returns
returns c = edit_numbered
