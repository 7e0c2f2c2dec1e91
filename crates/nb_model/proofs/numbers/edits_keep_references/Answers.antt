use Rattle.nb_model.proofs.EditsRefer.{edit_refers}
use Rattle.nb_model.proofs.numbers.edits_keep_references.Goals as goal

pub returns : goal.returns
returns c = edit_refers
