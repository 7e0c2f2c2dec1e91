use Rattle.nb_model.proofs.RisesEdits.{edit_limit}
use Rattle.nb_model.proofs.limits.edits_raise_few_kinds.Goals as goal

pub returns : goal.returns
returns c = edit_limit
