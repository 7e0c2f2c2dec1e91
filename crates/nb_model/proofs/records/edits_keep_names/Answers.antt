use Rattle.nb_model.proofs.NamedEdits.{named}
use Rattle.nb_model.proofs.Within.{edit_tested}
use Rattle.nb_model.proofs.records.edits_keep_names.Goals as goal

pub returns : goal.returns
returns c = λ net edit before passes. named net edit before (edit_tested net edit passes)
