use Rattle.nb_model.proofs.ApartEdits.{apart}
use Rattle.nb_model.proofs.Within.{edit_tested}
use Rattle.nb_model.proofs.records.edits_keep_records_apart.Goals as goal

pub returns : goal.returns
returns c = λ net edit names before passes. apart net edit names before (edit_tested net edit passes)
