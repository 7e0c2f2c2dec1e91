use Rattle.nb_model.proofs.ReadableEdits.{readable}
use Rattle.nb_model.proofs.records.edits_keep_records_readable.Goals as goal

pub returns : goal.returns
returns c = readable
