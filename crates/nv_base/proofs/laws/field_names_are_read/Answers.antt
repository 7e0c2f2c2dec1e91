use Rattle.nv_base.proofs.Fields.{name_read}
use Rattle.nv_base.proofs.laws.field_names_are_read.Goals as goal

pub returns : goal.returns
returns c = name_read
