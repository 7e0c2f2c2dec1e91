use Rattle.nv_base.proofs.Fields.{in_order, at_its_number}
use Rattle.nv_base.proofs.laws.fields_are_at_their_numbers.Goals as goal

pub returns : goal.returns
returns c = record { order = in_order; each = at_its_number }
