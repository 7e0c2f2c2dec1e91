use Rattle.nv_base.proofs.RoundTrips.{written_decimal}
use Rattle.nv_base.proofs.laws.written_decimals_are_read.Goals as goal

pub returns : goal.returns
returns c = written_decimal
