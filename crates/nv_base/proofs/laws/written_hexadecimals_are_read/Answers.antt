use Rattle.nv_base.proofs.RoundTrips.{written_hexadecimal}
use Rattle.nv_base.proofs.laws.written_hexadecimals_are_read.Goals as goal

pub returns : goal.returns
returns c = written_hexadecimal
