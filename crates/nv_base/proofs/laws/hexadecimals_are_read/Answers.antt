use Rattle.nv_base.proofs.RoundTrips.{each_hexadecimal}
use Rattle.nv_base.proofs.laws.hexadecimals_are_read.Goals as goal

pub returns : goal.returns
returns c = each_hexadecimal
