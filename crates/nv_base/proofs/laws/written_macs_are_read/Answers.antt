use Rattle.nv_base.proofs.ByteTrips.{written_mac}
use Rattle.nv_base.proofs.laws.written_macs_are_read.Goals as goal

pub returns : goal.returns
returns c = written_mac
