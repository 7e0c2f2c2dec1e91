use Rattle.nv_base.proofs.ByteTrips.{written_address}
use Rattle.nv_base.proofs.laws.written_addresses_are_read.Goals as goal

pub returns : goal.returns
returns c = written_address
