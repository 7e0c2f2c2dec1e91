use Rattle.nv_base.proofs.PrefixTrips.{written_prefix}
use Rattle.nv_base.proofs.laws.written_prefixes_are_read.Goals as goal

pub returns : goal.returns
returns c = written_prefix
