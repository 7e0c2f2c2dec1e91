use Rattle.lr_nat_laws.proofs.Unsnatting.{unsnats}
use Rattle.lr_nat_laws.proofs.arriving.lr_in_unsnat.Goals as goal

pub returns : goal.returns
returns c = unsnats
