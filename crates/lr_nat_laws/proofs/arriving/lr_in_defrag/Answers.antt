use Rattle.lr_nat_laws.proofs.Defragging.{defrags}
use Rattle.lr_nat_laws.proofs.arriving.lr_in_defrag.Goals as goal

pub returns : goal.returns
returns c = defrags
