use Rattle.lr_nat_laws.proofs.Defragging.{undnats}
use Rattle.lr_nat_laws.proofs.leaving.lr_out_undnat.Goals as goal

pub returns : goal.returns
returns c = undnats
