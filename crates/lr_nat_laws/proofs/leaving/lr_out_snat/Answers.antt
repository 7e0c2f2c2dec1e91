use Rattle.lr_nat_laws.proofs.Hiding.{hides}
use Rattle.lr_nat_laws.proofs.leaving.lr_out_snat.Goals as goal

pub returns : goal.returns
returns c = hides
