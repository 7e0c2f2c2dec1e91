use Rattle.lr_nat_laws.proofs.Redirecting.{redirects_new}
use Rattle.lr_nat_laws.proofs.arriving.lr_in_dnat.Goals as goal

pub returns : goal.returns
returns c = redirects_new
