use Rattle.lr_laws.proofs.Resolution.{resolves}
use Rattle.lr_laws.proofs.neighbours.lr_in_arp_resolve.Goals as goal

pub returns : goal.returns
returns c = resolves
