use Rattle.lr_laws.proofs.TakenIn.{takes_in}
use Rattle.lr_laws.proofs.input.lr_in_ip_input.Goals as goal

pub returns : goal.returns
returns c = takes_in
