use Rattle.lr_laws.proofs.Delivery.{delivers}
use Rattle.lr_laws.proofs.at_ports.lr_out_delivery.Goals as goal

pub returns : goal.returns
returns c = delivers
