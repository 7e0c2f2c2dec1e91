use Rattle.lr_laws.proofs.Requests.{asks}
use Rattle.lr_laws.proofs.neighbours.lr_in_arp_request.Goals as goal

pub returns : goal.returns
returns c = asks
