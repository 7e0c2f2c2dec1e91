use Rattle.lr_laws.proofs.RoutedPackets.{routes}
use Rattle.lr_laws.proofs.routing.lr_in_ip_routing.Goals as goal

pub returns : goal.returns
returns c = routes
