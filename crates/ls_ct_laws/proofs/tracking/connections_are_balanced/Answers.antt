use Rattle.ls_ct_laws.proofs.Balancing.{balances_new}
use Rattle.ls_ct_laws.proofs.tracking.connections_are_balanced.Goals as goal

pub returns : goal.returns
returns c = balances_new
