use Rattle.lr_units.proofs.Whole.{network_in_order, network_members}
use Rattle.lr_units.proofs.network.rows_of_networks_are_those_of_the_units.Goals as goal

pub returns-clause-members : goal.returns-clause-members
returns-clause-members c = network_members

pub returns-clause-ordered : goal.returns-clause-ordered
returns-clause-ordered c = network_in_order
