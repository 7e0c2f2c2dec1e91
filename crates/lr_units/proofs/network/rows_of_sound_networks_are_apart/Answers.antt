use Rattle.lr_units.proofs.Whole.{network_apart}
use Rattle.lr_units.proofs.network.rows_of_sound_networks_are_apart.Goals as goal

pub returns : goal.returns
returns c = network_apart
