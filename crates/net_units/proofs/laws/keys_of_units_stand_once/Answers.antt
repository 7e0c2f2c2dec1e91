use Rattle.net_units.proofs.Once.{all_once}
use Rattle.net_units.proofs.laws.keys_of_units_stand_once.Goals as goal

pub returns : goal.returns
returns c = all_once
