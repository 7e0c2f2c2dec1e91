use Rattle.net_units.proofs.Once.{all_once}
use Rattle.net_units.proofs.Unchanged.{nothing_changed}
use Rattle.net_units.proofs.laws.no_change_makes_no_unit.Goals as goal

pub returns : goal.returns
returns c = λ net sound. nothing_changed net (all_once net sound)
