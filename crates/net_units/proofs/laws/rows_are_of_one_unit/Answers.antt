use Rattle.net_units.proofs.OneUnit.{all_of_one_unit, kinds_share_none}
use Rattle.net_units.proofs.laws.rows_are_of_one_unit.Goals as goal

pub returns-clause-within : goal.returns-clause-within
returns-clause-within c = all_of_one_unit

pub returns-clause-between : goal.returns-clause-between
returns-clause-between c = kinds_share_none
