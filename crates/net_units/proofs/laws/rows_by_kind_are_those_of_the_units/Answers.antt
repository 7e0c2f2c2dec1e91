use Rattle.net_units.proofs.ByKind.{rows_alike}
use Rattle.net_units.proofs.laws.rows_by_kind_are_those_of_the_units.Goals as goal

pub returns : goal.returns
returns c = rows_alike
