use Rattle.ct_core.proofs.Found.{not_there}
use Rattle.ct_core.proofs.laws.entries_not_found_are_not_there.Goals as goal

pub returns : goal.returns
returns c = not_there
