use Rattle.ct_core.proofs.Found.{found_there}
use Rattle.ct_core.proofs.laws.entries_found_are_there.Goals as goal

pub returns : goal.returns
returns c = found_there
