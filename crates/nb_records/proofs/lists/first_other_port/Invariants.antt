use Rattle.std.proofs.Common.{◌-◌, length}
use Rattle.nb_records.proofs.lists.first_other_port.Given as goal

abbrev pub decreases-loop-at : goal.decreases-loop-at
decreases-loop-at l = length l.listed - l.at
