use Rattle.std.proofs.Common.{length}
use Rattle.nb_edit.proofs.command.+fits.Given as goal

abbrev pub decreases-fits : goal.decreases-fits
decreases-fits l = length l.places.now
