use Rattle.inc_table.proofs.Told.{difference_none}
use Rattle.inc_table.proofs.owned.Owned.unchanged.Goals as goal

pub returns-clause-difference : goal.returns-clause-difference
returns-clause-difference g c = rw c.new.ensures (difference_none g.met.K.Ord.total g.V.PartialEq.eq g.met.V.Eq.laws.refl c.args.self.now)
