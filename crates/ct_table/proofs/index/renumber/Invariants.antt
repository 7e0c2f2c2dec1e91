use Rattle.ct_table.proofs.Numbered.{Numbered}
use Rattle.ct_table.proofs.index.renumber.Given as goal

-- the keys of the entries from this place on have their places
abbrev pub invariant-loop-rest : goal.invariant-loop-rest
invariant-loop-rest l = Numbered l.side l.entries l.map l.rest

abbrev pub decreases-loop-rest : goal.decreases-loop-rest
decreases-loop-rest l = l.rest
