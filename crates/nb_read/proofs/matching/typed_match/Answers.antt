use Rattle.nb_read.proofs.matching.typed_match.Goals as goal

pub returns-in-Ok-clause-read : goal.returns-in-Ok-clause-read
returns-in-Ok-clause-read c = rw c.in-Ok.ensures.tree c.checked_match.ensures.read

pub returns-in-Ok-clause-typed : goal.returns-in-Ok-clause-typed
returns-in-Ok-clause-typed c = c.checked_match.ensures.typed

pub returns-in-Ok-clause-refused : goal.returns-in-Ok-clause-refused
returns-in-Ok-clause-refused c = rw c.in-Ok.ensures.tree c.checked_match.ensures.refused
