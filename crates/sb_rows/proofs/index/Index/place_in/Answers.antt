use Rattle.std.proofs.Common.{refl}
use Rattle.sb_rows.proofs.Probed.{from_either}
use Rattle.sb_rows.proofs.index.Index.place_in.Goals as goal

pub returns-in-None-clause-absent : goal.returns-in-None-clause-absent
returns-in-None-clause-absent c none p held there = from_either held (λ filled. c.in-None.ensures.absent refl p filled there) (λ more. c.place_in_more.ensures.absent none p more there)
