use Rattle.std.proofs.Common.{refl}
use Rattle.sb_rows.proofs.AskedSame.{not_there}
use Rattle.sb_rows.proofs.index.Index.place_of.Goals as goal

pub returns-in-None-clause-absent : goal.returns-in-None-clause-absent
returns-in-None-clause-absent c none p there =
    not_there c.args.row.now p c.args.self.now c.of-asks.result c.in_short.result c.of-asks.ensures.told c.in_short.ensures.told
    (λ other same held. c.place_asked-in-None.ensures.absent none other p same held there)
    (λ other same held. c.in-None.ensures.absent refl other p same held there)
    (c.requires.covered p c.args.row.now there)
