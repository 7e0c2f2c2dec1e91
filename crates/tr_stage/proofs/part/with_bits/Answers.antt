use Rattle.tr_stage.proofs.Parts.{field_fits}
use Rattle.tr_stage.proofs.part.with_bits.Goals as goal

pub replaced-requires-clause-old : goal.replaced-requires-clause-old
replaced-requires-clause-old c = field_fits c.args.old c.args.width c.requires.width c.requires.old

pub replaced-requires-in-Range-clause-old : goal.replaced-requires-in-Range-clause-old
replaced-requires-in-Range-clause-old c = field_fits c.args.old c.args.width c.requires.width c.requires.old
