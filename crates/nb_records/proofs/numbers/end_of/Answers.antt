use Rattle.std.proofs.Common.{sym}
use Rattle.nb_records.proofs.Counted.{last_counts}
use Rattle.nb_records.proofs.numbers.end_of.Goals as goal

pub returns-in-Some : goal.returns-in-Some
returns-in-Some c = last_counts c.args.blocks.now c.in-Some.block.now c.requires (sym c.in-Some.ensures.value)
