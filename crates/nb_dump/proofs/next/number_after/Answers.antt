use Rattle.std.proofs.Common.{◌<◌, sym}
use Rattle.nb_dump.proofs.Gaps.{free_above, free_before, found_above}
use Rattle.nb_dump.proofs.next.number_after.Goals as goal

pub returns-in-Some-clause-above : goal.returns-in-Some-clause-above
returns-in-Some-clause-above g c = rw (c.from.ensures, c.number.ensures) (found_above g.R.Record.number c.args.low c.in-Some.record.now c.args.table.now (sym c.in-Some.ensures.record))

pub returns-in-Some-clause-free : goal.returns-in-Some-clause-free
returns-in-Some-clause-free g c n up under =
    let under' : n < (g.R.Record.number c.in-Some.record.now).0 = rw (c.from.ensures, c.number.ensures) at under in
    free_before g.R.Record.number c.args.low n c.in-Some.record.now c.args.table.now c.in-Some.ensures.rise (sym c.in-Some.ensures.record) up under'

pub returns-in-None-clause-free : goal.returns-in-None-clause-free
returns-in-None-clause-free g c n up under = free_above g.R.Record.number c.args.low n c.args.table.now (sym c.in-None.ensures.record) up
