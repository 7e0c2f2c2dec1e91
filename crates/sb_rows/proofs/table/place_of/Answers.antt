use Rattle.std.proofs.lemmas.Map.Made.{Contains-from_values_of}
use Rattle.sb_rows.proofs.table.place_of.Goals as goal

pub place_of-requires-clause-covered : goal.place_of-requires-clause-covered
place_of-requires-clause-covered c = c.requires.covered c.in-Some.index c.in-Some.is

pub returns-in-Some-clause-absent : goal.returns-in-Some-clause-absent
returns-in-Some-clause-absent c none there =
    let place = Contains-from_values_of c.args.rows.now.entries c.args.row.now there in
    c.place_of.ensures.absent none place.0 place.1
