use Rattle.sb_rows.proofs.PlacedPut.{goes_between}
use Rattle.sb_rows.proofs.table.free_place.Goals as goal

pub returns : goal.returns
returns c =
    goes_between c.args.rows.now.entries c.args.row.now c.rank-rank.result c.first_place-first.result c.in_ok-at.at c.rank-rank.ensures.fits c.rank-rank.ensures.rank c.first_place-first.ensures c.in_ok-at.ensures.parted
    c.place_of_last-before.result c.place_of_first-after.result c.place_of_last-before.ensures.last c.place_of_last-before.ensures.none c.place_of_first-after.ensures.first c.place_of_first-after.ensures.none
    c.place_between.result c.place_between.ensures.from c.place_between.ensures.below c.place_between.ensures.before c.place_between.ensures.after
