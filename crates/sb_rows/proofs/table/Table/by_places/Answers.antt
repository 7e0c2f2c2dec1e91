use Rattle.sb_rows.proofs.PlacedPut.{covers_none, covers_some}
use Rattle.sb_rows.proofs.table.Table.by_places.Goals as goal
use Rattle.sb_rows.proofs.table.Table.by_places.Goals.{then-len-lt-FEW, else-len-lt-FEW+in_ok-of}

pub invariant_of-result : goal.invariant_of-result
invariant_of-result c = record {
  placed = c.requires.placed;
  ordered = c.requires.order;
  covered = elim c.if-len-lt-FEW.branch [
    | then-len-lt-FEW w ↦ covers_none c.args.rows.entries c.if-len-lt-FEW.index w.index-is
    | else-len-lt-FEW+in_ok-of w ↦ covers_some c.args.rows.entries c.if-len-lt-FEW.index w.in_ok-of.field-0 w.index-is w.in_ok-of.ensures
  ];
}
