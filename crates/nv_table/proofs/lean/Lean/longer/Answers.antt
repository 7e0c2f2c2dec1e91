use Rattle.nv_map.proofs.Values.{exact_order}
use Rattle.nv_table.proofs.Moves.{exact_marks}
use Rattle.nv_table.proofs.OneApart.{alone_rises, alone_marked}
use Rattle.nv_table.proofs.lean.Lean.longer.Goals as goal

pub invariant_of-result : goal.invariant_of-result
invariant_of-result g c =
    let exact = exact_marks (exact_order g.R.Tag.PartialEq.eq g.R.Tag.Ord.cmp g.met.R.Tag.Ord.matches_eq g.met.R.Tag.Kept.exact) in
    record {
      marks_rise = rw (c.put.ensures.entries, c.in_ok-new.ensures, c.new-marks.ensures) (alone_rises g.met.R.Tag.Ord.total exact c.in_ok-tag.tag c.number.result);
      marked = rw (c.put.ensures.entries, c.in_ok-new.ensures, c.new-marks.ensures, c.number.ensures) (alone_marked g.met.R.Tag.Ord.total exact c.in_ok-tag.tag _ _ c.in_ok-tag.ensures);
    }
