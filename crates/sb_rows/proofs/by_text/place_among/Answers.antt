use Rattle.std.proofs.Common.{◌≤◌, ◌<◌, ◌∙◌, length, sym, arith}
use Rattle.sb_rows.proofs.Place.{after_from, none_after_to}
use Rattle.sb_rows.proofs.by_text.place_among.Goals.{then-branch, else-branch}
use Rattle.sb_rows.proofs.by_text.place_among.Goals as goal

pub loop-low-preserved : goal.loop-low-preserved
loop-low-preserved c =
    let known = c.loop-low.invariant in
    let bounds : (c.loop-low.low ≤ c.loop-low.middle) × (c.loop-low.middle < c.loop-low.high) = known.middle c.loop-low-test.true in
    let inside : c.loop-low.middle < length c.args.rows.now = omega (arith, known.bound, bounds.1) in
    elim c.if-branch.branch [
      | then-branch w ↦ record {
        order = omega (arith, w.low-is, w.high-is, bounds.0);
        bound = omega (arith, w.high-is, inside);
        middle = λ lt. (omega arith, omega arith);
        before = λ k d from below. known.before k d from (omega (arith, w.low-is, below));
        after = λ k d from below.
            after_from c.args.rows.now c.requires c.args.row.now c.loop-low.middle c.index-rows-middle.result inside c.index-rows-middle.is (sym w.if-branch.true ∙ c.in_ok-is_after.ensures) k d (omega (arith, w.high-is, from)) below;
      }
      | else-branch w ↦ record {
        order = omega (arith, w.low-is, w.high-is, bounds.1);
        bound = omega (arith, w.high-is, known.bound);
        middle = λ lt. (omega arith, omega arith);
        before = λ k d from below.
            none_after_to c.args.rows.now c.requires c.args.row.now c.loop-low.middle c.index-rows-middle.result inside c.index-rows-middle.is (sym w.if-branch.false ∙ c.in_ok-is_after.ensures) k d from (omega (arith, w.low-is, below));
        after = λ k d from below. known.after k d (omega (arith, w.high-is, from)) below;
      }
    ]
