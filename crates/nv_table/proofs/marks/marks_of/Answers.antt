use Rattle.std.proofs.Common.{◌≡◌, List, map-id, arith, sym, ◌∙◌, subst}
use Rattle.std.proofs.lemmas.Iterator.Adapters.{YieldsList-from_vec}
use Rattle.std.proofs.lemmas.Iterator.Consumers.{YieldsList-end}
use Rattle.nv_map.proofs.Rising.{rise_none}
use Rattle.nv_map.proofs.Values.{exact_order}
use Rattle.nv_table.specs.inner.Index.{mark_cmp, HasMarks}
use Rattle.nv_table.proofs.Moves.{exact_marks, made_first, made_by, mark_among}
use Rattle.nv_table.proofs.marks.marks_of.Goals as goal

pub loop-tag-init : goal.loop-tag-init
loop-tag-init g c =
    let exact = exact_marks (exact_order g.R.Tag.PartialEq.eq g.R.Tag.Ord.cmp g.met.R.Tag.Ord.matches_eq g.met.R.Tag.Kept.exact) in
    record {
      rise = rw c.new-marks.ensures (rise_none (Unit {0}) (mark_cmp g.R.Tag.Ord.cmp));
      made = rw c.new-marks.ensures (made_first g.met.R.Tag.Ord.total exact c.number-number.result);
    }

pub loop-tag-preserved : goal.loop-tag-preserved
loop-tag-preserved g c =
    let exact = exact_marks (exact_order g.R.Tag.PartialEq.eq g.R.Tag.Ord.cmp g.met.R.Tag.Ord.matches_eq g.met.R.Tag.Kept.exact) in
    record {
      rise = c.put_once.ensures.rise;
      made = made_by g.met.R.Tag.Ord.total exact c.number-number.result c.loop-tag.yielded c.in-Some.tag c.in_ok-new.field-0 c.loop-tag.marks c.put_once.new.marks c.in_ok-new.ensures c.put_once.ensures.new c.put_once.ensures.again c.loop-tag.invariant.made;
    }

pub returns-clause-rise : goal.returns-clause-rise
returns-clause-rise g c = c.loop-tag.invariant.rise

pub returns-clause-marked : goal.returns-clause-marked
returns-clause-marked g c =
    let e = YieldsList-end (YieldsList-from_vec c.into_items-tag-items.result.items c.into_iter-tag-iterator.ensures.into_iter_gives.0 (omega arith)) c.loop-tag.yielded c.loop-tag.tag-iterator c.loop-tag.yielded_by c.next.result c.next.new.self c.in-None.is c.next.ensures.steps in
    let tags : c.loop-tag.yielded ≡ g.R.Record.tags c.args.record.now = sym (map-id c.loop-tag.yielded) ∙ e.0 ∙ c.into_items-tag-items.ensures ∙ c.in_ok-tags.ensures in
    let P : List g.row.R-Tag.Denot → Type 0 = λ l. HasMarks g.R.Tag.Ord.cmp (mark_among g.R.Tag.Ord.cmp c.number-number.result l) c.loop-tag.marks in
    rw (← c.number-number.ensures) (subst P tags c.loop-tag.invariant.made)
