use Rattle.std.proofs.Common.{◌∙◌, ◌∷◌, [], map, sym, subst, refl}
use Rattle.std.specs.Map.Iter.{deref_pair}
use Rattle.std.proofs.lemmas.List.{map-append}
use Rattle.std.proofs.lemmas.Map.Iter.{iter_end}
use Rattle.nv_map.specs.Map.{value_at}
use Rattle.nv_map.proofs.Rising.{rise_none}
use Rattle.nv_map.proofs.Values.{exact_order}
use Rattle.inc_table.specs.declared.delta.Change.{Change}
use Rattle.inc_table.specs.Delta.{IsAbove, change_between}
use Rattle.inc_table.proofs.Ends.{above_end}
use Rattle.inc_table.proofs.Gone.{above_gone, split_at}
use Rattle.inc_group.proofs.Regrouped.{rise_told}
use Rattle.inc_first.specs.inner.Marks.{IsUpdated, MarksRise}
use Rattle.inc_first.proofs.Ordered.{rises_more, rises_none, updated_more, updated_none}
use Rattle.inc_first.proofs.firsts.update.Goals as goal

pub loop-group-init : goal.loop-group-init
loop-group-init g c =
    let exact = exact_order g.A.PartialEq.eq g.A.Ord.cmp g.met.A.Ord.matches_eq g.met.A.Kept.exact in
    record {
      table = updated_none g.met.A.Ord.total exact c.args.marks.now c.args.table.now;
      marks = rises_none g.met.A.Ord.total exact c.args.marks.now g.K.Ord.cmp;
      rise = c.unchanged-changed.ensures.rise;
      changed = c.unchanged-changed.ensures.difference;
      told = rw c.unchanged-changed.ensures.none (rise_none (Change g.row.K.Denot) g.A.Ord.cmp);
      above = λ k a. rw c.unchanged-changed.ensures.none tt;
    }

pub change_at-requires : goal.change_at-requires
change_at-requires g c =
    let split = split_at c.args.touched.now c.into_iter-group-iterator.result c.loop-group.group-iterator c.next.new.self c.loop-group.yielded c.next.result (c.in-Some.group, c.in-Some.field-0-1) (c.into_iter-group-iterator.ensures.into_iter_gives ∙ c.iter-group-items.ensures.entries) c.loop-group.yielded_by c.in-Some.is c.next.ensures.steps in
    let above = above_gone g.A.Ord.cmp c.args.touched.now c.next.new.self (map deref_pair c.loop-group.yielded) c.loop-group.yielded (c.in-Some.group, c.in-Some.field-0-1) c.in-Some.group.now c.iter-group-items.ensures.rise split refl refl in
    c.loop-group.invariant.above c.in-Some.group.now above

pub loop-group-preserved : goal.loop-group-preserved
loop-group-preserved g c =
    let split = split_at c.args.touched.now c.into_iter-group-iterator.result c.loop-group.group-iterator c.next.new.self c.loop-group.yielded c.next.result (c.in-Some.group, c.in-Some.field-0-1) (c.into_iter-group-iterator.ensures.into_iter_gives ∙ c.iter-group-items.ensures.entries) c.loop-group.yielded_by c.in-Some.is c.next.ensures.steps in
    let above = above_gone g.A.Ord.cmp c.args.touched.now c.next.new.self (map deref_pair c.loop-group.yielded) c.loop-group.yielded (c.in-Some.group, c.in-Some.field-0-1) c.in-Some.group.now c.iter-group-items.ensures.rise split refl refl in
    let grown = map-append deref_pair c.loop-group.yielded ((c.in-Some.group, c.in-Some.field-0-1) ∷ []) in
    let exact = exact_order g.A.PartialEq.eq g.A.Ord.cmp g.met.A.Ord.matches_eq g.met.A.Kept.exact in
    record {
      table = subst (λ l. IsUpdated g.A.Ord.cmp c.args.marks.now l c.args.table.now c.change_at.new.self) (sym grown)
          (updated_more g.met.A.Ord.total exact c.args.marks.now c.in-Some.group.now c.in-Some.field-0-1.now (map deref_pair c.loop-group.yielded) c.in_ok-first.first c.args.table.now c.loop-group.table c.change_at.new.self c.in_ok-first.ensures.first c.loop-group.invariant.table c.in_ok-change_at.ensures.applied);
      marks = subst (λ l. MarksRise g.K.Ord.cmp g.A.Ord.cmp l c.args.marks.now) (sym grown)
          (rises_more g.met.A.Ord.total exact c.args.marks.now g.K.Ord.cmp c.in-Some.group.now c.in-Some.field-0-1.now (map deref_pair c.loop-group.yielded) c.loop-group.invariant.marks c.in_ok-first.ensures.rise);
      rise = c.change_at.ensures.rise;
      changed = c.in_ok-change_at.ensures.difference c.args.table.now c.loop-group.invariant.changed;
      told = rise_told g.met.A.Ord.total c.loop-group.changed c.change_at.new.told c.in-Some.group.now (change_between g.K.PartialEq.eq (value_at g.A.Ord.cmp c.in-Some.group.now c.loop-group.table) c.in_ok-first.first) c.loop-group.invariant.told (c.loop-group.invariant.above c.in-Some.group.now above) c.in_ok-change_at.ensures.told;
      above = λ k a. c.in_ok-change_at.ensures.above k (above_end g.A.Ord.cmp k (map deref_pair c.loop-group.yielded) (c.in-Some.group.now, c.in-Some.field-0-1.now) (subst (λ l. IsAbove g.A.Ord.cmp k l) grown a));
    }

pub returns-clause-table : goal.returns-clause-table
returns-clause-table g c =
    subst (λ l. IsUpdated g.A.Ord.cmp c.args.marks.now l c.args.table.now c.loop-group.table)
    (iter_end deref_pair c.args.touched.now c.loop-group.yielded c.into_iter-group-iterator.result c.loop-group.group-iterator c.next.new.self c.next.result (c.into_iter-group-iterator.ensures.into_iter_gives ∙ c.iter-group-items.ensures.entries) c.loop-group.yielded_by c.in-None.is c.next.ensures.steps).0
    c.loop-group.invariant.table

pub returns-clause-marks : goal.returns-clause-marks
returns-clause-marks g c =
    subst (λ l. MarksRise g.K.Ord.cmp g.A.Ord.cmp l c.args.marks.now)
    (iter_end deref_pair c.args.touched.now c.loop-group.yielded c.into_iter-group-iterator.result c.loop-group.group-iterator c.next.new.self c.next.result (c.into_iter-group-iterator.ensures.into_iter_gives ∙ c.iter-group-items.ensures.entries) c.loop-group.yielded_by c.in-None.is c.next.ensures.steps).0
    c.loop-group.invariant.marks

pub returns-clause-rise : goal.returns-clause-rise
returns-clause-rise g c = c.loop-group.invariant.rise

pub returns-clause-changed : goal.returns-clause-changed
returns-clause-changed g c = c.loop-group.invariant.changed

pub returns-clause-told : goal.returns-clause-told
returns-clause-told g c = c.loop-group.invariant.told
