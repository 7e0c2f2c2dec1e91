use Rattle.std.proofs.Common.{◌∙◌, ◌∷◌, [], map, sym, subst, refl}
use Rattle.std.specs.Map.Iter.{deref_pair}
use Rattle.std.proofs.lemmas.List.{map-append}
use Rattle.std.proofs.lemmas.Map.Iter.{iter_end}
use Rattle.nv_map.proofs.Values.{exact_order}
use Rattle.inc_table.specs.Delta.{IsAbove}
use Rattle.inc_table.proofs.Ends.{above_end}
use Rattle.inc_table.proofs.Gone.{above_gone, split_at}
use Rattle.inc_join.specs.Join.{with_right}
use Rattle.inc_join.specs.inner.Index.{IsRejoined}
use Rattle.inc_join.proofs.Rejoined.{rejoined_more}
use Rattle.inc_join.proofs.joining.rejoin.Goals as goal

pub loop-key-init : goal.loop-key-init
loop-key-init g c = record {
  table = λ k. refl;
  rise = c.unchanged-changed.ensures.rise;
  told = c.unchanged-changed.ensures.difference;
  above = λ k a. rw c.unchanged-changed.ensures.none tt;
}

pub change_at-requires : goal.change_at-requires
change_at-requires g c =
    let split = split_at c.args.touched.now c.into_iter-key-iterator.result c.loop-key.key-iterator c.next.new.self c.loop-key.yielded c.next.result (c.in-Some.key, c.in-Some.field-0-1) (c.into_iter-key-iterator.ensures.into_iter_gives ∙ c.iter-key-items.ensures.entries) c.loop-key.yielded_by c.in-Some.is c.next.ensures.steps in
    let above = above_gone g.L.LeftKey.Ord.cmp c.args.touched.now c.next.new.self (map deref_pair c.loop-key.yielded) c.loop-key.yielded (c.in-Some.key, c.in-Some.field-0-1) c.in-Some.key.now c.iter-key-items.ensures.rise split refl refl in
    c.loop-key.invariant.above c.in-Some.key.now above

pub loop-key-preserved : goal.loop-key-preserved
loop-key-preserved g c =
    let split = split_at c.args.touched.now c.into_iter-key-iterator.result c.loop-key.key-iterator c.next.new.self c.loop-key.yielded c.next.result (c.in-Some.key, c.in-Some.field-0-1) (c.into_iter-key-iterator.ensures.into_iter_gives ∙ c.iter-key-items.ensures.entries) c.loop-key.yielded_by c.in-Some.is c.next.ensures.steps in
    let above = above_gone g.L.LeftKey.Ord.cmp c.args.touched.now c.next.new.self (map deref_pair c.loop-key.yielded) c.loop-key.yielded (c.in-Some.key, c.in-Some.field-0-1) c.in-Some.key.now c.iter-key-items.ensures.rise split refl refl in
    let grown = map-append deref_pair c.loop-key.yielded ((c.in-Some.key, c.in-Some.field-0-1) ∷ []) in
    record {
      table = subst (λ l. IsRejoined g.L.LeftKey.Ord.cmp (with_right g.L.RightKey.Ord.cmp g.L.Link.link_of c.args.rights.now) l c.args.table.now c.change_at.new.self) (sym grown)
          (rejoined_more g.met.L.LeftKey.Ord.total (exact_order g.L.LeftKey.PartialEq.eq g.L.LeftKey.Ord.cmp g.met.L.LeftKey.Ord.matches_eq g.met.L.LeftKey.Kept.exact) (with_right g.L.RightKey.Ord.cmp g.L.Link.link_of c.args.rights.now) c.in-Some.key.now c.in-Some.field-0-1.now (map deref_pair c.loop-key.yielded) c.in_ok-entry.entry c.args.table.now c.loop-key.table c.change_at.new.self above c.in_ok-entry.ensures.entry c.loop-key.invariant.table c.in_ok-change_at.ensures.applied);
      rise = c.change_at.ensures.rise;
      told = c.in_ok-change_at.ensures.difference c.args.table.now c.loop-key.invariant.told;
      above = λ k a. c.in_ok-change_at.ensures.above k (above_end g.L.LeftKey.Ord.cmp k (map deref_pair c.loop-key.yielded) (deref_pair (c.in-Some.key, c.in-Some.field-0-1)) (subst (λ l. IsAbove g.L.LeftKey.Ord.cmp k l) grown a));
    }

pub returns-clause-table : goal.returns-clause-table
returns-clause-table g c =
    subst (λ l. IsRejoined g.L.LeftKey.Ord.cmp (with_right g.L.RightKey.Ord.cmp g.L.Link.link_of c.args.rights.now) l c.args.table.now c.loop-key.table)
    (iter_end deref_pair c.args.touched.now c.loop-key.yielded c.into_iter-key-iterator.result c.loop-key.key-iterator c.next.new.self c.next.result (c.into_iter-key-iterator.ensures.into_iter_gives ∙ c.iter-key-items.ensures.entries) c.loop-key.yielded_by c.in-None.is c.next.ensures.steps).0
    c.loop-key.invariant.table
