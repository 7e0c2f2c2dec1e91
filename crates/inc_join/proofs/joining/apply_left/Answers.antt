use Rattle.std.proofs.Common.{◌≡◌, ◌∙◌, List, refl, sym, subst, arith, map-id}
use Rattle.std.proofs.lemmas.Iterator.Adapters.{YieldsList-from_vec}
use Rattle.std.proofs.lemmas.Iterator.Consumers.{YieldsList-end, YieldsList-so_far, YieldsList-turn}
use Rattle.nv_map.proofs.Values.{exact_order}
use Rattle.inc_table.specs.declared.delta.Change.{Change}
use Rattle.inc_table.specs.Delta.{IsApplied}
use Rattle.inc_table.proofs.Ends.{above_turn, above_end}
use Rattle.inc_join.specs.Join.{lefts_of}
use Rattle.inc_join.proofs.Joined.{left_more, joined_more, indexed_more}
use Rattle.inc_join.proofs.joining.apply_left.Goals as goal

pub loop-key-init : goal.loop-key-init
loop-key-init g c = record {
  left = λ k. refl;
  table = c.requires.joined;
  rise = c.unchanged-changed.ensures.rise;
  indexed = c.requires.indexed;
  told = c.unchanged-changed.ensures.difference;
  above = λ k a. rw c.unchanged-changed.ensures.none tt;
}

pub change_at-requires : goal.change_at-requires
change_at-requires g c =
    let e = YieldsList-from_vec c.into_items-key-items.result.items c.into_iter-key-iterator.ensures.into_iter_gives.0 (omega arith) in
    c.loop-key.invariant.above c.in-Some.key (above_turn g.L.LeftKey.Ord.cmp c.into_items-key-items.result.items c.loop-key.yielded (c.in-Some.key, c.in-Some.change) (rw c.into_items-key-items.ensures.changes c.into_items-key-items.ensures.rise)
    (YieldsList-so_far e c.loop-key.yielded c.loop-key.key-iterator c.loop-key.yielded_by)
    (YieldsList-turn e c.loop-key.yielded c.loop-key.key-iterator c.loop-key.yielded_by c.next.result c.next.new.self (c.in-Some.key, c.in-Some.change) c.in-Some.is c.next.ensures.steps))

pub loop-key-preserved : goal.loop-key-preserved
loop-key-preserved g c =
    let e = YieldsList-from_vec c.into_items-key-items.result.items c.into_iter-key-iterator.ensures.into_iter_gives.0 (omega arith) in
    let above = above_turn g.L.LeftKey.Ord.cmp c.into_items-key-items.result.items c.loop-key.yielded (c.in-Some.key, c.in-Some.change) (rw c.into_items-key-items.ensures.changes c.into_items-key-items.ensures.rise)
    (YieldsList-so_far e c.loop-key.yielded c.loop-key.key-iterator c.loop-key.yielded_by)
    (YieldsList-turn e c.loop-key.yielded c.loop-key.key-iterator c.loop-key.yielded_by c.next.result c.next.new.self (c.in-Some.key, c.in-Some.change) c.in-Some.is c.next.ensures.steps) in
    record {
      left = left_more g.met.L.LeftKey.Ord.total (exact_order g.L.LeftKey.PartialEq.eq g.L.LeftKey.Ord.cmp g.met.L.LeftKey.Ord.matches_eq g.met.L.LeftKey.Kept.exact) g.L.RightKey.Ord.cmp g.L.Link.link_of c.args.rights.now c.loop-key.yielded c.in-Some.key c.in-Some.change c.in_ok-entry.entry c.args.table.now c.loop-key.table c.change_at.new.self above c.in_ok-entry.ensures.entry c.loop-key.invariant.left c.in_ok-change_at.ensures.applied;
      table = joined_more g.met.L.LeftKey.Ord.total (exact_order g.L.LeftKey.PartialEq.eq g.L.LeftKey.Ord.cmp g.met.L.LeftKey.Ord.matches_eq g.met.L.LeftKey.Kept.exact) g.L.RightKey.Ord.cmp g.L.Link.link_of c.args.rights.now c.in-Some.key c.in-Some.change c.in_ok-entry.entry c.loop-key.table c.change_at.new.self c.change_at.ensures.rise c.in_ok-entry.ensures.entry c.loop-key.invariant.table c.in_ok-change_at.ensures.applied;
      rise = c.change_at.ensures.rise;
      indexed = indexed_more g.met.L.LeftKey.Ord.total (exact_order g.L.LeftKey.PartialEq.eq g.L.LeftKey.Ord.cmp g.met.L.LeftKey.Ord.matches_eq g.met.L.LeftKey.Kept.exact) g.L.RightKey.Ord.cmp g.L.Link.link_of c.args.rights.now c.in-Some.key c.in-Some.change c.in_ok-entry.entry c.loop-key.table c.change_at.new.self c.loop-key.index c.unname.new.index c.join.new.index c.in_ok-entry.ensures.entry c.in_ok-change_at.ensures.applied c.in_ok-unname.ensures.others c.in_ok-entry.ensures.others c.in_ok-entry.ensures.named c.loop-key.invariant.indexed;
      told = c.in_ok-change_at.ensures.difference c.args.table.now c.loop-key.invariant.told;
      above = λ k a. c.in_ok-change_at.ensures.above k (above_end g.L.LeftKey.Ord.cmp k c.loop-key.yielded (c.in-Some.key, c.in-Some.change) a);
    }

pub returns-clause-left : goal.returns-clause-left
returns-clause-left g c =
    let e = YieldsList-end (YieldsList-from_vec c.into_items-key-items.result.items c.into_iter-key-iterator.ensures.into_iter_gives.0 (omega arith)) c.loop-key.yielded c.loop-key.key-iterator c.loop-key.yielded_by c.next.result c.next.new.self c.in-None.is c.next.ensures.steps in
    let all : c.loop-key.yielded ≡ c.args.delta = sym (map-id c.loop-key.yielded) ∙ e.0 ∙ c.into_items-key-items.ensures.changes in
    let P : List (g.row.L-LeftKey.Denot × Change g.row.L-Left.Denot) → Type 0 = λ l. IsApplied g.L.LeftKey.Ord.cmp l (lefts_of c.args.table.now) (lefts_of c.loop-key.table) in
    subst P all c.loop-key.invariant.left

pub returns-clause-table : goal.returns-clause-table
returns-clause-table g c = c.loop-key.invariant.table

pub returns-clause-rise : goal.returns-clause-rise
returns-clause-rise g c = c.loop-key.invariant.rise

pub returns-clause-indexed : goal.returns-clause-indexed
returns-clause-indexed g c = c.loop-key.invariant.indexed

pub returns-clause-changed : goal.returns-clause-changed
returns-clause-changed g c = c.loop-key.invariant.told
