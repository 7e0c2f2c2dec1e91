use Rattle.std.proofs.Common.{◌≡◌, ◌∙◌, List, refl, sym, subst, arith, map-id}
use Rattle.std.proofs.lemmas.Iterator.Adapters.{YieldsList-from_vec}
use Rattle.std.proofs.lemmas.Iterator.Consumers.{YieldsList-end, YieldsList-so_far, YieldsList-turn}
use Rattle.nv_map.proofs.Values.{exact_order}
use Rattle.inc_table.specs.declared.delta.Change.{Change}
use Rattle.std.specs.List.{AllByRecursion}
use Rattle.std.specs.Map.{keys_of}
use Rattle.inc_table.specs.Delta.{IsApplied}
use Rattle.inc_table.proofs.Applied.{applied_more}
use Rattle.inc_table.proofs.Ends.{above_turn}
use Rattle.inc_join.specs.inner.Index.{IsTouched}
use Rattle.inc_join.proofs.Rejoined.{all_by, all_joined, all_more, same_lefts, still_indexed, touched_more}
use Rattle.inc_join.proofs.joining.apply_right.Goals as goal

pub loop-key-init : goal.loop-key-init
loop-key-init g c = record { right = λ k. refl; touched = tt }

pub loop-key-preserved : goal.loop-key-preserved
loop-key-preserved g c =
    let e = YieldsList-from_vec c.into_items-key-items.result.items c.into_iter-key-iterator.ensures.into_iter_gives.0 (omega arith) in
    let above = above_turn g.L.RightKey.Ord.cmp c.into_items-key-items.result.items c.loop-key.yielded (c.in-Some.key, c.in-Some.change) (rw c.into_items-key-items.ensures.changes c.into_items-key-items.ensures.rise)
    (YieldsList-so_far e c.loop-key.yielded c.loop-key.key-iterator c.loop-key.yielded_by)
    (YieldsList-turn e c.loop-key.yielded c.loop-key.key-iterator c.loop-key.yielded_by c.next.result c.next.new.self (c.in-Some.key, c.in-Some.change) c.in-Some.is c.next.ensures.steps) in
    record {
      right = applied_more g.met.L.RightKey.Ord.total (exact_order g.L.RightKey.PartialEq.eq g.L.RightKey.Ord.cmp g.met.L.RightKey.Ord.matches_eq g.met.L.RightKey.Kept.exact) c.loop-key.yielded c.in-Some.key c.in-Some.change c.args.rights.now c.loop-key.rights c.apply.new.self above c.loop-key.invariant.right c.in_ok-apply.ensures.ok;
      touched = all_more (IsTouched g.L.LeftKey.Ord.cmp g.L.RightKey.Ord.cmp c.args.index.now c.touch.new.touched) c.loop-key.yielded (c.in-Some.key, c.in-Some.change)
          (all_by (IsTouched g.L.LeftKey.Ord.cmp g.L.RightKey.Ord.cmp c.args.index.now c.loop-key.touched) (IsTouched g.L.LeftKey.Ord.cmp g.L.RightKey.Ord.cmp c.args.index.now c.touch.new.touched) (λ right t. touched_more g.L.LeftKey.Ord.cmp g.L.RightKey.Ord.cmp c.args.index.now c.loop-key.touched c.touch.new.touched c.in_ok-touch.ensures.kept right t) c.loop-key.yielded c.loop-key.invariant.touched)
          c.in_ok-touch.ensures.covered;
    }

pub returns-clause-left : goal.returns-clause-left
returns-clause-left g c = same_lefts g.met.L.LeftKey.Ord.total (exact_order g.L.LeftKey.PartialEq.eq g.L.LeftKey.Ord.cmp g.met.L.LeftKey.Ord.matches_eq g.met.L.LeftKey.Kept.exact) (exact_order g.L.RightKey.PartialEq.eq g.L.RightKey.Ord.cmp g.met.L.RightKey.Ord.matches_eq g.met.L.RightKey.Kept.exact) g.L.Link.link_of c.loop-key.rights c.loop-key.touched c.args.table.now c.rejoin.new.table c.in_ok-changed.ensures.rise.0 c.in_ok-changed.ensures.rise.1 c.in_ok-changed.ensures.table

pub returns-clause-right : goal.returns-clause-right
returns-clause-right g c =
    let e = YieldsList-end (YieldsList-from_vec c.into_items-key-items.result.items c.into_iter-key-iterator.ensures.into_iter_gives.0 (omega arith)) c.loop-key.yielded c.loop-key.key-iterator c.loop-key.yielded_by c.next.result c.next.new.self c.in-None.is c.next.ensures.steps in
    let all : c.loop-key.yielded ≡ c.args.delta = sym (map-id c.loop-key.yielded) ∙ e.0 ∙ c.into_items-key-items.ensures.changes in
    let P : List (g.row.L-RightKey.Denot × Change g.row.L-Right.Denot) → Type 0 = λ l. IsApplied g.L.RightKey.Ord.cmp l c.args.rights.now c.loop-key.rights in
    subst P all c.loop-key.invariant.right

pub returns-clause-table : goal.returns-clause-table
returns-clause-table g c =
    let e = YieldsList-end (YieldsList-from_vec c.into_items-key-items.result.items c.into_iter-key-iterator.ensures.into_iter_gives.0 (omega arith)) c.loop-key.yielded c.loop-key.key-iterator c.loop-key.yielded_by c.next.result c.next.new.self c.in-None.is c.next.ensures.steps in
    let all : c.loop-key.yielded ≡ c.args.delta = sym (map-id c.loop-key.yielded) ∙ e.0 ∙ c.into_items-key-items.ensures.changes in
    let P : List (g.row.L-RightKey.Denot × Change g.row.L-Right.Denot) → Type 0 = λ l. IsApplied g.L.RightKey.Ord.cmp l c.args.rights.now c.loop-key.rights in
    let A : List (g.row.L-RightKey.Denot × Change g.row.L-Right.Denot) → Type 0 = λ l. AllByRecursion (IsTouched g.L.LeftKey.Ord.cmp g.L.RightKey.Ord.cmp c.args.index.now c.loop-key.touched) (keys_of l) in
    all_joined g.met.L.LeftKey.Ord.total (exact_order g.L.LeftKey.PartialEq.eq g.L.LeftKey.Ord.cmp g.met.L.LeftKey.Ord.matches_eq g.met.L.LeftKey.Kept.exact) (exact_order g.L.RightKey.PartialEq.eq g.L.RightKey.Ord.cmp g.met.L.RightKey.Ord.matches_eq g.met.L.RightKey.Kept.exact) g.L.Link.link_of c.args.delta c.args.rights.now c.loop-key.rights c.args.index.now c.loop-key.touched c.args.table.now c.rejoin.new.table c.in_ok-changed.ensures.rise.0 c.in_ok-changed.ensures.rise.1 c.in_ok-changed.ensures.table (subst P all c.loop-key.invariant.right) (subst A all c.loop-key.invariant.touched) c.requires.indexed c.requires.joined

pub returns-clause-indexed : goal.returns-clause-indexed
returns-clause-indexed g c = still_indexed g.met.L.LeftKey.Ord.total (exact_order g.L.LeftKey.PartialEq.eq g.L.LeftKey.Ord.cmp g.met.L.LeftKey.Ord.matches_eq g.met.L.LeftKey.Kept.exact) (exact_order g.L.RightKey.PartialEq.eq g.L.RightKey.Ord.cmp g.met.L.RightKey.Ord.matches_eq g.met.L.RightKey.Kept.exact) g.L.Link.link_of c.args.index.now c.args.table.now c.rejoin.new.table (same_lefts g.met.L.LeftKey.Ord.total (exact_order g.L.LeftKey.PartialEq.eq g.L.LeftKey.Ord.cmp g.met.L.LeftKey.Ord.matches_eq g.met.L.LeftKey.Kept.exact) (exact_order g.L.RightKey.PartialEq.eq g.L.RightKey.Ord.cmp g.met.L.RightKey.Ord.matches_eq g.met.L.RightKey.Kept.exact) g.L.Link.link_of c.loop-key.rights c.loop-key.touched c.args.table.now c.rejoin.new.table c.in_ok-changed.ensures.rise.0 c.in_ok-changed.ensures.rise.1 c.in_ok-changed.ensures.table) c.requires.indexed
