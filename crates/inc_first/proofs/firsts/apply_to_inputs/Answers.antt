use Rattle.std.proofs.Common.{◌≡◌, ◌∙◌, List, refl, sym, subst, arith, map-id}
use Rattle.std.proofs.lemmas.Iterator.Adapters.{YieldsList-from_vec}
use Rattle.std.proofs.lemmas.Iterator.Consumers.{YieldsList-end, YieldsList-so_far, YieldsList-turn}
use Rattle.nv_map.specs.Map.{value_at}
use Rattle.nv_map.proofs.Values.{exact_order}
use Rattle.inc_table.specs.declared.delta.Change.{Change}
use Rattle.inc_table.specs.declared.delta.Change.TheVariants.{Put, Gone}
use Rattle.inc_table.specs.Delta.{IsApplied, left_by}
use Rattle.inc_table.proofs.Applied.{applied_more}
use Rattle.inc_table.proofs.Ends.{above_turn}
use Rattle.inc_group.specs.inner.Moves.{groups_in}
use Rattle.inc_first.proofs.Marked.{inputs_more, keeps_more, keeps_none}
use Rattle.inc_first.proofs.firsts.apply_to_inputs.Goals as goal

pub loop-key-init : goal.loop-key-init
loop-key-init g c = record {
  inputs = λ k. refl;
  rise = c.requires.rise;
  marked = c.requires.marked;
  others = keeps_none g.G.Key.Ord.cmp g.G.Group.Ord.cmp c.new-touched.result c.args.marks.now;
}

pub loop-key-preserved : goal.loop-key-preserved
loop-key-preserved g c =
    let e = YieldsList-from_vec c.into_items-key-items.result.items c.into_iter-key-iterator.ensures.into_iter_gives.0 (omega arith) in
    let above = above_turn g.G.Key.Ord.cmp c.into_items-key-items.result.items c.loop-key.yielded (c.in-Some.key, c.in-Some.change) (rw c.into_items-key-items.ensures.changes c.into_items-key-items.ensures.rise)
    (YieldsList-so_far e c.loop-key.yielded c.loop-key.key-iterator c.loop-key.yielded_by)
    (YieldsList-turn e c.loop-key.yielded c.loop-key.key-iterator c.loop-key.yielded_by c.next.result c.next.new.self (c.in-Some.key, c.in-Some.change) c.in-Some.is c.next.ensures.steps) in
    let exact = exact_order g.G.Key.PartialEq.eq g.G.Key.Ord.cmp g.met.G.Key.Ord.matches_eq g.met.G.Key.Kept.exact in
    let left = groups_in g.G.Groups.groups_of c.in-Some.key (value_at g.G.Key.Ord.cmp c.in-Some.key c.loop-key.inputs) in
    let entered = groups_in g.G.Groups.groups_of c.in-Some.key (left_by c.in-Some.change) in
    record {
      inputs = applied_more g.met.G.Key.Ord.total exact c.loop-key.yielded c.in-Some.key c.in-Some.change c.args.inputs.now c.loop-key.inputs c.apply.new.self above c.loop-key.invariant.inputs c.in_ok-apply.ensures.ok;
      rise = c.apply.ensures.rise;
      marked = inputs_more g.met.G.Key.Ord.total exact g.G.Group.Ord.cmp g.G.Groups.groups_of c.in-Some.key c.in-Some.change c.loop-key.inputs c.apply.new.self c.loop-key.marks c.leave.new.marks c.enter.new.marks c.loop-key.invariant.marked c.in_ok-leave.ensures.marked c.in_ok-enter.ensures.marked c.in_ok-apply.ensures.ok;
      others = keeps_more g.G.Key.Ord.cmp g.G.Group.Ord.cmp entered (c.in-Some.key, Put tt) c.args.marks.now c.leave.new.marks c.enter.new.marks c.leave.new.touched c.enter.new.touched
          (keeps_more g.G.Key.Ord.cmp g.G.Group.Ord.cmp left (c.in-Some.key, Gone) c.args.marks.now c.loop-key.marks c.leave.new.marks c.loop-key.touched c.leave.new.touched c.loop-key.invariant.others c.in_ok-leave.ensures.marked c.in_ok-leave.ensures.touched)
          c.in_ok-enter.ensures.marked c.in_ok-enter.ensures.touched;
    }

pub returns-clause-inputs : goal.returns-clause-inputs
returns-clause-inputs g c =
    let e = YieldsList-end (YieldsList-from_vec c.into_items-key-items.result.items c.into_iter-key-iterator.ensures.into_iter_gives.0 (omega arith)) c.loop-key.yielded c.loop-key.key-iterator c.loop-key.yielded_by c.next.result c.next.new.self c.in-None.is c.next.ensures.steps in
    let all : c.loop-key.yielded ≡ c.args.delta = sym (map-id c.loop-key.yielded) ∙ e.0 ∙ c.into_items-key-items.ensures.changes in
    let P : List (g.row.G-Key.Denot × Change g.row.G-Value.Denot) → Type 0 = λ l. IsApplied g.G.Key.Ord.cmp l c.args.inputs.now c.loop-key.inputs in
    subst P all c.loop-key.invariant.inputs

pub returns-clause-rise : goal.returns-clause-rise
returns-clause-rise g c = c.loop-key.invariant.rise

pub returns-clause-marked : goal.returns-clause-marked
returns-clause-marked g c = c.loop-key.invariant.marked

pub returns-clause-others : goal.returns-clause-others
returns-clause-others g c = c.loop-key.invariant.others
