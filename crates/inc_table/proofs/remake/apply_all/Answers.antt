use Rattle.std.proofs.Common.{◌≡◌, ◌∙◌, List, refl, sym, subst, arith, map-id}
use Rattle.std.proofs.lemmas.Iterator.Adapters.{YieldsList-from_vec}
use Rattle.std.proofs.lemmas.Iterator.Consumers.{YieldsList-end, YieldsList-so_far, YieldsList-turn}
use Rattle.nv_map.proofs.Values.{exact_order}
use Rattle.inc_table.specs.declared.delta.Change.{Change}
use Rattle.inc_table.specs.Delta.{IsApplied}
use Rattle.inc_table.proofs.Ends.{above_turn}
use Rattle.inc_table.proofs.Outputs.{applied_value}
use Rattle.inc_table.proofs.remake.apply_all.Goals as goal

pub loop-key-init : goal.loop-key-init
loop-key-init g c = λ k. refl

pub loop-key-preserved : goal.loop-key-preserved
loop-key-preserved g c =
    let exact = exact_order g.K.PartialEq.eq g.K.Ord.cmp g.met.K.Ord.matches_eq g.met.K.Kept.exact in
    let e = YieldsList-from_vec c.into_items-key-items.result.items c.into_iter-key-iterator.ensures.into_iter_gives.0 (omega arith) in
    let above = above_turn g.K.Ord.cmp c.into_items-key-items.result.items c.loop-key.yielded (c.in-Some.key, c.in-Some.change) (rw c.into_items-key-items.ensures.changes c.into_items-key-items.ensures.rise)
    (YieldsList-so_far e c.loop-key.yielded c.loop-key.key-iterator c.loop-key.yielded_by)
    (YieldsList-turn e c.loop-key.yielded c.loop-key.key-iterator c.loop-key.yielded_by c.next.result c.next.new.self (c.in-Some.key, c.in-Some.change) c.in-Some.is c.next.ensures.steps) in
    applied_value g.met.K.Ord.total exact c.loop-key.yielded c.in-Some.key c.in-Some.change c.value_put.result c.args.entries.now c.loop-key.entries c.apply.new.entries c.value_put.ensures above c.loop-key.invariant c.in_ok-apply.ensures.applied

pub returns : goal.returns
returns g c =
    let e = YieldsList-end (YieldsList-from_vec c.into_items-key-items.result.items c.into_iter-key-iterator.ensures.into_iter_gives.0 (omega arith)) c.loop-key.yielded c.loop-key.key-iterator c.loop-key.yielded_by c.next.result c.next.new.self c.in-None.is c.next.ensures.steps in
    let all : c.loop-key.yielded ≡ c.args.delta = sym (map-id c.loop-key.yielded) ∙ e.0 ∙ c.into_items-key-items.ensures.changes in
    let P : List (g.row.K.Denot × Change g.row.V.Denot) → Type 0 = λ l. IsApplied g.K.Ord.cmp l c.args.entries.now c.loop-key.entries in
    subst P all c.loop-key.invariant
