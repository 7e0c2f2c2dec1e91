use Rattle.std.proofs.Common.{◌≡◌, ◌∙◌, ◌∷◌, ◌++◌, [], map, refl, sym, subst}
use Rattle.std.specs.Map.Iter.{deref_pair}
use Rattle.std.proofs.lemmas.List.{map-append}
use Rattle.std.proofs.lemmas.Map.Iter.{iter_end}
use Rattle.nv_map.specs.Map.{KeysRise}
use Rattle.nv_map.proofs.Values.{exact_order}
use Rattle.inc_table.specs.Delta.{IsAbove, IsApplied, left_by}
use Rattle.inc_table.proofs.Ends.{above_end}
use Rattle.inc_table.proofs.Gone.{above_gone, split_at}
use Rattle.inc_group.proofs.Merged.{above_between, merged_more, rise_between}
use Rattle.inc_group.proofs.merge.merge.Goals as goal

pub loop-key-init : goal.loop-key-init
loop-key-init g c = record {
  applied = rw c.new-members.ensures (λ k. refl);
  rise = rw c.new-members.ensures c.requires;
  above = λ k a. rw c.new-members.ensures tt;
}

pub copy_below-requires-clause-above : goal.copy_below-requires-clause-above
copy_below-requires-clause-above g c =
    let split = split_at c.args.changes.now c.into_iter-key-iterator.result c.loop-key.key-iterator c.next.new.self c.loop-key.yielded c.next.result (c.in-Some.key, c.in-Some.change) (c.into_iter-key-iterator.ensures.into_iter_gives ∙ c.iter-key-items.ensures.entries) c.loop-key.yielded_by c.in-Some.is c.next.ensures.steps in
    c.loop-key.invariant.above c.in-Some.key.now (above_gone g.K.Ord.cmp c.args.changes.now c.next.new.self (map deref_pair c.loop-key.yielded) c.loop-key.yielded (c.in-Some.key, c.in-Some.change) c.in-Some.key.now c.iter-key-items.ensures.rise split refl refl)

pub copy_below-requires-clause-rise : goal.copy_below-requires-clause-rise
copy_below-requires-clause-rise g c = c.loop-key.invariant.rise

pub put-requires : goal.put-requires
put-requires g c = c.in_ok-rest.ensures.above

pub loop-key-preserved : goal.loop-key-preserved
loop-key-preserved g c =
    let split = split_at c.args.changes.now c.into_iter-key-iterator.result c.loop-key.key-iterator c.next.new.self c.loop-key.yielded c.next.result (c.in-Some.key, c.in-Some.change) (c.into_iter-key-iterator.ensures.into_iter_gives ∙ c.iter-key-items.ensures.entries) c.loop-key.yielded_by c.in-Some.is c.next.ensures.steps in
    let above = above_gone g.K.Ord.cmp c.args.changes.now c.next.new.self (map deref_pair c.loop-key.yielded) c.loop-key.yielded (c.in-Some.key, c.in-Some.change) c.in-Some.key.now c.iter-key-items.ensures.rise split refl refl in
    let grown = map-append deref_pair c.loop-key.yielded ((c.in-Some.key, c.in-Some.change) ∷ []) in
    let exact = exact_order g.K.PartialEq.eq g.K.Ord.cmp g.met.K.Ord.matches_eq g.met.K.Kept.exact in
    record {
      applied = subst (λ l. IsApplied g.K.Ord.cmp l c.args.old.now (c.put.new.members ++ c.in_ok-rest.rest.now)) (sym grown)
          (merged_more g.met.K.Ord.total exact (map deref_pair c.loop-key.yielded) c.in-Some.key.now c.in-Some.change.now c.args.old.now (c.loop-key.members ++ c.loop-key.rest.now) c.copy_below.new.members c.put.new.members c.in_ok-rest.rest.now
          above c.loop-key.invariant.applied c.in_ok-rest.ensures.above c.in_ok-rest.ensures.below c.in_ok-rest.ensures.applied c.in_ok-put.ensures);
      rise = subst (λ m. KeysRise g.K.Ord.cmp (m ++ c.in_ok-rest.rest.now)) (sym c.in_ok-put.ensures)
          (rise_between g.K.Ord.cmp c.copy_below.new.members c.in_ok-rest.rest.now c.in-Some.key.now (left_by c.in-Some.change.now) c.in_ok-rest.ensures.above c.in_ok-rest.ensures.below c.in_ok-rest.ensures.rise);
      above = λ k a. subst (IsAbove g.K.Ord.cmp k) (sym c.in_ok-put.ensures)
          (above_between g.K.Ord.cmp g.met.K.Ord.total c.copy_below.new.members c.in-Some.key.now k (left_by c.in-Some.change.now)
          (above_end g.K.Ord.cmp k (map deref_pair c.loop-key.yielded) (deref_pair (c.in-Some.key, c.in-Some.change)) (subst (λ l. IsAbove g.K.Ord.cmp k l) grown a)) c.in_ok-rest.ensures.above);
    }

pub copy_all-requires : goal.copy_all-requires
copy_all-requires g c = c.loop-key.invariant.rise

pub returns-clause-applied : goal.returns-clause-applied
returns-clause-applied g c =
    subst (λ m. IsApplied g.K.Ord.cmp c.args.changes.now c.args.old.now m) (sym c.in_ok-copy_all.ensures)
    (subst (λ l. IsApplied g.K.Ord.cmp l c.args.old.now (c.loop-key.members ++ c.loop-key.rest.now))
    (iter_end deref_pair c.args.changes.now c.loop-key.yielded c.into_iter-key-iterator.result c.loop-key.key-iterator c.next.new.self c.next.result (c.into_iter-key-iterator.ensures.into_iter_gives ∙ c.iter-key-items.ensures.entries) c.loop-key.yielded_by c.in-None.is c.next.ensures.steps).0
    c.loop-key.invariant.applied)

pub returns-clause-rise : goal.returns-clause-rise
returns-clause-rise g c = subst (KeysRise g.K.Ord.cmp) (sym c.in_ok-copy_all.ensures) c.loop-key.invariant.rise
