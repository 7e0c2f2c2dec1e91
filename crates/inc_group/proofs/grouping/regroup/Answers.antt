use Rattle.std.proofs.Common.{◌≡◌, ◌∙◌, ◌∷◌, [], List, Option, map, sym, subst, refl}
use Rattle.std.specs.Map.Iter.{deref_pair}
use Rattle.std.proofs.lemmas.List.{map-append}
use Rattle.std.proofs.lemmas.Map.Iter.{iter_end}
use Rattle.nv_map.specs.Map.{value_at}
use Rattle.nv_map.proofs.Rising.{rise_none}
use Rattle.nv_map.proofs.Values.{exact_order}
use Rattle.inc_table.specs.declared.delta.Change.{Change}
use Rattle.inc_table.specs.Delta.{IsAbove, IsApplied, change_between}
use Rattle.inc_table.proofs.Ends.{above_end}
use Rattle.inc_table.proofs.Gone.{above_gone, split_at}
use Rattle.inc_group.specs.Group.{same_members}
use Rattle.inc_group.specs.inner.Moves.{IsRegrouped, entries_in}
use Rattle.inc_group.proofs.Regrouped.{regrouped_more, regrouped_none, rise_told, whole_more}
use Rattle.inc_group.proofs.grouping.regroup.Goals as goal

pub loop-group-init : goal.loop-group-init
loop-group-init g c = record {
  table = regrouped_none g.A.Ord.cmp g.K.Ord.cmp c.args.table.now;
  whole = c.requires;
  rise = c.unchanged-changed.ensures.rise;
  told = c.unchanged-changed.ensures.difference;
  rises = rw c.unchanged-changed.ensures.none (rise_none (Change (List (g.row.K.Denot × g.row.V.Denot))) g.A.Ord.cmp);
  above = λ k a. rw c.unchanged-changed.ensures.none tt;
}

pub change_at-requires : goal.change_at-requires
change_at-requires g c =
    let split = split_at c.args.moves.now c.into_iter-group-iterator.result c.loop-group.group-iterator c.next.new.self c.loop-group.yielded c.next.result (c.in-Some.group, c.in-Some.changes) (c.into_iter-group-iterator.ensures.into_iter_gives ∙ c.iter-group-items.ensures.entries) c.loop-group.yielded_by c.in-Some.is c.next.ensures.steps in
    let above = above_gone g.A.Ord.cmp c.args.moves.now c.next.new.self (map deref_pair c.loop-group.yielded) c.loop-group.yielded (c.in-Some.group, c.in-Some.changes) c.in-Some.group.now c.iter-group-items.ensures.rise split refl refl in
    c.loop-group.invariant.above c.in-Some.group.now above

pub loop-group-preserved : goal.loop-group-preserved
loop-group-preserved g c =
    let split = split_at c.args.moves.now c.into_iter-group-iterator.result c.loop-group.group-iterator c.next.new.self c.loop-group.yielded c.next.result (c.in-Some.group, c.in-Some.changes) (c.into_iter-group-iterator.ensures.into_iter_gives ∙ c.iter-group-items.ensures.entries) c.loop-group.yielded_by c.in-Some.is c.next.ensures.steps in
    let above = above_gone g.A.Ord.cmp c.args.moves.now c.next.new.self (map deref_pair c.loop-group.yielded) c.loop-group.yielded (c.in-Some.group, c.in-Some.changes) c.in-Some.group.now c.iter-group-items.ensures.rise split refl refl in
    let grown = map-append deref_pair c.loop-group.yielded ((c.in-Some.group, c.in-Some.changes) ∷ []) in
    let exact = exact_order g.A.PartialEq.eq g.A.Ord.cmp g.met.A.Ord.matches_eq g.met.A.Kept.exact in
    let P : Option (List (g.row.K.Denot × g.row.V.Denot)) → Type 0 = λ o. IsApplied g.K.Ord.cmp c.in-Some.changes.now (entries_in o) (entries_in c.in_ok-members.members) in
    record {
      table = subst (λ l. IsRegrouped g.A.Ord.cmp g.K.Ord.cmp l c.args.table.now c.change_at.new.self) (sym grown)
          (regrouped_more g.met.A.Ord.total exact g.K.Ord.cmp c.in-Some.group.now c.in-Some.changes.now (map deref_pair c.loop-group.yielded) c.in_ok-members.members c.args.table.now c.loop-group.table c.change_at.new.self above (subst P c.get.ensures.value c.in_ok-members.ensures.applied) c.loop-group.invariant.table c.in_ok-change_at.ensures.applied);
      whole = whole_more g.met.A.Ord.total exact g.K.Ord.cmp c.in-Some.group.now c.in_ok-members.members c.loop-group.table c.change_at.new.self c.in_ok-members.ensures.whole c.in_ok-change_at.ensures.applied c.loop-group.invariant.whole;
      rise = c.change_at.ensures.rise;
      told = c.in_ok-change_at.ensures.difference c.args.table.now c.loop-group.invariant.told;
      rises = rise_told g.met.A.Ord.total c.loop-group.changed c.change_at.new.told c.in-Some.group.now (change_between (same_members g.K.PartialEq.eq g.V.PartialEq.eq) (value_at g.A.Ord.cmp c.in-Some.group.now c.loop-group.table) c.in_ok-members.members) c.loop-group.invariant.rises (c.loop-group.invariant.above c.in-Some.group.now above) c.in_ok-change_at.ensures.told;
      above = λ k a. c.in_ok-change_at.ensures.above k (above_end g.A.Ord.cmp k (map deref_pair c.loop-group.yielded) (deref_pair (c.in-Some.group, c.in-Some.changes)) (subst (λ l. IsAbove g.A.Ord.cmp k l) grown a));
    }

pub returns-clause-table : goal.returns-clause-table
returns-clause-table g c =
    subst (λ l. IsRegrouped g.A.Ord.cmp g.K.Ord.cmp l c.args.table.now c.loop-group.table)
    (iter_end deref_pair c.args.moves.now c.loop-group.yielded c.into_iter-group-iterator.result c.loop-group.group-iterator c.next.new.self c.next.result (c.into_iter-group-iterator.ensures.into_iter_gives ∙ c.iter-group-items.ensures.entries) c.loop-group.yielded_by c.in-None.is c.next.ensures.steps).0
    c.loop-group.invariant.table

pub returns-clause-whole : goal.returns-clause-whole
returns-clause-whole g c = c.loop-group.invariant.whole

pub returns-clause-rise : goal.returns-clause-rise
returns-clause-rise g c = c.loop-group.invariant.rise

pub returns-clause-told : goal.returns-clause-told
returns-clause-told g c = c.loop-group.invariant.rises

pub returns-clause-changed : goal.returns-clause-changed
returns-clause-changed g c = c.loop-group.invariant.told
