use Rattle.std.proofs.Common.{◌≡◌, ◌∙◌, ◌∷◌, ◌++◌, [], List, Option, count_by, refl, sym, ap, subst, arith, map-id}
use Rattle.std.proofs.lemmas.Iterator.Adapters.{YieldsList-from_vec}
use Rattle.std.proofs.lemmas.Iterator.Consumers.{YieldsList-end, YieldsList-so_far, YieldsList-turn}
use Rattle.std.specs.Option.{option_map}
use Rattle.nv_map.specs.Map.{value_at}
use Rattle.nv_map.proofs.Values.{exact_order}
use Rattle.inc_table.specs.declared.delta.Change.{Change}
use Rattle.inc_table.specs.Delta.{IsAbove, IsApplied, IsDifference, change_between, change_to, told_at}
use Rattle.inc_table.specs.Maker.{more_made}
use Rattle.inc_table.specs.Node.{is_put}
use Rattle.inc_table.specs.inner.Walk.{made_one}
use Rattle.inc_table.proofs.Counted.{counted_more}
use Rattle.inc_table.proofs.Ends.{above_turn, above_append, above_front, above_end}
use Rattle.inc_table.proofs.Outputs.{applied_value, left_to, outputs_more, same_outputs, value_outputs}
use Rattle.inc_table.proofs.Told.{difference_none, difference_applied, told_above}
use Rattle.inc_table.proofs.remake.change_each.Goals as goal

pub make_at-requires : goal.make_at-requires
make_at-requires g c =
    let e = YieldsList-from_vec c.into_items-key-items.result.items c.into_iter-key-iterator.ensures.into_iter_gives.0 (omega arith) in
    c.loop-key.invariant.above c.in-Some.key (above_turn g.M.Key.Ord.cmp c.into_items-key-items.result.items c.loop-key.yielded (c.in-Some.key, c.in-Some.change) (rw c.into_items-key-items.ensures.changes c.into_items-key-items.ensures.rise)
    (YieldsList-so_far e c.loop-key.yielded c.loop-key.key-iterator c.loop-key.yielded_by)
    (YieldsList-turn e c.loop-key.yielded c.loop-key.key-iterator c.loop-key.yielded_by c.next.result c.next.new.self (c.in-Some.key, c.in-Some.change) c.in-Some.is c.next.ensures.steps))

pub loop-key-init : goal.loop-key-init
loop-key-init g c = record {
  inputs = λ k. refl;
  table = c.requires;
  told = rw c.new-changed.ensures (difference_none g.met.M.Key.Ord.total g.M.Out.PartialEq.eq g.met.M.Out.Eq.laws.refl c.args.table.now);
  above = λ k a. rw c.new-changed.ensures tt;
  counted = refl;
}

pub loop-key-preserved : goal.loop-key-preserved
loop-key-preserved g c =
    let exact = exact_order g.M.Key.PartialEq.eq g.M.Key.Ord.cmp g.met.M.Key.Ord.matches_eq g.met.M.Key.Kept.exact in
    let e = YieldsList-from_vec c.into_items-key-items.result.items c.into_iter-key-iterator.ensures.into_iter_gives.0 (omega arith) in
    let above = above_turn g.M.Key.Ord.cmp c.into_items-key-items.result.items c.loop-key.yielded (c.in-Some.key, c.in-Some.change) (rw c.into_items-key-items.ensures.changes c.into_items-key-items.ensures.rise)
    (YieldsList-so_far e c.loop-key.yielded c.loop-key.key-iterator c.loop-key.yielded_by)
    (YieldsList-turn e c.loop-key.yielded c.loop-key.key-iterator c.loop-key.yielded_by c.next.result c.next.new.self (c.in-Some.key, c.in-Some.change) c.in-Some.is c.next.ensures.steps) in
    let put = c.value_put-input.result in
    let out = option_map (g.M.Maker.out_of c.in-Some.key) put in
    let told = change_between g.M.Out.PartialEq.eq (value_at g.M.Key.Ord.cmp c.in-Some.key c.loop-key.table) out in
    let P : Option g.row.M-Input.Denot → Type 0 = λ i. IsApplied g.M.Key.Ord.cmp ((c.in-Some.key, change_to (option_map (g.M.Maker.out_of c.in-Some.key) i)) ∷ []) c.loop-key.table c.make_at.new.table in
    let made : P put = subst P c.as_ref.ensures.value c.in_ok-make_at.ensures.applied in
    let Q : Option g.row.M-Input.Denot → Type 0 = λ i. c.make_at.new.changed ≡ c.loop-key.changed ++ told_at c.in-Some.key (change_between g.M.Out.PartialEq.eq (value_at g.M.Key.Ord.cmp c.in-Some.key c.loop-key.table) (option_map (g.M.Maker.out_of c.in-Some.key) i)) in
    let tells : Q put = subst Q c.as_ref.ensures.value c.in_ok-make_at.ensures.told in
    let above_changed = c.loop-key.invariant.above c.in-Some.key above in
    record {
      inputs = applied_value g.met.M.Key.Ord.total exact c.loop-key.yielded c.in-Some.key c.in-Some.change put c.args.inputs.now c.loop-key.inputs c.apply.new.entries c.value_put-input.ensures above c.loop-key.invariant.inputs c.in_ok-apply.ensures.applied;
      table = same_outputs g.met.M.Key.Ord.total exact g.M.Maker.out_of c.make_at.new.table c.apply.new.entries c.in_ok-make_at.ensures.rise c.apply.ensures.rise
          (outputs_more g.met.M.Key.Ord.total exact g.M.Maker.out_of c.in-Some.key put c.loop-key.inputs c.apply.new.entries c.loop-key.table c.make_at.new.table
          (λ k. ap (value_at g.M.Key.Ord.cmp k) c.loop-key.invariant.table ∙ value_outputs g.M.Key.Ord.cmp g.M.Maker.out_of exact k c.loop-key.inputs) c.in_ok-apply.ensures.applied made);
      told = subst (λ d. IsDifference g.M.Key.Ord.cmp g.M.Out.PartialEq.eq c.args.table.now c.make_at.new.table d) (sym tells)
          (difference_applied g.met.M.Key.Ord.total g.M.Out.PartialEq.eq exact g.met.M.Out.Kept.exact c.loop-key.changed c.in-Some.key (change_to out) out c.args.table.now c.loop-key.table c.make_at.new.table (left_to out) above_changed c.loop-key.invariant.told made);
      above = λ k a. subst (λ d. IsAbove g.M.Key.Ord.cmp k d) (sym tells)
          (above_append g.M.Key.Ord.cmp k c.loop-key.changed (told_at c.in-Some.key told) (c.loop-key.invariant.above k (above_front g.M.Key.Ord.cmp k c.loop-key.yielded ((c.in-Some.key, c.in-Some.change) ∷ []) a))
          (told_above g.M.Key.Ord.cmp c.in-Some.key k told (above_end g.M.Key.Ord.cmp k c.loop-key.yielded (c.in-Some.key, c.in-Some.change) a)));
      counted = c.in_ok-make_at.ensures.counted ∙ ap (λ (i : Option g.row.M-Input.Denot). made_one i (g.M.Maker.made c.loop-key.maker)) c.as_ref.ensures.value ∙ ap (made_one put) c.loop-key.invariant.counted
          ∙ counted_more c.loop-key.yielded c.in-Some.key c.in-Some.change put (g.M.Maker.made c.args.maker.now) c.value_put-input.ensures;
    }

pub returns-clause-inputs : goal.returns-clause-inputs
returns-clause-inputs g c =
    let e = YieldsList-end (YieldsList-from_vec c.into_items-key-items.result.items c.into_iter-key-iterator.ensures.into_iter_gives.0 (omega arith)) c.loop-key.yielded c.loop-key.key-iterator c.loop-key.yielded_by c.next.result c.next.new.self c.in-None.is c.next.ensures.steps in
    let all : c.loop-key.yielded ≡ c.args.delta = sym (map-id c.loop-key.yielded) ∙ e.0 ∙ c.into_items-key-items.ensures.changes in
    let P : List (g.row.M-Key.Denot × Change g.row.M-Input.Denot) → Type 0 = λ l. IsApplied g.M.Key.Ord.cmp l c.args.inputs.now c.loop-key.inputs in
    subst P all c.loop-key.invariant.inputs

pub returns-clause-table : goal.returns-clause-table
returns-clause-table g c = c.loop-key.invariant.table

pub returns-clause-made : goal.returns-clause-made
returns-clause-made g c = c.count_puts-made.ensures ∙ ap (λ (l : List (g.row.M-Key.Denot × Change g.row.M-Input.Denot)). count_by (λ x. is_put x.1) l) c.as_slice.ensures.changes

pub returns-clause-counted : goal.returns-clause-counted
returns-clause-counted g c =
    let e = YieldsList-end (YieldsList-from_vec c.into_items-key-items.result.items c.into_iter-key-iterator.ensures.into_iter_gives.0 (omega arith)) c.loop-key.yielded c.loop-key.key-iterator c.loop-key.yielded_by c.next.result c.next.new.self c.in-None.is c.next.ensures.steps in
    let all : c.loop-key.yielded ≡ c.args.delta = sym (map-id c.loop-key.yielded) ∙ e.0 ∙ c.into_items-key-items.ensures.changes in
    let made : c.count_puts-made.result ≡ count_by (λ x. is_put x.1) c.args.delta = c.count_puts-made.ensures ∙ ap (λ (l : List (g.row.M-Key.Denot × Change g.row.M-Input.Denot)). count_by (λ x. is_put x.1) l) c.as_slice.ensures.changes in
    c.loop-key.invariant.counted ∙ ap (λ (l : List (g.row.M-Key.Denot × Change g.row.M-Input.Denot)). more_made (count_by (λ x. is_put x.1) l) (g.M.Maker.made c.args.maker.now)) all ∙ sym (ap (λ n. more_made n (g.M.Maker.made c.args.maker.now)) made)
