use Rattle.std.proofs.Common.{◌∙◌, ◌++◌, List, Some, None, length, append-nil, sym, ap, subst}
use Rattle.std.specs.Option.{option_map, option_copied}
use Rattle.nv_map.specs.Map.{KeysRise}
use Rattle.nv_map.proofs.Values.{exact_order}
use Rattle.inc_table.specs.Delta.{IsAbove, IsDifference, change_between}
use Rattle.inc_table.specs.Maker.{more_made}
use Rattle.inc_table.specs.Node.{outputs_of}
use Rattle.inc_table.proofs.Sides.{at_least, fewer, least_of, made_entry, none_ahead, outputs_next, past_more, past_none, told_is, told_next, up_to_both}
use Rattle.inc_table.proofs.Outputs.{rise_outputs}
use Rattle.inc_table.proofs.Told.{difference_none}
use Rattle.inc_table.proofs.remake.remake.Goals as goal

pub loop-key-init : goal.loop-key-init
loop-key-init g c = record {
  outs = ap (outputs_of g.M.Maker.out_of) (sym c.new-inputs_ahead.ensures.entries) ∙ ap (λ (l : List (g.row.M-Key.Denot × g.row.M-Out.Denot)). l ++ outputs_of g.M.Maker.out_of c.new-inputs_ahead.result) (sym c.in_ok-made.ensures.items);
  told = subst (λ t. IsDifference g.M.Key.Ord.cmp g.M.Out.PartialEq.eq c.args.table.now t c.new-changed.result) (sym c.new-outs_ahead.ensures.entries ∙ ap (λ l. l ++ c.new-outs_ahead.result) (sym c.in_ok-made.ensures.items))
      (rw c.new-changed.ensures (difference_none g.met.M.Key.Ord.total g.M.Out.PartialEq.eq g.met.M.Out.Eq.laws.refl c.args.table.now));
  made_inputs = past_none g.M.Key.Ord.cmp c.in_ok-made.made.items c.new-inputs_ahead.result c.in_ok-made.ensures.items;
  made_outs = past_none g.M.Key.Ord.cmp c.in_ok-made.made.items c.new-outs_ahead.result c.in_ok-made.ensures.items;
  told_inputs = past_none g.M.Key.Ord.cmp c.new-changed.result c.new-inputs_ahead.result c.new-changed.ensures;
  told_outs = past_none g.M.Key.Ord.cmp c.new-changed.result c.new-outs_ahead.result c.new-changed.ensures;
  counted = ap (λ l. more_made (length l) (g.M.Maker.made c.args.maker.now)) c.new-inputs_ahead.ensures.entries;
}

pub take-input-requires : goal.take-input-requires
take-input-requires g c =
    let next = least_of g.M.Key.Ord.cmp (option_copied c.key.result) (option_copied c.key-in-loop-key.result) (Some c.in-Some.key.now) c.loop-key.inputs_ahead c.loop-key.outs_ahead c.in-Some.ensures c.key.ensures c.key-in-loop-key.ensures in
    (up_to_both g.met.M.Key.Ord.total c.loop-key.inputs_ahead c.loop-key.outs_ahead c.in-Some.key.now next).0

pub take-old-requires : goal.take-old-requires
take-old-requires g c =
    let next = least_of g.M.Key.Ord.cmp (option_copied c.key.result) (option_copied c.key-in-loop-key.result) (Some c.in-Some.key.now) c.loop-key.inputs_ahead c.loop-key.outs_ahead c.in-Some.ensures c.key.ensures c.key-in-loop-key.ensures in
    (up_to_both g.met.M.Key.Ord.total c.loop-key.inputs_ahead c.loop-key.outs_ahead c.in-Some.key.now next).1

pub make_next-requires : goal.make_next-requires
make_next-requires g c =
    let next = least_of g.M.Key.Ord.cmp (option_copied c.key.result) (option_copied c.key-in-loop-key.result) (Some c.in-Some.key.now) c.loop-key.inputs_ahead c.loop-key.outs_ahead c.in-Some.ensures c.key.ensures c.key-in-loop-key.ensures in
    at_least g.met.M.Key.Ord.total (λ k. IsAbove g.M.Key.Ord.cmp k c.loop-key.changed) c.loop-key.inputs_ahead c.loop-key.outs_ahead c.in-Some.key.now c.loop-key.invariant.told_inputs c.loop-key.invariant.told_outs next

pub loop-key-smaller : goal.loop-key-smaller
loop-key-smaller g c =
    let next = least_of g.M.Key.Ord.cmp (option_copied c.key.result) (option_copied c.key-in-loop-key.result) (Some c.in-Some.key.now) c.loop-key.inputs_ahead c.loop-key.outs_ahead c.in-Some.ensures c.key.ensures c.key-in-loop-key.ensures in
    fewer g.met.M.Key.Ord.total c.loop-key.inputs_ahead c.take-input.new.self c.loop-key.outs_ahead c.take-old.new.self c.in-Some.key.now (option_copied c.take-input.result) (option_copied c.take-old.result) next c.take-input.ensures.entries c.take-old.ensures.entries c.take-input.ensures.below c.take-old.ensures.below

pub loop-key-preserved : goal.loop-key-preserved
loop-key-preserved g c =
    let next = least_of g.M.Key.Ord.cmp (option_copied c.key.result) (option_copied c.key-in-loop-key.result) (Some c.in-Some.key.now) c.loop-key.inputs_ahead c.loop-key.outs_ahead c.in-Some.ensures c.key.ensures c.key-in-loop-key.ensures in
    let above = at_least g.met.M.Key.Ord.total (λ k. IsAbove g.M.Key.Ord.cmp k c.loop-key.made.items) c.loop-key.inputs_ahead c.loop-key.outs_ahead c.in-Some.key.now c.loop-key.invariant.made_inputs c.loop-key.invariant.made_outs next in
    let above_told = at_least g.met.M.Key.Ord.total (λ k. IsAbove g.M.Key.Ord.cmp k c.loop-key.changed) c.loop-key.inputs_ahead c.loop-key.outs_ahead c.in-Some.key.now c.loop-key.invariant.told_inputs c.loop-key.invariant.told_outs next in
    let input = option_copied c.take-input.result in
    let out = option_map (g.M.Maker.out_of c.in-Some.key.now) input in
    let old = option_copied c.take-old.result in
    let change = change_between g.M.Out.PartialEq.eq old out in
    let tells = c.in_ok-make_next.ensures.told ∙ ap (λ l. c.loop-key.changed ++ l) (told_is c.in-Some.key.now change) in
    record {
      outs = outputs_next g.M.Maker.out_of c.args.inputs.now c.loop-key.inputs_ahead c.take-input.new.self c.loop-key.made.items c.make_next.new.made.items c.in-Some.key.now input c.loop-key.invariant.outs c.take-input.ensures.entries c.in_ok-make_next.ensures.made;
      told = told_next g.met.M.Key.Ord.total (exact_order g.M.Key.PartialEq.eq g.M.Key.Ord.cmp g.met.M.Key.Ord.matches_eq g.met.M.Key.Kept.exact) g.M.Out.PartialEq.eq g.met.M.Out.Kept.exact c.args.table.now c.loop-key.made.items c.make_next.new.made.items c.loop-key.outs_ahead c.take-old.new.self c.in-Some.key.now old out c.loop-key.changed c.make_next.new.changed above above_told c.take-old.ensures.below c.take-old.ensures.entries c.in_ok-make_next.ensures.made c.in_ok-make_next.ensures.told c.loop-key.invariant.told;
      made_inputs = past_more g.met.M.Key.Ord.total c.in-Some.key.now c.loop-key.made.items c.make_next.new.made.items out c.take-input.new.self above c.in_ok-make_next.ensures.made c.take-input.ensures.below;
      made_outs = past_more g.met.M.Key.Ord.total c.in-Some.key.now c.loop-key.made.items c.make_next.new.made.items out c.take-old.new.self above c.in_ok-make_next.ensures.made c.take-old.ensures.below;
      told_inputs = past_more g.met.M.Key.Ord.total c.in-Some.key.now c.loop-key.changed c.make_next.new.changed change c.take-input.new.self above_told tells c.take-input.ensures.below;
      told_outs = past_more g.met.M.Key.Ord.total c.in-Some.key.now c.loop-key.changed c.make_next.new.changed change c.take-old.new.self above_told tells c.take-old.ensures.below;
      counted = ap (more_made (length c.take-input.new.self)) c.in_ok-make_next.ensures.counted ∙ sym (made_entry c.in-Some.key.now input c.take-input.new.self (g.M.Maker.made c.loop-key.maker)) ∙ ap (λ l. more_made (length l) (g.M.Maker.made c.loop-key.maker)) (sym c.take-input.ensures.entries) ∙ c.loop-key.invariant.counted;
    }

pub from_rising-requires : goal.from_rising-requires
from_rising-requires g c =
    let none = none_ahead g.M.Key.Ord.cmp c.loop-key.inputs_ahead c.loop-key.outs_ahead (least_of g.M.Key.Ord.cmp (option_copied c.key.result) (option_copied c.key-in-loop-key.result) None c.loop-key.inputs_ahead c.loop-key.outs_ahead c.in_default.ensures c.key.ensures c.key-in-loop-key.ensures) in
    let all = c.loop-key.invariant.outs ∙ ap (λ l. c.loop-key.made.items ++ outputs_of g.M.Maker.out_of l) none.0 ∙ append-nil c.loop-key.made.items in
    subst (λ l. KeysRise g.M.Key.Ord.cmp l) all (rise_outputs g.M.Key.Ord.cmp g.M.Maker.out_of c.args.inputs.now c.new-inputs_ahead.ensures.rise)

pub returns-clause-table : goal.returns-clause-table
returns-clause-table g c =
    let none = none_ahead g.M.Key.Ord.cmp c.loop-key.inputs_ahead c.loop-key.outs_ahead (least_of g.M.Key.Ord.cmp (option_copied c.key.result) (option_copied c.key-in-loop-key.result) None c.loop-key.inputs_ahead c.loop-key.outs_ahead c.in_default.ensures c.key.ensures c.key-in-loop-key.ensures) in
    c.in_ok-table.ensures ∙ sym (c.loop-key.invariant.outs ∙ ap (λ l. c.loop-key.made.items ++ outputs_of g.M.Maker.out_of l) none.0 ∙ append-nil c.loop-key.made.items)

pub returns-clause-changed : goal.returns-clause-changed
returns-clause-changed g c =
    let none = none_ahead g.M.Key.Ord.cmp c.loop-key.inputs_ahead c.loop-key.outs_ahead (least_of g.M.Key.Ord.cmp (option_copied c.key.result) (option_copied c.key-in-loop-key.result) None c.loop-key.inputs_ahead c.loop-key.outs_ahead c.in_default.ensures c.key.ensures c.key-in-loop-key.ensures) in
    subst (λ t. IsDifference g.M.Key.Ord.cmp g.M.Out.PartialEq.eq c.args.table.now t c.loop-key.changed) (ap (λ l. c.loop-key.made.items ++ l) none.1 ∙ append-nil c.loop-key.made.items ∙ sym c.in_ok-table.ensures) c.loop-key.invariant.told

pub returns-clause-counted : goal.returns-clause-counted
returns-clause-counted g c =
    let none = none_ahead g.M.Key.Ord.cmp c.loop-key.inputs_ahead c.loop-key.outs_ahead (least_of g.M.Key.Ord.cmp (option_copied c.key.result) (option_copied c.key-in-loop-key.result) None c.loop-key.inputs_ahead c.loop-key.outs_ahead c.in_default.ensures c.key.ensures c.key-in-loop-key.ensures) in
    sym (ap (λ (l : List (g.row.M-Key.Denot × g.row.M-Input.Denot)). more_made (length l) (g.M.Maker.made c.loop-key.maker)) none.0) ∙ c.loop-key.invariant.counted ∙ sym (ap (λ n. more_made n (g.M.Maker.made c.args.maker.now)) c.len-count.ensures)
