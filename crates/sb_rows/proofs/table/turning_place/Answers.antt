use Rattle.std.proofs.Common.{◌+◌, ◌-◌, ◌/◌, ap, sym, ◌∙◌, arith}
use Rattle.std.specs.Map.Iter.{deref_pair}
use Rattle.std.proofs.lemmas.Map.Iter.{rest_more, rest_all}
use Rattle.sb_rows.specs.inner.Store.{first_place}
use Rattle.sb_rows.proofs.PlacedParts.{back_all, back_more, first_between, first_inside, last_between, last_inside, none_between}
use Rattle.sb_rows.proofs.PlacedTurn.{sought_here, sought_higher, sought_in_rank, sought_is_parted, sought_lower, sought_past_last, sought_to_last}
use Rattle.sb_rows.proofs.table.turning_place.Goals as goal

pub loop-low-init : goal.loop-low-init
loop-low-init c =
    sought_in_rank c.args.rows.now.entries c.requires.placed c.requires.order c.args.row.now c.requires.key c.rank.ensures.fits c.first_place-low.result (c.first_place-low.ensures ∙ ap first_place c.rank.ensures.rank)

pub loop-low-preserved-then-branch : goal.loop-low-preserved-then-branch
loop-low-preserved-then-branch c =
    let middle = c.loop-low.low + (c.loop-low.high - c.loop-low.low) / 2 in
    let next = rest_more deref_pair c.range.result c.next.new.self c.next.result (c.in-Some.place, c.in-Some.there) c.in-Some.is c.next.ensures.steps in
    sought_lower c.args.rows.now.entries c.requires.placed c.requires.order c.args.row.now c.loop-low.low middle c.loop-low.high c.loop-low.invariant (omega arith) (omega arith) (c.in-Some.place.now, c.in-Some.there.now)
    (first_inside c.args.rows.now middle c.loop-low.high c.range.result c.range.ensures.ordered (c.range.ensures.in_range tt) _ _ next)
    (first_between c.args.rows.now middle c.loop-low.high c.range.result c.range.ensures.ordered (c.range.ensures.in_range tt) _ _ next)
    (sym c.in_ok-is_after-in-Some.ensures ∙ c.if-branch.true)

pub loop-low-preserved-else-branch : goal.loop-low-preserved-else-branch
loop-low-preserved-else-branch c =
    let middle = c.loop-low.low + (c.loop-low.high - c.loop-low.low) / 2 in
    let next = rest_more deref_pair c.range.result c.next.new.self c.next.result (c.in-Some.place, c.in-Some.there) c.in-Some.is c.next.ensures.steps in
    sought_higher c.args.rows.now.entries c.requires.placed c.requires.order c.args.row.now c.loop-low.low middle c.loop-low.high c.loop-low.invariant (omega arith) (omega arith) (c.in-Some.place.now, c.in-Some.there.now)
    (first_inside c.args.rows.now middle c.loop-low.high c.range.result c.range.ensures.ordered (c.range.ensures.in_range tt) _ _ next)
    (sym c.in_ok-is_after-in-Some.ensures ∙ c.if-branch.false)

pub loop-low-preserved-then-branch-2 : goal.loop-low-preserved-then-branch-2
loop-low-preserved-then-branch-2 c =
    let middle = c.loop-low.low + (c.loop-low.high - c.loop-low.low) / 2 in
    let next = back_more c.range-in-None.result c.next_back.new.self c.next_back.result (c.in-Some-next_back.place, c.in-Some-next_back.there) c.in-Some-next_back.is c.next_back.ensures.steps in
    sought_to_last c.args.rows.now.entries c.requires.placed c.requires.order c.args.row.now c.loop-low.low middle c.loop-low.high c.loop-low.invariant (omega arith) (omega arith) (c.in-Some-next_back.place.now, c.in-Some-next_back.there.now)
    (none_between c.args.rows.now middle c.loop-low.high c.range.result c.range.ensures.ordered (c.range.ensures.in_range tt) (rest_all deref_pair _ _ _ c.in-None.is c.next.ensures.steps))
    (last_inside c.args.rows.now c.loop-low.low middle c.range-in-None.result c.range-in-None.ensures.ordered (c.range-in-None.ensures.in_range tt) _ _ next)
    (sym c.in_ok-is_after-in-Some-next_back.ensures ∙ c.if-branch-2.true)

pub loop-low-preserved-else-branch-2 : goal.loop-low-preserved-else-branch-2
loop-low-preserved-else-branch-2 c =
    let middle = c.loop-low.low + (c.loop-low.high - c.loop-low.low) / 2 in
    let next = back_more c.range-in-None.result c.next_back.new.self c.next_back.result (c.in-Some-next_back.place, c.in-Some-next_back.there) c.in-Some-next_back.is c.next_back.ensures.steps in
    sought_past_last c.args.rows.now.entries c.requires.placed c.requires.order c.args.row.now c.loop-low.low middle c.loop-low.high c.loop-low.invariant (omega arith) (omega arith) (c.in-Some-next_back.place.now, c.in-Some-next_back.there.now)
    (none_between c.args.rows.now middle c.loop-low.high c.range.result c.range.ensures.ordered (c.range.ensures.in_range tt) (rest_all deref_pair _ _ _ c.in-None.is c.next.ensures.steps))
    (last_inside c.args.rows.now c.loop-low.low middle c.range-in-None.result c.range-in-None.ensures.ordered (c.range-in-None.ensures.in_range tt) _ _ next)
    (last_between c.args.rows.now c.loop-low.low middle c.range-in-None.result c.range-in-None.ensures.ordered (c.range-in-None.ensures.in_range tt) _ _ next)
    (sym c.in_ok-is_after-in-Some-next_back.ensures ∙ c.if-branch-2.false)

pub loop-low-preserved : goal.loop-low-preserved
loop-low-preserved c =
    let middle = c.loop-low.low + (c.loop-low.high - c.loop-low.low) / 2 in
    sought_here c.args.rows.now.entries c.requires.placed c.requires.order c.args.row.now c.loop-low.low middle c.loop-low.high c.loop-low.invariant
    (none_between c.args.rows.now middle c.loop-low.high c.range.result c.range.ensures.ordered (c.range.ensures.in_range tt) (rest_all deref_pair _ _ _ c.in-None.is c.next.ensures.steps))
    (none_between c.args.rows.now c.loop-low.low middle c.range-in-None.result c.range-in-None.ensures.ordered (c.range-in-None.ensures.in_range tt) (back_all _ _ _ c.in-None-next_back.is c.next_back.ensures.steps))

pub returns-clause-parted : goal.returns-clause-parted
returns-clause-parted c =
    sought_is_parted c.args.rows.now.entries c.requires.placed c.requires.order c.args.row.now c.loop-low.low c.loop-low.high c.loop-low.invariant c.loop-low-test.false
