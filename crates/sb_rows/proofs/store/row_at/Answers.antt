use Rattle.std.proofs.Common.{ap, sym, ◌∙◌, ◌≤◌, length}
use Rattle.std.specs.Prelude.{slice_get}
use Rattle.sb_rows.proofs.Made.{all_of, flat_values, get_first, get_later}
use Rattle.sb_rows.proofs.store.row_at.Goals as goal

pub loop-table-init : goal.loop-table-init
loop-table-init c = ap (λ rows. slice_get rows c.args.at) (ap all_of (c.into_iter-table-iterator.ensures.into_iter_gives ∙ c.values-table-items.ensures.rest) ∙ flat_values c.args.tables.now.entries)

pub returns-then-left-len : goal.returns-then-left-len
returns-then-left-len c =
    c.get.ensures
    ∙ sym (get_first c.in-Some.table.now (all_of c.next.new.self) c.loop-table.left (rw c.len.ensures at c.if-left-len.true))
    ∙ ap (λ parts. slice_get (all_of parts) c.loop-table.left) (sym c.in-Some.ensures.steps) ∙ c.loop-table.invariant

pub loop-table-preserved : goal.loop-table-preserved
loop-table-preserved c =
    let past : length c.in-Some.table.now ≤ c.loop-table.left = rw c.len.ensures at c.if-left-len.false in
    rw c.len-left.ensures
    (sym (get_later c.in-Some.table.now (all_of c.next.new.self) c.loop-table.left past)
    ∙ ap (λ parts. slice_get (all_of parts) c.loop-table.left) (sym c.in-Some.ensures.steps) ∙ c.loop-table.invariant)

pub returns : goal.returns
returns c = ap (λ parts. slice_get (all_of parts) c.loop-table.left) (sym c.in-None.ensures.steps.0) ∙ c.loop-table.invariant
