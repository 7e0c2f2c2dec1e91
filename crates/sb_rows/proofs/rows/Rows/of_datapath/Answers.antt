use Rattle.std.proofs.Common.{◌∙◌, ◌++◌, ◌*◌, ◌+◌, ap}
use Rattle.std.specs.BTreeMap.Range.{range_contains}
use Rattle.std.specs.Map.Iter.{deref_pair}
use Rattle.std.specs.Ordering.{nat_cmp}
use Rattle.std.specs.declared.ops.Bound.TheVariants.{Included, Excluded}
use Rattle.std.proofs.lemmas.Map.Iter.{iter_end}
use Rattle.sb_rows.specs.Row.{rows_of}
use Rattle.sb_rows.specs.inner.Store.{flat}
use Rattle.sb_rows.proofs.Flat.{datapath_flat}
use Rattle.sb_rows.proofs.Made.{flat_more, is_within, no_refs}
use Rattle.sb_rows.proofs.rows.Rows.of_datapath.Goals as goal

pub loop-table-init : goal.loop-table-init
loop-table-init c = no_refs c.new-rows.result.items c.new-rows.ensures.items

pub loop-table-preserved : goal.loop-table-preserved
loop-table-preserved c = c.in_ok-put_last.ensures ∙ ap (λ rows. rows ++ c.in-Some.table.now) c.loop-table.invariant ∙ flat_more c.loop-table.yielded (c.in-Some.field-0-0, c.in-Some.table)

pub returns : goal.returns
returns c =
    let tables = c.self.inside.tables.entries in
    let end = iter_end deref_pair c.range-table-items.result c.loop-table.yielded c.into_iter-table-iterator.result c.loop-table.table-iterator c.next.new.self c.next.result c.into_iter-table-iterator.ensures.into_iter_gives c.loop-table.yielded_by c.in-None.is c.next.ensures.steps in
    c.loop-table.invariant ∙ ap flat (end.0 ∙ (rw c.first_key-first.ensures at (c.range-table-items.ensures.between tt)))
    ∙ datapath_flat c.args.dp.0 (range_contains nat_cmp (Included (c.args.dp.0 * 32)) (Excluded (c.args.dp.0 * 32 + 32))) (is_within c.args.dp.0) tables c.self.invariant.tables.keyed
    ∙ ap (rows_of c.args.dp) c.self.view_is
