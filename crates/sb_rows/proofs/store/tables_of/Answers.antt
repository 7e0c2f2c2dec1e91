use Rattle.std.proofs.Common.{◌≡◌, ◌≤◌, ◌++◌, ◌∙◌, sym, ap, subst, Ok, arith}
use Rattle.std.proofs.lemmas.Iterator.Adapters.{YieldsList-from_vec, fact_from_collect}
use Rattle.std.proofs.lemmas.List.Elements.{All-head}
use Rattle.std.specs.BTreeMap.{IsFromIterResult}
use Rattle.std.specs.Ordering.{nat_cmp}
use Rattle.sb_model.specs.declared.row.Row.{Row}
use Rattle.sb_rows.specs.inner.Store.{AreTables, flat}
use Rattle.sb_rows.specs.inner.Tables.{key_of}
use Rattle.sb_rows.proofs.Made.{nothing_by_length, nothing_left, nothing_yet, one_further, own_ordered}
use Rattle.sb_rows.proofs.PlacedAll.{collected}
use Rattle.sb_rows.proofs.store.tables_of.Goals as goal

pub loop-row-init : goal.loop-row-init
loop-row-init c = nothing_yet c.new-tables.result.items c.new-rows.result.items c.into_iter-row-iterator.result.rest.items c.args.sorted.items c.new-tables.ensures.items c.new-rows.ensures.items c.into_iter-row-iterator.ensures.into_iter_gives.0

pub begin_table-requires-clause-order : goal.begin_table-requires-clause-order
begin_table-requires-clause-order c = own_ordered c.loop-row.tables.items c.loop-row.rows.items c.loop-row.key c.loop-row.row-iterator.rest.items c.args.sorted.items c.loop-row.invariant c.requires

pub begin_table-requires-clause-keyed : goal.begin_table-requires-clause-keyed
begin_table-requires-clause-keyed c = c.loop-row.invariant.keyed

pub begin_table-requires-clause-tables : goal.begin_table-requires-clause-tables
begin_table-requires-clause-tables c = c.loop-row.invariant.made

pub begin_table-requires-clause-above : goal.begin_table-requires-clause-above
begin_table-requires-clause-above c = c.loop-row.invariant.above

pub begin_table-requires-clause-rise : goal.begin_table-requires-clause-rise
begin_table-requires-clause-rise c =
    rw c.table_key-next.ensures (All-head (λ (r : Row). c.loop-row.key ≤ key_of r) c.in-Some.row c.next.new.self.rest.items (rw c.in-Some.ensures.steps.0 at c.loop-row.invariant.no_lower))

pub loop-row-preserved : goal.loop-row-preserved
loop-row-preserved c =
    one_further c.loop-row.tables.items c.loop-row.rows.items c.loop-row.key c.loop-row.row-iterator.rest.items c.args.sorted.items c.loop-row.invariant c.requires c.in-Some.row c.next.new.self.rest.items c.table_key-next.result c.begin_table.new.tables.items c.begin_table.new.rows.items c.push.new.self.items
    c.in-Some.ensures.steps.0 c.table_key-next.ensures c.in_ok-begin_table.ensures.tables c.in_ok-begin_table.ensures.above c.in_ok-begin_table.ensures.keyed c.in_ok-begin_table.ensures.rows c.in_ok-push.ensures.items

pub add_table-requires-clause-order : goal.add_table-requires-clause-order
add_table-requires-clause-order c = own_ordered c.loop-row.tables.items c.loop-row.rows.items c.loop-row.key c.loop-row.row-iterator.rest.items c.args.sorted.items c.loop-row.invariant c.requires

pub add_table-requires-clause-keyed : goal.add_table-requires-clause-keyed
add_table-requires-clause-keyed c = c.loop-row.invariant.keyed

pub add_table-requires-clause-tables : goal.add_table-requires-clause-tables
add_table-requires-clause-tables c = c.loop-row.invariant.made

pub add_table-requires-clause-above : goal.add_table-requires-clause-above
add_table-requires-clause-above c = c.loop-row.invariant.above

-- the tables are those that were made
made : (c : goal.In_ok-collect) → c.in_ok-collect.field-0.entries ≡ c.add_table.new.tables.items
made c =
    let all = fact_from_collect {E = Unit {0}} (IsFromIterResult nat_cmp) (Ok c.in_ok-collect.field-0) c.in_ok-collect.ensures.ran (YieldsList-from_vec c.add_table.new.tables.items c.into_iter.ensures.rest (omega arith)) in
    collected c.add_table.new.tables.items c.in_ok-collect.field-0 c.in_ok-add_table.ensures.tables.rise all

pub returns-clause-tables : goal.returns-clause-tables
returns-clause-tables c = subst AreTables (sym (made c)) c.in_ok-add_table.ensures.tables

pub returns-clause-rows : goal.returns-clause-rows
returns-clause-rows c =
    ap flat (made c) ∙ c.in_ok-add_table.ensures.rows
    ∙ nothing_left (flat c.loop-row.tables.items ++ c.loop-row.rows.items) c.loop-row.row-iterator.rest.items (nothing_by_length c.loop-row.row-iterator.rest.items (sym c.loop-row.row-iterator.rest.ok.0 ∙ c.in-None.ensures.steps.0)) ∙ c.loop-row.invariant.whole
