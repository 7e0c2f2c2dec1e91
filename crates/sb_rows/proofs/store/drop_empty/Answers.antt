use Rattle.std.proofs.Common.{◌∙◌, ap}
use Rattle.std.specs.BTreeMap.{is_at}
use Rattle.std.specs.Ordering.{nat_cmp}
use Rattle.sb_rows.specs.inner.Store.{flat}
use Rattle.sb_rows.proofs.Flat.{flat_removed, keyed_removed}
use Rattle.sb_rows.proofs.store.drop_empty.Goals as goal

pub returns-then-is_emptied-clause-tables : goal.returns-then-is_emptied-clause-tables
returns-then-is_emptied-clause-tables c = record {
  rise = c.remove.ensures.ordered;
  keyed = rw c.remove.ensures.entries (keyed_removed (is_at (nat_cmp c.args.key)) c.args.tables.now.entries c.requires.keyed);
}

pub returns-then-is_emptied-clause-rows : goal.returns-then-is_emptied-clause-rows
returns-then-is_emptied-clause-rows c = ap flat c.remove.ensures.entries ∙ flat_removed (is_at (nat_cmp c.args.key)) c.args.tables.now.entries (c.is_emptied.ensures c.if-is_emptied.true)
