use Rattle.std.proofs.Common.{subst}
use Rattle.inc_table.specs.declared.delta.Change.{Change}
use Rattle.inc_table.specs.declared.delta.Change.TheVariants.{Put}
use Rattle.inc_table.specs.Nested.{IsChangedAt}
use Rattle.inc_group.proofs.Moved.{told_more, told_none}
use Rattle.inc_group.proofs.grouping.tell.Goals as goal

pub loop-group-init : goal.loop-group-init
loop-group-init g c = told_none g.K.Ord.cmp g.met.A.Ord.total (c.args.key.now, c.args.change.now) c.args.moves.now

pub loop-group-preserved : goal.loop-group-preserved
loop-group-preserved g c =
    told_more g.K.Ord.cmp g.met.A.Ord.total c.args.groups.now c.loop-group.group-index c.group-item.result (c.args.key.now, c.args.change.now) c.args.moves.now c.loop-group.moves c.set.new.self c.loop-group-test.true c.group-item.is c.loop-group.invariant
    (subst (λ (change : Change g.row.V.Denot). IsChangedAt g.A.Ord.cmp g.K.Ord.cmp ((c.group-item.result, c.args.key.now), Put change) c.loop-group.moves c.set.new.self) c.in_ok-copy_change.ensures c.in_ok-set.ensures)
