use Rattle.std.proofs.Common.{◌≡◌, count_by}
use Rattle.inc_table.specs.Delta.{IsApplied, IsDifference, IsAbove}
use Rattle.inc_table.specs.Maker.{more_made}
use Rattle.inc_table.specs.Node.{is_put, outputs_of}
use Rattle.inc_table.proofs.remake.change_each.Given as goal

-- The changes so far are applied, the table is that of the inputs, and what changed in it is told, of no key that is above theirs.
abbrev pub invariant-loop-key : goal.invariant-loop-key
invariant-loop-key g l = record {
  inputs : IsApplied g.M.Key.Ord.cmp l.yielded l.fn.inputs l.inputs;
  table : l.table ≡ outputs_of g.M.Maker.out_of l.inputs;
  told : IsDifference g.M.Key.Ord.cmp g.M.Out.PartialEq.eq l.fn.table l.table l.changed;
  above : (k : g.row.M-Key.Denot) → IsAbove g.M.Key.Ord.cmp k l.yielded → IsAbove g.M.Key.Ord.cmp k l.changed;
  counted : g.M.Maker.made l.maker ≡ more_made (count_by (λ change. is_put change.1) l.yielded) (g.M.Maker.made l.fn.maker);
}
