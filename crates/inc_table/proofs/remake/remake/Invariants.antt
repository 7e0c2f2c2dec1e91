use Rattle.std.proofs.Common.{◌≡◌, ◌+◌, ◌++◌, length}
use Rattle.inc_table.specs.Delta.{IsDifference}
use Rattle.inc_table.specs.Maker.{more_made}
use Rattle.inc_table.specs.Node.{outputs_of}
use Rattle.inc_table.proofs.Sides.{IsPast}
use Rattle.inc_table.proofs.remake.remake.Given as goal

-- What is made is the first part of the outputs, and what changed up to there is told.
abbrev pub invariant-loop-key : goal.invariant-loop-key
invariant-loop-key g l = record {
  outs : outputs_of g.M.Maker.out_of l.inputs ≡ l.made.items ++ outputs_of g.M.Maker.out_of l.inputs_ahead;
  told : IsDifference g.M.Key.Ord.cmp g.M.Out.PartialEq.eq l.fn.table (l.made.items ++ l.outs_ahead) l.changed;
  made_inputs : IsPast g.M.Key.Ord.cmp l.made.items l.inputs_ahead;
  made_outs : IsPast g.M.Key.Ord.cmp l.made.items l.outs_ahead;
  told_inputs : IsPast g.M.Key.Ord.cmp l.changed l.inputs_ahead;
  told_outs : IsPast g.M.Key.Ord.cmp l.changed l.outs_ahead;
  counted : more_made (length l.inputs_ahead) (g.M.Maker.made l.maker) ≡ more_made (length l.inputs) (g.M.Maker.made l.fn.maker);
}

abbrev pub decreases-loop-key : goal.decreases-loop-key
decreases-loop-key g l = length l.inputs_ahead + length l.outs_ahead
