use Rattle.sb_rows.specs.inner.Index.{IsTaker}
use Rattle.sb_rows.proofs.IndexFirst.{AreTried}
use Rattle.sb_rows.proofs.index.Index.first.Given as goal

-- the best so far takes the packet, and the places in the buckets of the shapes so far are tried
abbrev pub invariant-loop-shaped : goal.invariant-loop-shaped
invariant-loop-shaped g l = record {
  taker : IsTaker (g.E.Env.lookup l.env) l.packet l.rows.entries l.best;
  tried : AreTried (g.E.Env.lookup l.env) l.packet l.rows.entries l.self l.best l.shaped-index;
}
