use Rattle.std.proofs.Common.{◌≡◌, ℕ, ◌<◌, get_or}
use Rattle.sb_rows.specs.inner.Index.{IsNoBetter, IsTaker, IsTried}
use Rattle.sb_rows.proofs.index.Index.first_of_filled.Given as goal

-- the best so far takes the packet, is none after that before, and none before a place so far whose row does
abbrev pub invariant-loop-there : goal.invariant-loop-there
invariant-loop-there g l = record {
  taker : IsTaker (g.E.Env.lookup l.env) l.packet l.rows.entries l.first;
  kept : (p : ℕ) → IsNoBetter l.fn.best p → IsNoBetter l.first p;
  tried : (k p : ℕ) → k < l.there-index → get_or l.there-items k (l.bucket, p) ≡ (l.bucket, p) → IsTried (g.E.Env.lookup l.env) l.packet l.rows.entries l.first p;
}
