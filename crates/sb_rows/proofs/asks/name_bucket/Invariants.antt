use Rattle.std.proofs.Common.{◌≡◌, fold, take}
use Rattle.sb_rows.specs.inner.Asks.{mixed}
use Rattle.sb_rows.proofs.asks.name_bucket.Given as goal

-- the bucket of the bytes so far
abbrev pub invariant-loop-byte : goal.invariant-loop-byte
invariant-loop-byte l = l.bucket ≡ fold mixed 0 (take l.byte-index l.byte-items)
