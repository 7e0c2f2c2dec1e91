use Rattle.std.proofs.Common.{◌≡◌, ℕ, List, ◌++◌, length}
use Rattle.nv_io.specs.Writing.{Wrote}
use Rattle.nv_io.proofs.whole.put_all.Given as goal

-- what was put so far and the rest are the bytes
abbrev pub invariant-loop-rest : goal.invariant-loop-rest
invariant-loop-rest g l =
    (part : List ℕ) × (l.bytes ≡ part ++ l.rest) × Wrote g.K.Sink.put_gives g.K.Sink.state l.initial.sink l.sink part

abbrev pub decreases-loop-rest : goal.decreases-loop-rest
decreases-loop-rest g l = length l.rest
