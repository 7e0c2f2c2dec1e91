use Rattle.act_parse.specs.inner.Wanted.{begins}
use Rattle.act_parse.proofs.Reach.{SoFar}
use Rattle.act_parse.proofs.wanted.reach.Given as goal

-- so many bytes begin what is wanted
abbrev pub invariant-loop-len : goal.invariant-loop-len
invariant-loop-len l = SoFar (begins l.wanted) l.text l.len
