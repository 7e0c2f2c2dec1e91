use Rattle.std.proofs.Common.{◌≡◌, length}
use Rattle.act_parse.specs.inner.Wanted.{ends_with}
use Rattle.act_parse.proofs.wanted.ends_with.Given as goal

-- the ends that are left decide
abbrev pub invariant-loop-rest : goal.invariant-loop-rest
invariant-loop-rest l = ends_with l.wanted l.front l.end ≡ ends_with l.wanted l.front l.text

abbrev pub decreases-loop-rest : goal.decreases-loop-rest
decreases-loop-rest l = length l.end
