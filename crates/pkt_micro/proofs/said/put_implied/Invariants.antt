use Rattle.pkt_micro.specs.Microflow.{sole}
use Rattle.pkt_micro.proofs.Lists.{FlatLeft}
use Rattle.pkt_micro.proofs.said.put_implied.Given as goal

-- what the tests that are left say, after what is there, is what all say
abbrev pub invariant-loop-alternatives : goal.invariant-loop-alternatives
invariant-loop-alternatives l = FlatLeft (λ a. sole a.now) l.alternatives-items l.fn.list l.list l.alternatives-index
