use Rattle.pkt_micro.proofs.Judged.{PacketLeft}
use Rattle.pkt_micro.proofs.judge.packet_with.Given as goal

-- the packet with the numbers that are left is the packet with all
abbrev pub invariant-loop-equality : goal.invariant-loop-equality
invariant-loop-equality l = PacketLeft l.equalities l.packet l.equality-index
