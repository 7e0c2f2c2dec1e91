use Rattle.std.proofs.Common.{take}
use Rattle.nb_limits.proofs.Noted.{AreNoted}
use Rattle.nb_limits.proofs.acl_limits.switch_count.Given as goal

-- the switches of the ports so far
abbrev pub invariant-loop-at : goal.invariant-loop-at
invariant-loop-at l = AreNoted l.records (take l.at l.group.ports) l.switches.items
