use Rattle.std.proofs.Common.{◌≡◌, ◌+◌, ◌*◌, drop}
use Rattle.net_meaning.specs.Walk.Target.{Ports}
use Rattle.tr_walk.specs.inner.Telling.{sending}
use Rattle.tr_walk.proofs.Steps.{SameEnd}
use Rattle.tr_walk.proofs.walk.+walk.Given as goal

-- each step of a walk is taken by the functions after it, and at last a hop
abbrev pub decreases-reply : goal.decreases-reply
decreases-reply g l = 8 * l.hops

abbrev pub decreases-deliver : goal.decreases-deliver
decreases-deliver g l = 8 * l.hops

abbrev pub decreases-go_out : goal.decreases-go_out
decreases-go_out g l = 8 * l.hops + 1

abbrev pub decreases-leave : goal.decreases-leave
decreases-leave g l = 8 * l.hops + 2

abbrev pub decreases-copy : goal.decreases-copy
decreases-copy g l = 8 * l.hops + 3

abbrev pub decreases-send : goal.decreases-send
decreases-send g l = 8 * l.hops + 4

abbrev pub decreases-send_late : goal.decreases-send_late
decreases-send_late g l = 8 * l.hops + 4

abbrev pub decreases-arrive : goal.decreases-arrive
decreases-arrive g l = 8 * l.hops + 5

abbrev pub decreases-enter : goal.decreases-enter
decreases-enter g l = 8 * l.hops + 6

-- what is told so far, and then what the copies tell that are left, is all, and they leave the state that all leave
abbrev pub invariant-copy-loop-port : goal.invariant-copy-loop-port
invariant-copy-loop-port g l =
    SameEnd l.flows.minimal l.events.items (sending l.flows.records.now l.hops l.work.state l.arrival (Ports (drop l.port-index l.ports)) l.packet) l.fn.events.items (sending l.flows.records.now l.hops l.fn.work.state l.arrival (Ports l.ports) l.packet)
    × (l.work.back ≡ l.fn.work.back)
