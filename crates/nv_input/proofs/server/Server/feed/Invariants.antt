use Rattle.std.proofs.Common.{ℕ, ◌+◌, ◌≤◌, List, length}
use Rattle.nv_reply.specs.Session.{Session}
use Rattle.nv_input.specs.inner.StateAfter.{IsKeptAfter}
use Rattle.nv_input.proofs.Pieces.{Fed}
use Rattle.nv_input.proofs.server.Server.feed.Given as goal

-- what was run so far, whatever came before it
abbrev pub invariant-loop-line : goal.invariant-loop-line
invariant-loop-line g l = record {
  next : l.self.session.network.next + length l.self.line.items + length l.rest ≤ l.initial.self.session.network.next + length l.initial.self.line.items + length l.bytes;
  fed : (first : Session) (before : List ℕ) → IsKeptAfter first l.initial.self.session l.initial.self.line.items l.initial.self.some_refused before → Fed g.K.Sink.put_gives g.K.Sink.state first l.initial.sink l.sink before l.bytes l.rest l.self.session l.self.line.items l.self.some_refused;
}

abbrev pub decreases-loop-line : goal.decreases-loop-line
decreases-loop-line g l = length l.rest
