use Rattle.nv_input.specs.Opening.{opening_of}
use Rattle.nv_input.proofs.Conversing.{Conversed}
use Rattle.nv_input.proofs.converse.converse.Given as goal

abbrev pub invariant-pieces : goal.invariant-pieces
invariant-pieces g l =
    Conversed g.S.Source.take_gives g.S.Source.state g.K.Sink.put_gives g.K.Sink.state (opening_of l.fn.text l.fn.server.session) l.fn.source l.fn.sink l.source l.sink l.server.session l.server.line.items l.server.some_refused l.room

-- each take gives a byte or ends the input
abbrev pub decreases-pieces : goal.decreases-pieces
decreases-pieces g l = l.room
