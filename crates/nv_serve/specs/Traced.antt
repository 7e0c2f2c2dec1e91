-- What the replies to traces tell.
use Rattle.std.specs.Prelude.{◌≡◌, ℕ, Bool, List, ◌∷◌, ◌++◌, Ok}
use Rattle.clap.specs.Words.{Text}
use Rattle.pkt_core.specs.Packet.{Values}
use Rattle.pkt_micro.specs.declared.microflow.Micro.{Micro}
use Rattle.nv_base.specs.declared.object.ObjId.{ObjId}
use Rattle.nb_cmds.specs.Lines.{read_line}
use Rattle.nb_cmds.specs.declared.line.Line.TheVariants.{Query}
use Rattle.nb_cmds.specs.declared.query.Query.TheVariants.{Trace}
use Rattle.net_router.specs.Meaning.{meaning}
use Rattle.net_meaning.specs.Walk.{events}
use Rattle.tr_walk.specs.Events.{without_hits}
use Rattle.nv_serve.specs.Output.{opened}
use Rattle.nv_reply.specs.Reply.{Reply, traced, traced_port, trace_lines, ok_line, reply, session_after}
use Rattle.nv_reply.specs.Session.{Session}

-- The text is the lines of the events of the rows, and `ok`; these events are, hits left out, what the network does with the packet,
-- from the state that earlier packets left; and the state after the line is the one that the packet leaves.
pub record TellsMeaning (session : Session) (minimal : Bool) (arrival : ObjId) (packet : Values) (answer : Reply) : Type 0 where
  pub told : answer.text ≡ trace_lines session minimal arrival packet ++ ok_line
  pub meant : without_hits (traced session arrival packet) ≡ events (meaning session.network session.hops arrival packet session.state).told
  pub left : answer.after.state ≡ (meaning session.network session.hops arrival packet session.state).state

-- each trace among these lines, of a packet that arrives at a port of a switch or of a router, is answered so, in the session that the lines
-- before it left
abbrev pub TracesAreMeant : List Text → List (List ℕ) → Type 0
TracesAreMeant words lines =
    (before : List (List ℕ)) (line : List ℕ) (later : List (List ℕ)) → lines ≡ before ++ line ∷ later
    → (minimal : Bool) (dp : List ℕ) (micro : Micro) → read_line line ≡ Ok (Query (Trace minimal dp micro))
    → (arrival : ObjId) → traced_port (session_after (opened words).session before).network dp micro.inport ≡ Ok arrival
    → TellsMeaning (session_after (opened words).session before) minimal arrival micro.packet (reply (session_after (opened words).session before) line)
