-- What a line is answered, and the session that it leaves.
use Rattle.std.specs.Prelude.{ℕ, Bool, true, false, ◌||◌, List, [], ◌∷◌, ◌++◌, length, map, Option, Some, None, ok_or, Result, Ok, Err, if◌then◌else◌, codes}
use Rattle.nv_base.specs.declared.object.ObjId.{ObjId}
use Rattle.pkt_core.specs.Packet.{Values}
use Rattle.ct_core.specs.State.{State, with_conns}
use Rattle.ct_state.specs.Work.{with_nbrs}
use Rattle.nb_records.specs.declared.refusal.Refusal.{Refusal}
use Rattle.nb_records.specs.declared.refusal.Refusal.TheVariants.{NoSuchObject, NotOnDatapath}
use Rattle.nb_records.specs.declared.router.Router.{Router}
use Rattle.nb_records.specs.declared.switch.Switch.{Switch}
use Rattle.nb_records.specs.Refusal.{refusal_line}
use Rattle.nb_cmds.specs.Lines.{read_line}
use Rattle.nb_cmds.specs.declared.line.Line.{Line}
use Rattle.nb_cmds.specs.declared.line.Line.TheVariants.{Nothing, Edits, Query}
use Rattle.nb_cmds.specs.declared.query.Query as query
use Rattle.nb_cmds.specs.declared.query.Query.TheVariants.{FlowList, CtList, CtFlush, NbrList, NbrFlush, Dump, Trace}
use Rattle.nb_read.specs.Then.{and_then}
use Rattle.nb_model.specs.Belongs.{is_number}
use Rattle.nb_model.specs.Network.{Network}
use Rattle.nb_model.specs.Transactions.{edited}
use Rattle.nb_store.specs.Places.{datapath_of, on_datapath, port_of}
use Rattle.nb_dump.specs.Dump.{dump}
use Rattle.nv_table.specs.Table.{with_record}
use Rattle.sb_rows.specs.Listing.{listing}
use Rattle.lr_units.specs.Network.{network_rows}
use Rattle.tr_walk.specs.declared.event.Event.{Event}
use Rattle.tr_walk.specs.Events.{event_of, told_only}
use Rattle.net_meaning.specs.Walk.{Walked}
use Rattle.tr_stage.specs.declared.outcome.Hit.{Hit}
use Rattle.tr_walk.specs.Machine.{machine}
use Rattle.nv_reply.specs.Connections.{connection_lines}
use Rattle.nv_reply.specs.Events.{event_lines}
use Rattle.nv_reply.specs.Neighbours.{neighbour_lines}
use Rattle.nv_reply.specs.Session.{Session, with_state}
use Rattle.nv_reply.specs.Struck.{struck}

-- the text of a reply, whether it is a refusal, and the session after the line
pub record Reply : Type 0 where
  pub text : List ℕ
  pub refused : Bool
  pub after : Session

-- the line that ends the reply to each line that says something and is not refused
abbrev pub ok_line : List ℕ
ok_line = codes "ok\n"

-- a refused line leaves the session as it was
abbrev pub refuse : Session → Refusal → Reply
refuse session refusal = record { text = refusal_line refusal; refused = true; after = session }

-- a line that is done is answered by its lines and `ok`
abbrev pub accept : List ℕ → Session → Reply
accept lines session = record { text = lines ++ ok_line; refused = false; after = session }

-- the reply for what was found, or the refusal
abbrev pub answered : {X : Type 0} → Session → Result X Refusal → (X → Reply) → Reply
answered session (Err refusal) reply_for = refuse session refusal
answered session (Ok found) reply_for = reply_for found

-- the numbers and the names of switches and routers, by rising number
abbrev pub datapaths : List Switch → List Router → List (ObjId × List ℕ)
datapaths switches [] = map (λ switch. (switch.id, switch.name)) switches
datapaths switches (router ∷ routers) = with_record (λ dp. dp.0) (router.id, router.name) (datapaths switches routers)

-- the listing of the flows of one datapath, or of all
unfoldable pub flows : Network → Option ObjId → List ℕ
flows net only = listing (network_rows net) (datapaths net.switches net.routers) only

-- how many rows the network has
unfoldable pub row_count : Network → ℕ
row_count net = length (network_rows net)

-- the number of the switch or the router of this name
abbrev pub wanted_datapath : Network → List ℕ → Result ObjId Refusal
wanted_datapath net name = ok_or (datapath_of net name) (NoSuchObject name)

-- the number of the port of this name, of a switch or of a router
abbrev pub wanted_port : Network → List ℕ → Result ObjId Refusal
wanted_port net name = ok_or (port_of net name) (NoSuchObject name)

-- the port is on the datapath
abbrev pub on_wanted : Network → ObjId → List ℕ → ObjId → Result ObjId Refusal
on_wanted net dp name port = if is_number (on_datapath net port) dp then Ok port else Err (NotOnDatapath name)

-- the port by which a traced packet comes into a datapath
abbrev pub traced_port : Network → List ℕ → List ℕ → Result ObjId Refusal
traced_port net datapath name = and_then (wanted_datapath net datapath) (λ dp. and_then (wanted_port net name) (on_wanted net dp name))

-- what the rows do with a packet that comes in by a port, from the state that earlier packets left
abbrev pub walked : Session → ObjId → Values → Walked Hit State
walked session port packet = machine session.network session.hops port packet session.state

-- what is told of it
abbrev pub traced : Session → ObjId → Values → List Event
traced session port packet = map event_of (walked session port packet).told

-- the session after it
abbrev pub after_trace : Session → ObjId → Values → Session
after_trace session port packet = with_state (walked session port packet).state session

-- the session without connections
abbrev pub flushed : Session → Session
flushed session = with_state (with_conns [] session.state) session

-- the session without neighbours
abbrev pub forgotten : Session → Session
forgotten session = with_state (with_nbrs [] session.state) session

-- the session after edits that leave this network
abbrev pub after_edits : Session → Network → Session
after_edits session net = record session { network = net; state = struck session.network net session.state }

-- the lines of a trace: `--minimal` leaves out those of hits
abbrev pub trace_lines : Session → Bool → ObjId → Values → List ℕ
trace_lines session minimal port packet = event_lines session.network (told_only minimal (traced session port packet))

-- the reply to a query
abbrev pub reply_to_query : Session → query.Query → Reply
reply_to_query session (FlowList None) = accept (flows session.network None) session
reply_to_query session (FlowList (Some name)) = answered session (wanted_datapath session.network name) (λ number. accept (flows session.network (Some number)) session)
reply_to_query session (Trace minimal dp micro) =
    answered session (traced_port session.network dp micro.inport) (λ port. accept (trace_lines session minimal port micro.packet) (after_trace session port micro.packet))
reply_to_query session CtList = accept (connection_lines session.network session.state.conns) session
reply_to_query session CtFlush = accept [] (flushed session)
reply_to_query session NbrList = accept (neighbour_lines session.network session.state.nbrs) session
reply_to_query session NbrFlush = accept [] (forgotten session)
reply_to_query session Dump = accept (dump session.network) session

-- the reply to what a line says
abbrev pub reply_to : Session → Line → Reply
reply_to session Nothing = record { text = []; refused = false; after = session }
reply_to session (Edits list) = answered session (edited session.network list) (λ net. accept [] (after_edits session net))
reply_to session (Query query) = reply_to_query session query

-- the reply to a line
unfoldable pub reply : Session → List ℕ → Reply
reply session line = answered session (read_line line) (reply_to session)

-- the replies to lines, in order, each from the session that the earlier lines left
abbrev pub replies : Session → List (List ℕ) → List ℕ
replies session [] = []
replies session (line ∷ lines) = (reply session line).text ++ replies (reply session line).after lines

-- whether some reply is a refusal
abbrev pub some_refused : Session → List (List ℕ) → Bool
some_refused session [] = false
some_refused session (line ∷ lines) = (reply session line).refused || some_refused (reply session line).after lines

-- the session that lines leave
abbrev pub session_after : Session → List (List ℕ) → Session
session_after session [] = session
session_after session (line ∷ lines) = session_after (reply session line).after lines
