-- A reply is a refusal exactly where its text says so.
use Rattle.std.proofs.Common.{◌≡◌, ℕ, true, false, Some, None, Result, Ok, Err, List, [], ◌∷◌, ◌++◌, append_assoc, refl, sym, ap, ◌∙◌}
use Rattle.std.specs.Prelude.{codes, filter, nat_eq, Option}
use Rattle.std.specs.List.{starts_with, flat_map}
use Rattle.nv_base.specs.declared.object.ObjId.{ObjId}
use Rattle.ct_core.specs.declared.entry.Entry.{Entry}
use Rattle.ct_core.specs.declared.zone.Zone.{Zone}
use Rattle.ct_core.specs.declared.zone.Zone.TheVariants.{Port, Dnat, Snat}
use Rattle.nb_records.specs.Refusal.{refusal_label, refusal_line}
use Rattle.nb_records.specs.declared.refusal.Refusal.{Refusal}
use Rattle.nb_records.specs.declared.refusal.Refusal.TheVariants as refused
use Rattle.nb_cmds.specs.Lines.{read_line}
use Rattle.nb_cmds.specs.declared.line.Line.{Line}
use Rattle.nb_cmds.specs.declared.line.Line.TheVariants as line
use Rattle.nb_cmds.specs.declared.query.Query.{Query}
use Rattle.nb_cmds.specs.declared.query.Query.TheVariants as query
use Rattle.nb_model.specs.Network.{Network}
use Rattle.nb_model.specs.Sound.{IsSound}
use Rattle.nb_model.specs.Transactions.{edited}
use Rattle.sb_model.specs.declared.row.Row.{Row}
use Rattle.sb_rows.specs.Row.{rows_of}
use Rattle.sb_rows.specs.Listing.{datapath_listing, is_asked_for}
use Rattle.lr_units.specs.Network.{network_rows}
use Rattle.tr_walk.specs.Events.{told_only}
use Rattle.tr_walk.specs.declared.event.Event.{Event}
use Rattle.tr_walk.specs.declared.event.Event.TheVariants as events
use Rattle.nv_reply.specs.Connections.{connection_line, connection_lines, entry_text, zone_text}
use Rattle.nv_reply.specs.Events.{event_lines}
use Rattle.nv_reply.specs.Reply.{Reply, ok_line, answered, datapaths, flows, wanted_datapath, traced, traced_port, reply_to_query, reply_to, reply}
use Rattle.nv_reply.specs.Session.{Session}
use Rattle.nv_reply.proofs.NeighbourLines.{neighbours_say}

-- a reply that says whether it is a refusal
abbrev Says : Reply → Type 0
Says r = r.refused ≡ starts_with nat_eq r.text (codes "refused E")

-- the line of a refusal does
refused_says : (refusal : Refusal) → true ≡ starts_with nat_eq (refusal_line refusal) (codes "refused E")
unfolding refusal_label
refused_says refused.NotUtf8 = refl
refused_says refused.LineTooLong = refl
refused_says (refused.UnknownCommand word) = refl
refused_says refused.WrongWords = refl
refused_says (refused.BadName word) = refl
refused_says (refused.BadMac word) = refl
refused_says (refused.BadAddress word) = refl
refused_says (refused.BadNumber word) = refl
refused_says (refused.NoSuchObject name) = refl
refused_says (refused.Exists name) = refl
refused_says (refused.WrongKind name) = refl
refused_says (refused.MatchSyntax place) = refl
refused_says (refused.MatchType rule place) = refl
refused_says (refused.Duplicate object) = refl
refused_says (refused.NotOnDatapath name) = refl
refused_says (refused.Limit kind bound) = refl
refused_says (refused.BadMicroflow rule) = refl
refused_says (refused.NotInProfile word) = refl

answered_says : {X : Type 0} (session : Session) (found : Result X Refusal) (reply_for : X → Reply) → ((x : X) → Says (reply_for x)) → Says (answered session found reply_for)
answered_says session (Err refusal) reply_for each = refused_says refusal
answered_says session (Ok x) reply_for each = each x

-- no line of an event does
events_say : (net : Network) (all : List Event) → false ≡ starts_with nat_eq (event_lines net all ++ ok_line) (codes "refused E")
events_say net [] = refl
events_say net (events.Hit hit ∷ more) = refl
events_say net (events.Output port packet ∷ more) = refl
events_say net (events.Drop dp cause ∷ more) = refl
events_say net (events.Reject port ∷ more) = refl
events_say net (events.HopLimit port ∷ more) = refl

-- no line of a connection does
zone_says : (net : Network) (zone : Zone) (more : List ℕ) → false ≡ starts_with nat_eq (zone_text net zone ++ more) (codes "refused E")
zone_says net (Port number) more = refl
zone_says net (Dnat number) more = refl
zone_says net (Snat number) more = refl

connections_say : (net : Network) (conns : List Entry) → false ≡ starts_with nat_eq (connection_lines net conns ++ ok_line) (codes "refused E")
connections_say net [] = refl
connections_say net (entry ∷ conns) =
    let others = connection_lines net conns in
    zone_says net entry.zone (entry_text entry ++ (others ++ ok_line))
    ∙ ap (λ text. starts_with nat_eq text (codes "refused E"))
    (sym (append_assoc (connection_line net entry) others ok_line ∙ append_assoc (zone_text net entry.zone) (entry_text entry) (others ++ ok_line)))

-- no listing does
datapaths_say : (rows : List Row) (some : List (ObjId × List ℕ)) → false ≡ starts_with nat_eq (flat_map (λ d. datapath_listing (rows_of d.0 rows) d.1) some ++ ok_line) (codes "refused E")
datapaths_say rows [] = refl
datapaths_say rows (one ∷ some) = refl

flows_say : (net : Network) (only : Option ObjId) → false ≡ starts_with nat_eq (flows net only ++ ok_line) (codes "refused E")
unfolding flows
flows_say net only = datapaths_say (network_rows net) (filter (λ d. is_asked_for only d.0) (datapaths net.switches net.routers))

query_says : (session : Session) (q : Query) → IsSound session.network → Says (reply_to_query session q)
query_says session (query.FlowList None) sound = flows_say session.network None
query_says session (query.FlowList (Some name)) sound = answered_says session (wanted_datapath session.network name) _ (λ number. flows_say session.network (Some number))
query_says session (query.Trace minimal dp micro) sound =
    answered_says session (traced_port session.network dp micro.inport) _ (λ port. events_say session.network (told_only minimal (traced session port micro.packet)))
query_says session query.CtList sound = connections_say session.network session.state.conns
query_says session query.CtFlush sound = refl
query_says session query.NbrList sound = neighbours_say session.network sound session.state.nbrs
query_says session query.NbrFlush sound = refl
query_says session query.Dump sound = refl

line_says : (session : Session) (said : Line) → IsSound session.network → Says (reply_to session said)
line_says session line.Nothing sound = refl
line_says session (line.Edits list) sound = answered_says session (edited session.network list) _ (λ net. refl)
line_says session (line.Query q) sound = query_says session q sound

pub says_refused : (session : Session) → IsSound session.network → (text : List ℕ) → Says (reply session text)
unfolding reply
says_refused session sound text = answered_says session (read_line text) (reply_to session) (λ said. line_says session said sound)
