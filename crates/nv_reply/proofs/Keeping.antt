-- What a reply keeps of a session's network.
use Rattle.std.proofs.Common.{◌≡◌, ℕ, List, Some, None, Result, Ok, Err, refl}
use Rattle.nb_records.specs.declared.edit.Edit.{Edit}
use Rattle.nb_records.specs.declared.refusal.Refusal.{Refusal}
use Rattle.nb_cmds.specs.Lines.{read_line}
use Rattle.nb_cmds.specs.declared.line.Line.{Line}
use Rattle.nb_cmds.specs.declared.line.Line.TheVariants as line
use Rattle.nb_cmds.specs.declared.query.Query.{Query}
use Rattle.nb_cmds.specs.declared.query.Query.TheVariants as query
use Rattle.nb_model.specs.Network.{Network}
use Rattle.nb_model.specs.Transactions.{edited}
use Rattle.nv_reply.specs.Session.{Session}
use Rattle.nv_reply.specs.Reply.{Reply, answered, wanted_datapath, traced_port, reply_to, reply_to_query, reply}

-- what holds of the network, and after each reply for what may be found
pub answered_keeps : {X : Type 0} (P : Network → Type 0) (session : Session) (found : Result X Refusal) (reply_for : X → Reply) → P session.network → ((x : X) → found ≡ Ok x → P (reply_for x).after.network)
    → P (answered session found reply_for).after.network
answered_keeps P session (Err refusal) reply_for here each = here
answered_keeps P session (Ok x) reply_for here each = each x refl

-- a query changes nothing of it
pub query_keeps : (P : Network → Type 0) (session : Session) (q : Query) → P session.network → P (reply_to_query session q).after.network
query_keeps P session (query.FlowList None) here = here
query_keeps P session (query.FlowList (Some name)) here = answered_keeps P session (wanted_datapath session.network name) _ here (λ number found. here)
query_keeps P session (query.Trace minimal dp micro) here = answered_keeps P session (traced_port session.network dp micro.inport) _ here (λ port found. here)
query_keeps P session query.CtList here = here
query_keeps P session query.CtFlush here = here
query_keeps P session query.NbrList here = here
query_keeps P session query.NbrFlush here = here
query_keeps P session query.Dump here = here

-- what holds of the network, and after the edits of the line, if it asks for edits and none is refused
pub reply_keeps : (P : Network → Type 0) (session : Session) (text : List ℕ) → P session.network
    → ((list : List Edit) (net : Network) → read_line text ≡ Ok (line.Edits list) → edited session.network list ≡ Ok net → P net) → P (reply session text).after.network
unfolding reply
reply_keeps P session text here after_edits = answered_keeps P session (read_line text) (reply_to session) here by
  where
    by : (said : Line) → read_line text ≡ Ok said → P (reply_to session said).after.network
    by line.Nothing is = here
    by (line.Edits list) is = answered_keeps P session (edited session.network list) _ here (λ net done. after_edits list net is done)
    by (line.Query q) is = query_keeps P session q here
