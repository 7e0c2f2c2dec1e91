-- Connections and neighbours fit, in each state that lines leave.
use Rattle.std.proofs.Common.{◌≡◌, ℕ, ◌+◌, ◌<◌, Bool, true, false, cond, not, List, [], ◌∷◌, length, sum_by, Some, None, Result, Ok, Err, refl, arith}
use Rattle.std.specs.Prelude.{filter}
use Rattle.std.specs.List.{AllByRecursion, IsDistinct}
use Rattle.std.proofs.lemmas.List.Sums.{sum_by-cons}
use Rattle.ct_core.specs.declared.neighbour.Neighbour.{Neighbour}
use Rattle.ct_core.specs.declared.entry.Entry.{Entry}
use Rattle.ct_core.specs.Changes.{AreConnections, IsEntry}
use Rattle.ct_core.specs.Neighbours.{AreNeighbours, IsNeighbour, same_pair}
use Rattle.ct_core.specs.State.{State}
use Rattle.ct_core.proofs.Changed.{all_filter, fewer}
use Rattle.nb_records.specs.declared.refusal.Refusal.{Refusal}
use Rattle.nb_cmds.specs.Lines.{read_line}
use Rattle.nb_cmds.specs.declared.line.Line.{Line}
use Rattle.nb_cmds.specs.declared.line.Line.TheVariants as line
use Rattle.nb_cmds.specs.declared.query.Query.{Query}
use Rattle.nb_cmds.specs.declared.query.Query.TheVariants as query
use Rattle.nb_cmds.proofs.QueryWords.{query_well_read}
use Rattle.nb_model.specs.Network.{Network}
use Rattle.nb_model.specs.Sound.{IsSound, router_port_ids}
use Rattle.nb_model.specs.Transactions.{edited}
use Rattle.nb_check.specs.Gone.{is_gone}
use Rattle.tr_router.specs.Parts.{IsState}
use Rattle.tr_walk.proofs.Refinement.{keeps_states}
use Rattle.nv_reply.specs.Reply.{Reply, answered, reply, reply_to, reply_to_query, session_after, traced_port, wanted_datapath}
use Rattle.nv_reply.specs.Session.{Session, new_session}
use Rattle.nv_reply.specs.Struck.{is_zone_gone, struck}
use Rattle.nv_reply.proofs.Reached.{empty_sound, reply_next, reply_sound}
use Rattle.nv_reply.proofs.TracedPorts.{traced_is_port}
use Rattle.nv_base.specs.Object.{number_limit}

-- those that stay are apart
some_apart : (kept : Neighbour → Bool) (nbrs : List Neighbour) → IsDistinct same_pair nbrs → IsDistinct same_pair (filter kept nbrs)
unfolding IsDistinct
some_apart kept [] apart = tt
some_apart kept (n ∷ nbrs) apart = by (kept n) (all_filter (λ (other : Neighbour). same_pair n other ≡ false) kept nbrs apart.0) (some_apart kept nbrs apart.1)
  where
    by : (b : Bool) → AllByRecursion (λ (other : Neighbour). same_pair n other ≡ false) (filter kept nbrs) → IsDistinct same_pair (filter kept nbrs)
        → IsDistinct same_pair (cond b (n ∷ filter kept nbrs) (filter kept nbrs))
    by true first rest = (first, rest)
    by false first rest = rest

-- what stays of connections and neighbours is few enough, apart and fits
some_neighbours : (kept : Neighbour → Bool) (nbrs : List Neighbour) → AreNeighbours nbrs → AreNeighbours (filter kept nbrs)
some_neighbours kept nbrs are =
    let less = fewer kept nbrs in
    record { few = omega (arith, less, are.few); apart = some_apart kept nbrs are.apart; fit = all_filter IsNeighbour kept nbrs are.fit }

some_connections : (kept : Entry → Bool) (conns : List Entry) → AreConnections conns → AreConnections (filter kept conns)
some_connections kept conns are = let less = fewer kept conns in record { few = omega (arith, less, are.few); fit = all_filter IsEntry kept conns are.fit }

-- of a state from which something is struck out
struck_state : (old new : Network) (state : State) → IsState state → IsState (struck old new state)
struck_state old new state are = record {
  conns = some_connections (λ e. not (is_zone_gone old new e.zone)) state.conns are.conns;
  nbrs = some_neighbours (λ n. not (is_gone (router_port_ids old) (router_port_ids new) n.port)) state.nbrs are.nbrs;
}

no_connections : AreConnections []
no_connections = record { few = omega arith; fit = tt }

no_neighbours : AreNeighbours []
unfolding IsDistinct
no_neighbours = record { few = omega arith; apart = tt; fit = tt }

-- of a session, and after each reply for what may be found
answered_state : {X : Type 0} (session : Session) (found : Result X Refusal) (reply_for : X → Reply) → IsState session.state
    → ((x : X) → found ≡ Ok x → IsState (reply_for x).after.state) → IsState (answered session found reply_for).after.state
answered_state session (Err refusal) reply_for here each = here
answered_state session (Ok x) reply_for here each = each x refl

module _ (session : Session) (sound : IsSound session.network) (here : IsState session.state) where
  query_state : (text : List ℕ) (q : Query) → read_line text ≡ Ok (line.Query q) → IsState (reply_to_query session q).after.state
  query_state text (query.FlowList None) is = here
  query_state text (query.FlowList (Some name)) is = answered_state session (wanted_datapath session.network name) _ here (λ number found. here)
  query_state text (query.Trace minimal dp micro) is =
      answered_state session (traced_port session.network dp micro.inport) _ here (λ port found.
      keeps_states session.network sound session.hops port micro.packet session.state (traced_is_port session.network dp micro.inport port found)
      (query_well_read text (query.Trace minimal dp micro) is).2 here)
  query_state text query.CtList is = here
  query_state text query.CtFlush is = record { conns = no_connections; nbrs = here.nbrs }
  query_state text query.NbrList is = here
  query_state text query.NbrFlush is = record { conns = here.conns; nbrs = no_neighbours }
  query_state text query.Dump is = here

  reply_state : (text : List ℕ) → IsState (reply session text).after.state
  unfolding reply
  reply_state text = answered_state session (read_line text) (reply_to session) here by
    where
      by : (said : Line) → read_line text ≡ Ok said → IsState (reply_to session said).after.state
      by line.Nothing is = here
      by (line.Edits list) is = answered_state session (edited session.network list) _ here (λ net done. struck_state session.network net session.state here)
      by (line.Query q) is = query_state text q is

lines_state : (session : Session) (lines : List (List ℕ)) → IsSound session.network → session.network.next + sum_by length lines < number_limit → IsState session.state
    → IsState (session_after session lines).state
lines_state session [] sound room here = here
lines_state session (line ∷ lines) sound room here =
    let bytes = sum_by-cons length line lines in
    lines_state (reply session line).after lines (reply_sound session line sound (omega (arith, bytes, room))) (omega (arith, bytes, room, reply_next session line))
    (reply_state session sound here line)

-- each state that lines leave, as long as the lines are no longer
pub states_after : (hops : ℕ) (lines : List (List ℕ)) → 1 + sum_by length lines < number_limit → IsState (session_after (new_session hops) lines).state
states_after hops lines room = lines_state (new_session hops) lines empty_sound room (record { conns = no_connections; nbrs = no_neighbours })
