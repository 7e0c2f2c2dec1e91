-- Each trace is answered by what the network does with the packet.
use Rattle.std.proofs.Common.{◌≡◌, ℕ, ◌+◌, ◌<◌, Bool, Ok, List, [], ◌∷◌, ◌++◌, length, sum_by, Some, refl, sym, ap, ◌∙◌, subst, arith}
use Rattle.std.specs.Prelude.{map, Result}
use Rattle.clap.specs.Words.{Text}
use Rattle.std.proofs.lemmas.List.{length-append}
use Rattle.std.proofs.lemmas.List.Sums.{sum_by-append}
use Rattle.nv_options.specs.Options.{generate_in, hops_in}
use Rattle.nv_base.specs.declared.object.ObjId.{ObjId}
use Rattle.nb_cmds.specs.Lines.{read_line}
use Rattle.nb_cmds.specs.declared.line.Line.{Line}
use Rattle.nb_cmds.specs.declared.line.Line.TheVariants.{Nothing, Query}
use Rattle.nb_cmds.specs.declared.query.Query as query
use Rattle.nb_cmds.specs.declared.query.Query.TheVariants.{Trace}
use Rattle.nb_cmds.proofs.QueryWords.{query_well_read}
use Rattle.net_meaning.specs.Walk.{Told, events}
use Rattle.net_meaning.specs.Walk.Told.{Note, Happens}
use Rattle.net_meaning.specs.declared.event.PlainEvent.{PlainEvent}
use Rattle.net_meaning.specs.declared.event.PlainEvent.TheVariants as plain
use Rattle.pkt_micro.specs.declared.microflow.Micro.{Micro}
use Rattle.tr_walk.specs.Events.{event_of, of_plain, plain_event, without_hits}
use Rattle.tr_router.specs.Parts.{IsState}
use Rattle.tr_walk.specs.Machine.{machine}
use Rattle.tr_walk.specs.Refined.{IsRefined}
use Rattle.tr_stage.specs.declared.outcome.Hit.{Hit}
use Rattle.nv_serve.specs.Output.{first_lines, opened}
use Rattle.nv_reply.specs.Reply.{accept, after_trace, answered, trace_lines, reply, reply_to, session_after}
use Rattle.nv_reply.specs.Session.{Session}
use Rattle.nv_serve.specs.Traced.{TellsMeaning, TracesAreMeant}
use Rattle.nv_input.proofs.Kept.{read_nothing}
use Rattle.nv_serve.proofs.Lengths.{before_longer}
use Rattle.nv_serve.proofs.Opened.{after_first}
use Rattle.nv_reply.proofs.StatesLeft.{states_after}
use Rattle.nv_reply.proofs.Reached.{each_refined}
use Rattle.nv_reply.proofs.TracedPorts.{traced_is_port}
use Rattle.nv_base.specs.Object.{number_limit}

-- what becomes of a packet is an event without a hit
of_plain_is : (event : PlainEvent) → plain_event (of_plain event) ≡ Some event
of_plain_is (plain.Output port packet) = refl
of_plain_is (plain.Drop dp cause) = refl
of_plain_is (plain.Reject port) = refl
of_plain_is (plain.HopLimit port) = refl

-- what is told by rows, hits left out, are the events that are told
pub without_hits_is : (told : List (Told Hit)) → without_hits (map event_of told) ≡ events told
without_hits_is [] = refl
without_hits_is (Note hit ∷ told) = without_hits_is told
without_hits_is (Happens event ∷ told) = rw (of_plain_is event) (ap (λ more. event ∷ more) (without_hits_is told))

tells : (session : Session) (line : List ℕ) (minimal : Bool) (dp : List ℕ) (micro : Micro) (arrival : ObjId) → read_line line ≡ Ok (Query (Trace minimal dp micro))
    → TellsMeaning session minimal arrival micro.packet (reply_to session (Query (Trace minimal dp micro))) → TellsMeaning session minimal arrival micro.packet (reply session line)
unfolding reply
tells session line minimal dp micro arrival is rest =
    subst (λ answer. TellsMeaning session minimal arrival micro.packet answer) (sym (ap (λ read. answered session read (reply_to session)) is)) rest

-- each trace is answered by what the network does with the packet
pub traces_meant : (words : List Text) (lines : List (List ℕ)) → 1 + sum_by length (first_lines (generate_in words) ++ lines) < number_limit → TracesAreMeant words lines
traces_meant words lines room before line later all minimal dp micro is arrival port =
    let hops = hops_in words in
    let ports = generate_in words in
    let session = session_after (opened words).session before in
    let few : 1 + sum_by length (first_lines ports ++ before) < number_limit =
    omega (arith, room, before_longer lines before line later all, sum_by-append length (first_lines ports) lines, sum_by-append length (first_lines ports) before) in
    let refined : IsRefined session.network = after_first (λ s. IsRefined s.network) hops ports before (each_refined hops (first_lines ports ++ before) few) in
    let fits : IsState session.state = after_first (λ s. IsState s.state) hops ports before (states_after hops (first_lines ports ++ before) few) in
    let alike = refined session.hops arrival micro.packet session.state
    (traced_is_port session.network dp micro.inport arrival port) (query_well_read line (Trace minimal dp micro) is).2 fits in
    tells session line minimal dp micro arrival is (record {
      told = ap (λ found. (answered session found (λ port. accept (trace_lines session minimal port micro.packet) (after_trace session port micro.packet))).text) port;
      meant = without_hits_is (machine session.network session.hops arrival micro.packet session.state).told ∙ alike.told;
      left = ap (λ found. (answered session found (λ port. accept (trace_lines session minimal port micro.packet) (after_trace session port micro.packet))).after.state) port ∙ alike.left;
    })

first_is : {X : Type 0} {x y : X} {xs ys : List X} → (x ∷ xs ≡ y ∷ ys) → x ≡ y
first_is e = cc

no_query : {E : Type 0} (q : query.Query) → ◌≡◌ {A = Result Line E} (Ok Nothing) (Ok (Query q)) → ⊥
no_query q e = cc

-- an input without bytes has no trace
pub none_traced : (words : List Text) → TracesAreMeant words ([] ∷ [])
none_traced words [] line later all minimal dp micro is arrival port = absurd (no_query (Trace minimal dp micro) (sym read_nothing ∙ ap read_line (first_is all) ∙ is))
none_traced words (first ∷ before) line later all minimal dp micro is arrival port = absurd (omega (arith, ap length all, length-append before (line ∷ later)))
