-- What a trace tells and leaves, and that it is meant, by the parts of the session that it is run with.
use Rattle.std.proofs.Common.{◌≡◌, ℕ, Bool, List, map, Result, Ok, ap, sym, subst, ◌∙◌}
use Rattle.nv_base.specs.declared.object.ObjId.{ObjId}
use Rattle.pkt_core.specs.Packet.{Values}
use Rattle.ct_core.specs.State.{State}
use Rattle.nb_records.specs.declared.refusal.Refusal.{Refusal}
use Rattle.nb_model.specs.Network.{Network}
use Rattle.tr_walk.specs.Events.{event_of, told_only}
use Rattle.tr_walk.specs.Machine.{machine}
use Rattle.tr_walk.specs.Refined.{IsMeant}
use Rattle.tr_walk.specs.declared.event.Event.{Event}
use Rattle.nv_reply.specs.Events.{event_lines}
use Rattle.nv_reply.specs.Reply.{accept, after_trace, answered, trace_lines, traced}
use Rattle.nv_reply.specs.Session.{Session, with_state}

module _ (session now : Session) (port : ObjId) (packet : Values) (net : Network) (hops : ℕ) (net_is : net ≡ session.network) (hops_is : hops ≡ session.hops) (same : session ≡ now) where
  pub told_from : (minimal : Bool) (told : List Event) → told ≡ told_only minimal (map event_of (machine net hops port packet session.state).told) → told ≡ told_only minimal (traced now port packet)
  told_from minimal told is =
      is
      ∙ ap (λ (n : Network). told_only minimal (map event_of (machine n hops port packet session.state).told)) net_is
      ∙ ap (λ (h : ℕ). told_only minimal (map event_of (machine session.network h port packet session.state).told)) hops_is
      ∙ ap (λ (s : Session). told_only minimal (traced s port packet)) same

  pub left_from : (state : State) → state ≡ (machine net hops port packet session.state).state → with_state state session ≡ after_trace now port packet
  left_from state is =
      ap (λ (left : State). with_state left session)
      (is
      ∙ ap (λ (n : Network). (machine n hops port packet session.state).state) net_is
      ∙ ap (λ (h : ℕ). (machine session.network h port packet session.state).state) hops_is)
      ∙ ap (λ (s : Session). after_trace s port packet) same

  -- and what is told is meant
  pub meant_from : (told : List Event) (left : State) → IsMeant net hops port packet (record { before = session.state; told = told; after = left })
      → IsMeant now.network now.hops port packet (record { before = now.state; told = told; after = left })
  meant_from told left meant =
      subst (λ (s : Session). IsMeant s.network s.hops port packet (record { before = s.state; told = told; after = left })) same
      (subst (λ (h : ℕ). IsMeant session.network h port packet (record { before = session.state; told = told; after = left })) hops_is
      (subst (λ (n : Network). IsMeant n hops port packet (record { before = session.state; told = told; after = left })) net_is meant))

-- what is answered for a trace whose port is found: the lines of what is told, which are put later
pub trace_answered : (session : Session) (minimal : Bool) (found : Result ObjId Refusal) (port : ObjId) (packet : Values) (told : List Event) → found ≡ Ok port → told ≡ told_only minimal (traced session port packet)
    → answered session found (λ at. accept (trace_lines session minimal at packet) (after_trace session at packet))
    ≡ accept (event_lines (answered session found (λ at. accept (trace_lines session minimal at packet) (after_trace session at packet))).after.network told)
    (answered session found (λ at. accept (trace_lines session minimal at packet) (after_trace session at packet))).after
trace_answered session minimal found port packet told is said =
    rw is (ap (λ (events : List Event). accept (event_lines session.network events) (after_trace session port packet)) (sym said))
