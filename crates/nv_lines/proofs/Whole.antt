-- What a trace leaves is the same however much is told of it.
use Rattle.std.proofs.Common.{◌≡◌, refl, Bool, false, Result, Ok, Err}
use Rattle.nv_base.specs.declared.object.ObjId.{ObjId}
use Rattle.pkt_core.specs.Packet.{Values}
use Rattle.nb_records.specs.declared.refusal.Refusal.{Refusal}
use Rattle.nv_reply.specs.Reply.{accept, after_trace, answered, trace_lines}
use Rattle.nv_reply.specs.Session.{Session}

pub left_alike : (session : Session) (minimal : Bool) (found : Result ObjId Refusal) (packet : Values)
    → (answered session found (λ at. accept (trace_lines session false at packet) (after_trace session at packet))).after
    ≡ (answered session found (λ at. accept (trace_lines session minimal at packet) (after_trace session at packet))).after
left_alike session minimal (Ok port) packet = refl
left_alike session minimal (Err refusal) packet = refl
