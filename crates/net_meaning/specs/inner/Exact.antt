-- Causes, answers and events that are equal by `==` are one value.
use Rattle.std.proofs.Common.{◌≡◌, true, ap, ◌∙◌}
use Rattle.std.proofs.lemmas.Bool.{false≢true, and_parts}
use denote.Enum.Bare.{sameb, same_true}
use Rattle.nv_base.specs.inner.Exact as tells
use Rattle.nv_base.specs.inner.Exact.{Tells}
use Rattle.nv_base.specs.declared.object.ObjId.{ObjId}
use Rattle.pkt_core.specs.Packet.{Values}
use Rattle.net_meaning.specs.contracts.answer.Answer as answers
use Rattle.net_meaning.specs.contracts.cause.Cause as causes
use Rattle.net_meaning.specs.contracts.event.PlainEventPartialEq.TheImpl as event_eq
use Rattle.net_meaning.specs.declared.answer.Answer.{Answer}
use Rattle.net_meaning.specs.declared.cause.Cause.{Cause}
use Rattle.net_meaning.specs.declared.event.PlainEvent.TheVariants.{Output, Drop, Reject, HopLimit}

pub cause : (a b : Cause) → sameb causes.the_type a b ≡ true → a ≡ b
cause = same_true causes.the_type tt

pub answer : (a b : Answer) → sameb answers.the_type a b ≡ true → a ≡ b
answer = same_true answers.the_type tt

pub event : Tells ((event_eq.ghosts).eq)
event (Output port a) (Output other b) e =
    let parts = and_parts _ _ e in
    ap (λ (p : ObjId). Output p a) (tells.object port other parts.0) ∙ ap (λ (packet : Values). Output other packet) (tells.list _ tells.number a b parts.1)
event (Output port a) (Drop dp b) e = absurd (false≢true e)
event (Output port a) (Reject other) e = absurd (false≢true e)
event (Output port a) (HopLimit other) e = absurd (false≢true e)
event (Drop dp a) (Output port b) e = absurd (false≢true e)
event (Drop dp a) (Reject other) e = absurd (false≢true e)
event (Drop dp a) (HopLimit other) e = absurd (false≢true e)
event (Drop dp a) (Drop other b) e =
    let parts = and_parts _ _ e in
    ap (λ (d : ObjId). Drop d a) (tells.object dp other parts.0) ∙ ap (Drop other) (cause a b parts.1)
event (Reject port) (Output other b) e = absurd (false≢true e)
event (Reject port) (Drop dp b) e = absurd (false≢true e)
event (Reject port) (Reject other) e = ap Reject (tells.object port other e)
event (Reject port) (HopLimit other) e = absurd (false≢true e)
event (HopLimit port) (Output other b) e = absurd (false≢true e)
event (HopLimit port) (Drop dp b) e = absurd (false≢true e)
event (HopLimit port) (Reject other) e = absurd (false≢true e)
event (HopLimit port) (HopLimit other) e = ap HopLimit (tells.object port other e)
