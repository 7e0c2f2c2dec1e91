use Rattle.std.proofs.Common.{◌≡◌, ◌++◌, ℕ, List, ap, subst, ◌∙◌}
use Rattle.std.specs.Prelude.{OnOk}
use Rattle.nv_base.specs.declared.field.Field.TheVariants.{Outport}
use Rattle.pkt_core.specs.Packet.{with_value}
use Rattle.ct_core.specs.State.{State}
use Rattle.net_meaning.specs.Walk.{Walked}
use Rattle.tr_stage.specs.declared.outcome.Hit.{Hit}
use Rattle.tr_walk.specs.declared.event.Event.{Event}
use Rattle.tr_walk.specs.inner.Telling.{events_of, leaving}
use Rattle.tr_walk.proofs.Steps.{entered, goes_over, has_left, replies}
use Rattle.tr_walk.proofs.walk.+walk.Goals as goal

pub deliver-returns-else-hops-eq0-clause-told : goal.deliver-returns-else-hops-eq0-clause-told
deliver-returns-else-hops-eq0-clause-told g t c =
    subst (λ (w : Walked Hit State). OnOk c.enter.result (c.enter.new.events.items ≡ c.args.events.now.items ++ events_of c.args.flows.minimal w))
    (goes_over c.args.flows.records.now c.args.work.now.state c.args.port c.args.packet.now c.args.hops c.in-Peer.peer c.if-hops-eq0.false c.in-Peer.ensures) c.enter.ensures.told

pub deliver-returns-else-hops-eq0-clause-left : goal.deliver-returns-else-hops-eq0-clause-left
deliver-returns-else-hops-eq0-clause-left g t c =
    subst (λ (w : Walked Hit State). OnOk c.enter.result (c.enter.new.work.state ≡ w.state))
    (goes_over c.args.flows.records.now c.args.work.now.state c.args.port c.args.packet.now c.args.hops c.in-Peer.peer c.if-hops-eq0.false c.in-Peer.ensures) c.enter.ensures.left

pub enter-returns-clause-told : goal.enter-returns-clause-told
enter-returns-clause-told g t c =
    let is = c.in_ok-outcome.ensures in
    subst (λ (told : List Event). OnOk c.arrive.result (c.arrive.new.events.items ≡ told))
    (entered c.args.flows.minimal c.args.flows.records.now c.args.hops c.args.work.now.state c.run.new.work.state c.args.arrival c.args.packet.now _ c.in_ok-outcome.outcome c.args.events.now.items c.run.new.events.items c.start-start.ensures
    (record { hits = is.hits; outcome_is = is.outcome; state_is = is.state })).all c.arrive.ensures.told

pub leave-returns-clause-told : goal.leave-returns-clause-told
leave-returns-clause-told g t c =
    let is = c.in_ok-outcome.ensures in
    let net = c.args.flows.records.now in
    subst (λ (table : ℕ). OnOk c.go_out.result (c.go_out.new.events.items ≡ c.args.events.now.items ++ events_of c.args.flows.minimal (leaving net c.args.hops c.args.work.now.state c.args.arrival c.args.port table c.args.packet.now))) c.egress_table-table.ensures.table
    (subst (λ (told : List Event). OnOk c.go_out.result (c.go_out.new.events.items ≡ told))
    (has_left c.args.flows.minimal net c.args.hops c.args.work.now.state c.run.new.work.state c.args.arrival c.args.port c.egress_table-table.result c.args.packet.now _ c.in_ok-outcome.outcome c.args.events.now.items c.run.new.events.items
    (c.set.ensures.set ∙ ap (with_value c.args.packet.now Outport) c.from.ensures) (record { hits = is.hits; outcome_is = is.outcome; state_is = is.state })).all c.go_out.ensures.told)

pub leave-returns-clause-left : goal.leave-returns-clause-left
leave-returns-clause-left g t c =
    let is = c.in_ok-outcome.ensures in
    let net = c.args.flows.records.now in
    subst (λ (table : ℕ). OnOk c.go_out.result (c.go_out.new.work.state ≡ (leaving net c.args.hops c.args.work.now.state c.args.arrival c.args.port table c.args.packet.now).state)) c.egress_table-table.ensures.table
    (subst (λ (state : State). OnOk c.go_out.result (c.go_out.new.work.state ≡ state))
    (has_left c.args.flows.minimal net c.args.hops c.args.work.now.state c.run.new.work.state c.args.arrival c.args.port c.egress_table-table.result c.args.packet.now _ c.in_ok-outcome.outcome c.args.events.now.items c.run.new.events.items
    (c.set.ensures.set ∙ ap (with_value c.args.packet.now Outport) c.from.ensures) (record { hits = is.hits; outcome_is = is.outcome; state_is = is.state })).left c.go_out.ensures.left)

pub reply-returns-clause-told : goal.reply-returns-clause-told
reply-returns-clause-told g t c =
    subst (λ (told : List Event). OnOk c.leave.result (c.leave.new.events.items ≡ told))
    (replies c.args.flows.minimal c.args.flows.records.now c.args.work.now.state c.args.arrival c.args.packet.now c.args.events.now.items c.tell_answer.new.events.items c.args.hops c.args.answer c.outport-port.result c.is_late.result c.carried-packet.result
    c.if-hops-eq0.false c.in_ok-tell_answer.ensures c.outport-port.ensures c.is_late.ensures c.carried-packet.ensures).all c.leave.ensures.told

pub reply-returns-clause-left : goal.reply-returns-clause-left
reply-returns-clause-left g t c =
    subst (λ (state : State). OnOk c.leave.result (c.leave.new.work.state ≡ state))
    (replies c.args.flows.minimal c.args.flows.records.now c.args.work.now.state c.args.arrival c.args.packet.now c.args.events.now.items c.tell_answer.new.events.items c.args.hops c.args.answer c.outport-port.result c.is_late.result c.carried-packet.result
    c.if-hops-eq0.false c.in_ok-tell_answer.ensures c.outport-port.ensures c.is_late.ensures c.carried-packet.ensures).left c.leave.ensures.left
