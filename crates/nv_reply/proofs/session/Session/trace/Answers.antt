use Rattle.std.proofs.Common.{◌∙◌, ap, sym, subst}
use Rattle.tr_walk.proofs.Ends.{runnable}
use Rattle.tr_walk.specs.Runnable.{AreRunnable}
use Rattle.nv_reply.proofs.Tracing.{left_from, meant_from, told_from}
use Rattle.nv_reply.proofs.session.Session.trace.Goals as goal

-- each packet comes to an end in the rows of the network
pub trace-requires-clause-run : goal.trace-requires-clause-run
trace-requires-clause-run g c =
    let same_network = c.records-records.ensures.records ∙ ap (λ session. session.network) (c.self.view_is ∙ c.in_ok-rows.ensures.same) in
    let net = c.args.self.now.network in
    subst AreRunnable (sym same_network) (runnable net c.in_ok-rows.ensures.rows.sound)

-- the rows do what the network does
pub returns-clause-refinement : goal.returns-clause-refinement
returns-clause-refinement g c =
    meant_from _ c.args.self.now c.args.port c.args.packet.now c.records-records.result.now c.from-hops.result c.records-records.ensures.records c.from-hops.ensures
    (c.self.view_is ∙ c.in_ok-rows.ensures.same) c.in_ok-events.events.items c.trace.new.state c.in_ok-events.ensures.refinement

pub returns-clause-events : goal.returns-clause-events
returns-clause-events g c =
    told_from _ c.args.self.now c.args.port c.args.packet.now c.records-records.result.now c.from-hops.result c.records-records.ensures.records c.from-hops.ensures
    (c.self.view_is ∙ c.in_ok-rows.ensures.same) c.args.minimal c.in_ok-events.events.items c.in_ok-events.ensures.events

pub returns-clause-after : goal.returns-clause-after
returns-clause-after g c =
    left_from _ c.args.self.now c.args.port c.args.packet.now c.records-records.result.now c.from-hops.result c.records-records.ensures.records c.from-hops.ensures
    (c.self.view_is ∙ c.in_ok-rows.ensures.same) c.trace.new.state c.in_ok-events.ensures.state
