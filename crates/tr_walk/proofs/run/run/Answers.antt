use Rattle.std.proofs.Common.{◌≡◌, ◌++◌, map, append-nil, sym, ap, subst, ◌∙◌}
use Rattle.nv_base.specs.declared.object.ObjId.{ObjId}
use Rattle.nb_model.specs.Names.{names}
use Rattle.nb_model.specs.Network.{Network}
use Rattle.net_meaning.specs.Places.{datapath_at}
use Rattle.tr_pipe.specs.Runnable.{IsRunnable}
use Rattle.tr_stage.specs.Machine.{flows_of}
use Rattle.tr_walk.specs.declared.event.Event.TheVariants as variants
use Rattle.tr_walk.specs.Events.{told_only}
use Rattle.tr_walk.proofs.Runs.{datapath_runs, no_change, no_hits, no_outcome}
use Rattle.tr_walk.proofs.run.run.Goals as goal

-- there is no such port
no_datapath : (net : Network) (port dp : ObjId) → dp ≡ datapath_at net port → dp.0 ≡ 0 → (datapath_at net port).0 ≡ 0
no_datapath net port dp is zero_is = ap (λ (d : ObjId). d.0) (sym is) ∙ zero_is

pub returns-then-dp-eq0-clause-hits : goal.returns-then-dp-eq0-clause-hits
returns-then-dp-eq0-clause-hits g c =
    let net = c.args.flows.records.now in
    sym (append-nil c.args.events.now.items)
    ∙ ap (λ hits. c.args.events.now.items ++ told_only c.args.flows.minimal (map variants.Hit hits)) (sym (no_hits net c.requires.rows.sound (datapath_at net c.args.port) (no_datapath net c.args.port _ c.datapath_at-dp.ensures c.if-dp-eq0.true) c.args.packet.now c.args.pipeline c.args.table c.args.work.now.state))

pub returns-then-dp-eq0-clause-outcome : goal.returns-then-dp-eq0-clause-outcome
returns-then-dp-eq0-clause-outcome g c =
    let net = c.args.flows.records.now in
    sym (no_outcome net c.requires.rows.sound (datapath_at net c.args.port) (no_datapath net c.args.port _ c.datapath_at-dp.ensures c.if-dp-eq0.true) c.args.packet.now c.args.pipeline c.args.table c.args.work.now.state)

pub returns-then-dp-eq0-clause-state : goal.returns-then-dp-eq0-clause-state
returns-then-dp-eq0-clause-state g c =
    let net = c.args.flows.records.now in
    sym (no_change net c.requires.rows.sound (datapath_at net c.args.port) (no_datapath net c.args.port _ c.datapath_at-dp.ensures c.if-dp-eq0.true) c.args.packet.now c.args.pipeline c.args.table c.args.work.now.state)

pub run_pipeline-requires-clause-rows : goal.run_pipeline-requires-clause-rows
run_pipeline-requires-clause-rows g c =
    let net = c.args.flows.records.now in
    subst (λ (dp : ObjId). IsRunnable (flows_of c.args.flows.rows.now (names net) dp)) (sym c.datapath_at-dp.ensures)
    (datapath_runs net c.args.flows.rows.now c.requires.rows c.args.port (λ zero_is. c.if-dp-eq0.false (ap (λ (dp : ObjId). dp.0) c.datapath_at-dp.ensures ∙ zero_is)))
