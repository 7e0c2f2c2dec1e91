use Rattle.std.proofs.Common.{◌≡◌, ◌++◌, Option, Some, None, ControlFlow, refl, sym, ap, ◌∙◌}
use Rattle.std.specs.Option.{option_copied, IsSome}
use Rattle.sb_model.specs.declared.stage.DatapathKind.{DatapathKind}
use Rattle.sb_model.specs.Stage.{stage_at}
use Rattle.sb_model.specs.declared.stage.Stage.{Stage}
use Rattle.tr_stage.specs.Machine.{flows_of}
use Rattle.tr_stage.specs.declared.outcome.Outcome.{Outcome}
use Rattle.tr_pipe.specs.Machine.{PipelineRun, ended, run_actions}
use Rattle.tr_pipe.specs.Machine.StageEnd.{On, Ends}
use Rattle.tr_pipe.specs.inner.Moving.{end_of, in_flight}
use Rattle.tr_pipe.proofs.Progress.{progress-spent, row_there, run_ends, step_taken}
use Rattle.tr_pipe.proofs.Runs.{acting_formed, acting_run, pipeline_never_stuck}
use Rattle.tr_pipe.proofs.Steps.{pipeline_begins}
use Rattle.tr_pipe.proofs.machine.run_pipeline.Goals as goal

none_there : {X : Type 0} (found : Option X) → IsSome found → found ≡ None → ⊥
none_there (Some x) some e = cc
none_there None some e = cc

pub unreachable-requires : goal.unreachable-requires
unreachable-requires g c =
    none_there _ c.requires.table (ap (λ (k : DatapathKind). stage_at k c.args.pipeline c.args.table) (sym (c.kind_of.ensures c.args.rows.now)) ∙ sym c.at.ensures ∙ c.in_default.is)

pub returns-in_err-begin-clause-runs : goal.returns-in_err-begin-clause-runs
returns-in_err-begin-clause-runs g c = pipeline_never_stuck _ c.requires.rows _ _ _ _ c.requires.table

pub loop-budget-init : goal.loop-budget-init
loop-budget-init g c =
    let begins = pipeline_begins (flows_of c.args.rows.now (g.E.Env.lookup c.args.env.now) c.args.dp) c.args.pipeline c.args.table c.args.packet.now c.args.work.now.state c.in-Some.stage
    (ap (λ (k : DatapathKind). stage_at k c.args.pipeline c.args.table) (sym (c.kind_of.ensures c.args.rows.now)) ∙ sym c.at.ensures ∙ c.in-Some.is) in (
      record {
        joined = ap (λ (w : PipelineRun). c.args.hits.now.items ++ w.hits) (sym begins);
        same_end = ap (λ (w : PipelineRun). w.outcome) (sym begins);
        same_state = ap (λ (w : PipelineRun). w.state) (sym begins);
      },
      refl,
    )

pub unreachable-requires-in_default-select : goal.unreachable-requires-in_default-select
unreachable-requires-in_default-select g c =
    row_there (flows_of c.args.rows.now (g.E.Env.lookup c.args.env.now) c.args.dp) c.loop-budget.budget c.loop-budget.stage (in_flight c.loop-budget.moving c.loop-budget.work.state) _ c.loop-budget.hits.items _ c.loop-budget.invariant.0
    c.loop-budget-test.true (pipeline_never_stuck _ c.requires.rows _ _ _ _ c.requires.table) (sym (rw c.datapath-tables.ensures at c.select.ensures) ∙ ap option_copied c.in_default-select.is)

pub returns-in_err-push-clause-runs : goal.returns-in_err-push-clause-runs
returns-in_err-push-clause-runs g c = pipeline_never_stuck _ c.requires.rows _ _ _ _ c.requires.table

pub run_actions-requires-clause-formed : goal.run_actions-requires-clause-formed
run_actions-requires-clause-formed g c = rw c.as_slice.ensures (acting_formed _ c.requires.rows _ _ _ (sym (rw c.datapath-tables.ensures at c.select.ensures) ∙ ap option_copied c.in-Some-select.is))

pub run_actions-requires-clause-run : goal.run_actions-requires-clause-run
run_actions-requires-clause-run g c = rw c.as_slice.ensures (acting_run _ c.requires.rows _ _ _ (sym (rw c.datapath-tables.ensures at c.select.ensures) ∙ ap option_copied c.in-Some-select.is))

pub returns-in_err-ending-clause-runs : goal.returns-in_err-ending-clause-runs
returns-in_err-ending-clause-runs g c = pipeline_never_stuck _ c.requires.rows _ _ _ _ c.requires.table

pub returns-in_err-act-clause-runs : goal.returns-in_err-act-clause-runs
returns-in_err-act-clause-runs g c = pipeline_never_stuck _ c.requires.rows _ _ _ _ c.requires.table

pub loop-budget-preserved : goal.loop-budget-preserved
loop-budget-preserved g c =
    let flows = flows_of c.args.rows.now (g.E.Env.lookup c.args.env.now) c.args.dp in
    let flight = in_flight c.loop-budget.moving c.loop-budget.work.state in
    let later = in_flight c.run_actions.new.moving c.run_actions.new.work.state in
    let row = c.in-Some-select.row.now in
    let ends : run_actions flows.net flows.dp c.loop-budget.stage row.actions flight ≡ On c.in-Continue.next later =
    ap (λ actions. run_actions flows.net flows.dp c.loop-budget.stage actions flight) (sym c.as_slice.ensures)
    ∙ c.in_ok-ending.ensures.end
    ∙ ap (ended later) c.after.ensures
    ∙ ap (λ (e : ControlFlow Outcome Stage). ended later (end_of e later.packet)) c.in-Continue.is in (
      step_taken flows c.loop-budget.budget c.loop-budget.stage flight c.args.hits.now.items c.loop-budget.hits.items _ c.loop-budget.invariant.0 c.loop-budget-test.true row (On c.in-Continue.next later) c.push.new.self.items
          (sym (rw c.datapath-tables.ensures at c.select.ensures) ∙ ap option_copied c.in-Some-select.is) ends (c.in_ok-push.ensures.items ∙ ap (λ hit. c.loop-budget.hits.items ++ hit) c.hit_of.ensures),
      c.run_actions.ensures.back ∙ c.loop-budget.invariant.1,
    )

pub returns-in-Break-clause-hits : goal.returns-in-Break-clause-hits
returns-in-Break-clause-hits g c =
    let flows = flows_of c.args.rows.now (g.E.Env.lookup c.args.env.now) c.args.dp in
    let flight = in_flight c.loop-budget.moving c.loop-budget.work.state in
    let later = in_flight c.run_actions.new.moving c.run_actions.new.work.state in
    let row = c.in-Some-select.row.now in
    let ends : run_actions flows.net flows.dp c.loop-budget.stage row.actions flight ≡ Ends (Some c.in-Break.outcome) later.state =
    ap (λ actions. run_actions flows.net flows.dp c.loop-budget.stage actions flight) (sym c.as_slice.ensures)
    ∙ c.in_ok-ending.ensures.end
    ∙ ap (ended later) c.after.ensures
    ∙ ap (λ (e : ControlFlow Outcome Stage). ended later (end_of e later.packet)) c.in-Break.is in
    (run_ends flows c.loop-budget.budget c.loop-budget.stage flight c.args.hits.now.items c.loop-budget.hits.items _ c.loop-budget.invariant.0 c.loop-budget-test.true row (Some c.in-Break.outcome) later.state c.push.new.self.items
    (sym (rw c.datapath-tables.ensures at c.select.ensures) ∙ ap option_copied c.in-Some-select.is) ends (c.in_ok-push.ensures.items ∙ ap (λ hit. c.loop-budget.hits.items ++ hit) c.hit_of.ensures)).hits

pub returns-in-Break-clause-outcome : goal.returns-in-Break-clause-outcome
returns-in-Break-clause-outcome g c =
    let flows = flows_of c.args.rows.now (g.E.Env.lookup c.args.env.now) c.args.dp in
    let flight = in_flight c.loop-budget.moving c.loop-budget.work.state in
    let later = in_flight c.run_actions.new.moving c.run_actions.new.work.state in
    let row = c.in-Some-select.row.now in
    let ends : run_actions flows.net flows.dp c.loop-budget.stage row.actions flight ≡ Ends (Some c.in-Break.outcome) later.state =
    ap (λ actions. run_actions flows.net flows.dp c.loop-budget.stage actions flight) (sym c.as_slice.ensures)
    ∙ c.in_ok-ending.ensures.end
    ∙ ap (ended later) c.after.ensures
    ∙ ap (λ (e : ControlFlow Outcome Stage). ended later (end_of e later.packet)) c.in-Break.is in
    (run_ends flows c.loop-budget.budget c.loop-budget.stage flight c.args.hits.now.items c.loop-budget.hits.items _ c.loop-budget.invariant.0 c.loop-budget-test.true row (Some c.in-Break.outcome) later.state c.push.new.self.items
    (sym (rw c.datapath-tables.ensures at c.select.ensures) ∙ ap option_copied c.in-Some-select.is) ends (c.in_ok-push.ensures.items ∙ ap (λ hit. c.loop-budget.hits.items ++ hit) c.hit_of.ensures)).outcome_is

pub returns-in-Break-clause-state : goal.returns-in-Break-clause-state
returns-in-Break-clause-state g c =
    let flows = flows_of c.args.rows.now (g.E.Env.lookup c.args.env.now) c.args.dp in
    let flight = in_flight c.loop-budget.moving c.loop-budget.work.state in
    let later = in_flight c.run_actions.new.moving c.run_actions.new.work.state in
    let row = c.in-Some-select.row.now in
    let ends : run_actions flows.net flows.dp c.loop-budget.stage row.actions flight ≡ Ends (Some c.in-Break.outcome) later.state =
    ap (λ actions. run_actions flows.net flows.dp c.loop-budget.stage actions flight) (sym c.as_slice.ensures)
    ∙ c.in_ok-ending.ensures.end
    ∙ ap (ended later) c.after.ensures
    ∙ ap (λ (e : ControlFlow Outcome Stage). ended later (end_of e later.packet)) c.in-Break.is in
    (run_ends flows c.loop-budget.budget c.loop-budget.stage flight c.args.hits.now.items c.loop-budget.hits.items _ c.loop-budget.invariant.0 c.loop-budget-test.true row (Some c.in-Break.outcome) later.state c.push.new.self.items
    (sym (rw c.datapath-tables.ensures at c.select.ensures) ∙ ap option_copied c.in-Some-select.is) ends (c.in_ok-push.ensures.items ∙ ap (λ hit. c.loop-budget.hits.items ++ hit) c.hit_of.ensures)).state_is

pub returns-in-Break-clause-runs : goal.returns-in-Break-clause-runs
returns-in-Break-clause-runs g c = pipeline_never_stuck _ c.requires.rows _ _ _ _ c.requires.table

pub unreachable-requires-2 : goal.unreachable-requires-2
unreachable-requires-2 g c =
    pipeline_never_stuck (flows_of c.args.rows.now (g.E.Env.lookup c.args.env.now) c.args.dp) c.requires.rows c.args.pipeline c.args.table c.args.packet.now c.args.work.now.state c.requires.table
    (progress-spent (flows_of c.args.rows.now (g.E.Env.lookup c.args.env.now) c.args.dp) c.loop-budget.budget c.loop-budget.stage (in_flight c.loop-budget.moving c.loop-budget.work.state) _ _ _ c.loop-budget.invariant.0 c.loop-budget-test.false)
