use Rattle.std.proofs.Common.{◌∷◌, ap, sym, subst, ◌∙◌}
use Rattle.std.specs.Bool.{IsTrue}
use Rattle.act_core.specs.declared.action.Action.{Action}
use Rattle.tr_pipe.specs.Machine.{run_actions}
use Rattle.tr_pipe.specs.Runnable.{are_run}
use Rattle.tr_pipe.specs.inner.Moving.{effect_of, in_flight}
use Rattle.tr_pipe.proofs.Acts.{IsLeft, goes_on, step_changes}
use Rattle.tr_pipe.proofs.act.run_actions.Goals as goal

pub do_step-requires-clause-change : goal.do_step-requires-clause-change
do_step-requires-clause-change g c =
    let net = g.E.Env.lookup c.args.env.now in
    step_changes net c.args.stage _ c.in-Some.others.now (sym c.is_empty.ensures ∙ c.if-is_empty.false)
    (subst (λ rest. IsTrue (are_run net c.args.stage rest)) (c.in-Some.ensures.cases.0 ∙ ap (λ (a : Action). a ∷ c.in-Some.others.now) c.in-Step.is) c.loop-first.invariant.2)

pub loop-first-preserved : goal.loop-first-preserved
loop-first-preserved g c =
    let net = g.E.Env.lookup c.args.env.now in
    let whole = run_actions net c.args.dp c.args.stage c.args.actions.now (in_flight c.args.moving.now c.args.work.now.state) in
    let flight = in_flight c.loop-first.moving c.loop-first.work.state in
    let later = in_flight c.do_step.new.moving c.do_step.new.work.state in
    let inv = c.loop-first.invariant in
    let left = goes_on net c.args.dp c.args.stage whole _ c.in-Some.others.now flight later (sym c.is_empty.ensures ∙ c.if-is_empty.false) (c.in_ok-ending.ensures.effect ∙ ap (λ ended. effect_of ended later) c.in_default-2.is)
    (subst (λ rest. IsLeft net c.args.dp c.args.stage whole rest flight) (c.in-Some.ensures.cases.0 ∙ ap (λ (a : Action). a ∷ c.in-Some.others.now) c.in-Step.is) (inv.0, inv.1, inv.2)) in
    (left.0, left.1, left.2, c.do_step.ensures.back ∙ inv.3)
