use Rattle.std.proofs.Common.{sym, subst, ◌∙◌}
use Rattle.tr_stage.specs.Machine.{run_block}
use Rattle.tr_stage.proofs.Blocks.{IsLeft, goes_on}
use Rattle.tr_stage.proofs.block.run_block.Goals as goal

pub loop-step-preserved : goal.loop-step-preserved
loop-step-preserved g c =
    let net = g.E.Env.lookup c.args.env.now in
    let whole = run_block net c.args.stage c.args.answer c.args.block.now c.args.packet.now in
    goes_on net c.args.stage c.args.answer whole _ c.in-Some.others.now c.loop-step.packet c.change.new.packet (sym c.is_empty.ensures ∙ c.if-is_empty.false) (c.change.ensures c.args.stage)
    (subst (λ rest. IsLeft net c.args.stage c.args.answer whole rest c.loop-step.packet) c.in-Some.ensures.cases.0 c.loop-step.invariant)
