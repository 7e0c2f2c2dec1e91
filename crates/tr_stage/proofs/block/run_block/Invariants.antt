use Rattle.std.specs.Prelude.{length}
use Rattle.tr_stage.specs.Machine.{run_block}
use Rattle.tr_stage.proofs.Blocks.{IsLeft}
use Rattle.tr_stage.proofs.block.run_block.Given as goal

-- what is left of the block does what the whole of it does
abbrev pub invariant-loop-step : goal.invariant-loop-step
invariant-loop-step g l = IsLeft (g.E.Env.lookup l.fn.env) l.fn.stage l.fn.answer (run_block (g.E.Env.lookup l.fn.env) l.fn.stage l.fn.answer l.fn.block l.fn.packet) l.rest l.packet

abbrev pub decreases-loop-step : goal.decreases-loop-step
decreases-loop-step g l = length l.rest
