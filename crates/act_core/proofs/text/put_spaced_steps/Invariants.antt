use Rattle.std.proofs.Common.{◌≡◌, [], ◌++◌, drop}
use Rattle.nv_base.specs.Growth.{GrowsAtEnd}
use Rattle.act_core.specs.Text.{joined, spaced_text}
use Rattle.act_core.proofs.text.put_spaced_steps.Given as goal

-- with the text of the steps that are left, what is there is the whole
abbrev pub invariant-loop-step : goal.invariant-loop-step
invariant-loop-step l = record {
  grown : GrowsAtEnd l.fn.out.items l.out.items;
  whole : l.out.items ++ joined spaced_text [] [] (drop l.step-index l.steps) ≡ l.fn.out.items ++ joined spaced_text [] [] l.steps;
}
