use Rattle.std.proofs.Common.{length, not, ap, ◌∙◌}
use Rattle.std.specs.Prelude.{◌==◌}
use Rattle.nd_inputs.proofs.Any.{none_long}
use Rattle.nd_full.proofs.inputs.balances.Goals as goal

pub returns : goal.returns
returns c = ap not (c.is_empty.ensures ∙ ap (λ lbs. length lbs == 0) c.as_slice.ensures ∙ none_long c.args.switch.now.lbs)
