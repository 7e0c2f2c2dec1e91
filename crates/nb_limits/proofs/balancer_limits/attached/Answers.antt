use Rattle.std.proofs.Common.{sym, ◌∙◌}
use Rattle.nb_limits.proofs.Sums.{first_over, second_over, both_told}
use Rattle.nb_limits.proofs.balancer_limits.attached.Goals as goal

pub returns-in_err-switches : goal.returns-in_err-switches
returns-in_err-switches c = c.from_residual.ensures ∙ sym (first_over _ _ _ c.in_err-switches.ensures)

pub returns-in_err-routers : goal.returns-in_err-routers
returns-in_err-routers c = c.from_residual-in_err-routers.ensures ∙ sym (second_over _ _ _ c.in_err-routers.ensures)

pub returns : goal.returns
returns c = c.add.ensures ∙ both_told _ _ _ _ _ c.in_ok-switches.ensures c.in_ok-routers.ensures
