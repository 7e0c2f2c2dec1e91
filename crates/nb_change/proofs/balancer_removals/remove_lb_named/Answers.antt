use Rattle.std.proofs.Common.{ap, ◌∙◌}
use Rattle.nb_model.specs.Effect.{without_lb}
use Rattle.nb_change.proofs.BalancerRemovals.{no_lb}
use Rattle.nb_change.proofs.balancer_removals.remove_lb_named.Goals as goal

pub returns-in-None-clause-ok : goal.returns-in-None-clause-ok
returns-in-None-clause-ok c = no_lb c.args.work.now.records ∙ ap (λ lb. without_lb lb c.args.work.now.records) c.in-None.ensures
