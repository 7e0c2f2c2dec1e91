use Rattle.std.proofs.Common.{length}
use Rattle.std.specs.Prelude.{filter}
use Rattle.nb_records.specs.declared.router.Router.{Router}
use Rattle.nb_model.specs.Amounts.{total}
use Rattle.nb_model.specs.Belongs.{is_among}
use Rattle.nb_limits.proofs.Rest.{rest}
use Rattle.nb_limits.proofs.Sums.{IsSumSoFar}
use Rattle.nb_limits.proofs.balancer_limits.routers_with.Given as goal

-- the sum so far, of those routers that have been looked at
abbrev pub invariant-loop-router : goal.invariant-loop-router
invariant-loop-router l =
    IsSumSoFar (λ _. l.each) l.bound l.sum (rest (λ (router : Router). router.id) (λ router. is_among l.lb router.lbs) l.after l.records.routers)
    (total (λ _. l.each) (filter (λ router. is_among l.lb router.lbs) l.records.routers))

abbrev pub decreases-loop-router : goal.decreases-loop-router
decreases-loop-router l = length (rest (λ (router : Router). router.id) (λ router. is_among l.lb router.lbs) l.after l.records.routers)
