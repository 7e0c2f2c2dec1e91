use Rattle.std.proofs.Common.{sym, ◌∙◌, refl}
use Rattle.nb_records.specs.declared.router.Router.{Router}
use Rattle.nb_model.specs.Belongs.{is_among}
use Rattle.nb_store.proofs.PlacedRecords.{rises}
use Rattle.nb_limits.proofs.Rest.{next_rest, no_rest}
use Rattle.nb_limits.proofs.Sums.{fewer, sum_goes_on, sum_over, sum_ends}
use Rattle.nb_limits.proofs.balancer_limits.routers_with.Goals as goal

pub loop-router-smaller : goal.loop-router-smaller
loop-router-smaller c =
    fewer _ _ c.in-Some.router.now
    (next_rest (λ (router : Router). router.id) (λ router. is_among c.args.lb router.lbs) c.loop-router.after c.in-Some.router.now c.args.records.now.routers (rises (λ (router : Router). router.id) c.args.records.now.routers c.requires.limitless.numbered.order.routers) (sym c.in-Some.ensures))

pub loop-router-preserved : goal.loop-router-preserved
loop-router-preserved c =
    sum_goes_on _ _ _ _ _ c.loop-router.invariant c.in-Some.router.now _
    (next_rest (λ (router : Router). router.id) (λ router. is_among c.args.lb router.lbs) c.loop-router.after c.in-Some.router.now c.args.records.now.routers (rises (λ (router : Router). router.id) c.args.records.now.routers c.requires.limitless.numbered.order.routers) (sym c.in-Some.ensures))
    c.args.each c.in_ok-sum.sum refl c.in_ok-sum.ensures

pub returns-in_err-sum : goal.returns-in_err-sum
returns-in_err-sum c =
    c.from_residual.ensures
    ∙ sym (sum_over _ _ _ _ _ c.loop-router.invariant c.in-Some.router.now _
    (next_rest (λ (router : Router). router.id) (λ router. is_among c.args.lb router.lbs) c.loop-router.after c.in-Some.router.now c.args.records.now.routers (rises (λ (router : Router). router.id) c.args.records.now.routers c.requires.limitless.numbered.order.routers) (sym c.in-Some.ensures))
    c.args.each refl c.in_err-sum.ensures)

pub returns : goal.returns
returns c = sym (sum_ends _ _ _ _ _ c.loop-router.invariant (no_rest (λ (router : Router). router.id) (λ router. is_among c.args.lb router.lbs) c.loop-router.after c.args.records.now.routers (sym c.in_default.ensures)))
