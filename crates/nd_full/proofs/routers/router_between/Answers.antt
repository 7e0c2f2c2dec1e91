use Rattle.std.proofs.Common.{ap, sym, ◌∙◌}
use Rattle.std.specs.Option.{option_copied}
use Rattle.nd_full.proofs.Between.{first_below, none_above, none_below}
use Rattle.nd_full.proofs.routers.router_between.Goals as goal

pub returns-in_err-router : goal.returns-in_err-router
returns-in_err-router c = ap option_copied c.from_residual.ensures ∙ sym (none_above c.args.after c.args.before c.args.records.now.routers (sym (rw c.routers.ensures at c.in_err-router.ensures.record)))

pub returns-then-is_before : goal.returns-then-is_before
returns-then-is_before c =
    sym
    (first_below c.args.after c.args.before c.args.records.now.routers c.in_ok-router.router.now (sym (rw c.routers.ensures at c.in_ok-router.ensures.record)) (sym c.is_before.ensures ∙ c.if-is_before.true))

pub returns-else-is_before : goal.returns-else-is_before
returns-else-is_before c =
    sym
    (none_below c.args.after c.args.before c.args.records.now.routers c.in_ok-router.router.now (sym (rw c.routers.ensures at c.in_ok-router.ensures.record)) (rw c.routers.ensures at c.in_ok-router.ensures.rise)
    (sym c.is_before.ensures ∙ c.if-is_before.false))
