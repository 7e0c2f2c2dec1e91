use Rattle.std.proofs.Common.{sym, ◌∙◌, refl}
use Rattle.nb_model.specs.Amounts.{ip_count}
use Rattle.nb_limits.proofs.Rest.{next_dropped, none_dropped}
use Rattle.nb_limits.proofs.Sums.{sum_begins, sum_goes_on, sum_over, sum_ends}
use Rattle.nb_limits.proofs.neighbour_limits.ip_counts.Goals as goal

pub loop-addr-init : goal.loop-addr-init
loop-addr-init c = sum_begins ip_count c.args.bound _ _ refl

pub loop-addr-preserved : goal.loop-addr-preserved
loop-addr-preserved c =
    sum_goes_on _ _ _ _ _ c.loop-addr.invariant c.addr-item.result _ (next_dropped c.args.addresses.now c.args.addresses.now c.loop-addr.addr-index c.addr-item.result refl c.loop-addr-test.true c.addr-item.is) c.ip_count.result c.in_ok-sum.sum c.ip_count.ensures c.in_ok-sum.ensures

pub returns-in_err-sum : goal.returns-in_err-sum
returns-in_err-sum c =
    c.from_residual.ensures
    ∙ sym (sum_over _ _ _ _ _ c.loop-addr.invariant c.addr-item.result _ (next_dropped c.args.addresses.now c.args.addresses.now c.loop-addr.addr-index c.addr-item.result refl c.loop-addr-test.true c.addr-item.is) c.ip_count.result c.ip_count.ensures c.in_err-sum.ensures)

pub returns : goal.returns
returns c = sym (sum_ends _ _ _ _ _ c.loop-addr.invariant (none_dropped c.args.addresses.now c.args.addresses.now c.loop-addr.addr-index refl c.loop-addr-test.false))
