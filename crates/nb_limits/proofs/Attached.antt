-- The VIPs of load balancers, each counted once for each datapath that has its load balancer.
use Rattle.std.proofs.Common.{◌≡◌, ◌+◌, ap, sym, ◌∙◌, length}
use Rattle.nb_records.specs.declared.balancer.Lb.{Lb}
use Rattle.nb_records.specs.declared.refusal.Kind.TheVariants as kind
use Rattle.nb_records.specs.declared.router.Router.{Router}
use Rattle.nb_records.specs.declared.switch.Switch.{Switch}
use Rattle.nb_model.specs.Amounts.{amount, total, vips_of}
use Rattle.nb_model.specs.Belongs.{is_among}
use Rattle.nb_model.specs.Network.{Network}
use Rattle.nb_limits.specs.inner.Attached.{attached_vips, switches_with, routers_with}
use Rattle.nb_limits.proofs.Swapped.{swapped, total_plus}

pub all_attached : (net : Network) → total (attached_vips net) net.lbs ≡ amount net kind.VipDatapath
all_attached net =
    total_plus (λ (lb : Lb). switches_with net lb.id (length lb.vips)) (λ lb. routers_with net lb.id (length lb.vips)) net.lbs
    ∙ ap (λ n. n + total (λ (lb : Lb). routers_with net lb.id (length lb.vips)) net.lbs) (sym (swapped (λ (switch : Switch) (lb : Lb). length lb.vips) (λ switch lb. is_among lb.id switch.lbs) net.switches net.lbs))
    ∙ ap (λ n. total (λ switch. vips_of net switch.lbs) net.switches + n) (sym (swapped (λ (router : Router) (lb : Lb). length lb.vips) (λ router lb. is_among lb.id router.lbs) net.routers net.lbs))
