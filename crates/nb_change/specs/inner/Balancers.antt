-- What the removal of a load balancer, or of one of its VIPs, leaves.
use Rattle.nv_base.specs.declared.object.ObjId.{ObjId}
use Rattle.nb_records.specs.declared.balancer.Frontend.{Frontend}
use Rattle.nb_records.specs.declared.balancer.Lb.{Lb}
use Rattle.nb_records.specs.declared.router.Router.{Router}
use Rattle.nb_records.specs.declared.switch.Switch.{Switch}
use Rattle.nb_model.specs.Belongs.{same_frontend}
use Rattle.nb_model.specs.Effect.{without}
use Rattle.nb_model.specs.Network.{same}

-- the switch without a load balancer
abbrev pub switch_leaves : ObjId → Switch → Switch
switch_leaves lb switch = record switch { lbs = without (same lb) switch.lbs }

-- the router without a load balancer
abbrev pub router_leaves : ObjId → Router → Router
router_leaves lb router = record router { lbs = without (same lb) router.lbs }

-- the load balancer without a VIP
abbrev pub vip_leaves : Frontend → Lb → Lb
vip_leaves at lb = record lb { vips = without (λ vip. same_frontend at vip.at) lb.vips }
