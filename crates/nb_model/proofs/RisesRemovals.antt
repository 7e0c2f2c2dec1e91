-- What does not rise where objects are removed with what holds their numbers.
use Rattle.std.proofs.Common.{◌≡◌, ℕ, ◌≤◌, Bool, cond, not, ◌&&◌, Some, Option, List, map, refl}
use Rattle.std.specs.Prelude.{length}
use Rattle.std.specs.List.{list_any}
use Rattle.std.proofs.lemmas.Bool.{cond_both}
use Rattle.nv_base.specs.declared.object.ObjId.{ObjId}
use Rattle.nb_records.specs.declared.balancer.Frontend.{Frontend}
use Rattle.nb_records.specs.declared.balancer.Vip.{Vip}
use Rattle.nb_records.specs.declared.refusal.Kind.{Kind}
use Rattle.nb_records.specs.declared.refusal.Kind.TheVariants as kind
use Rattle.nb_model.specs.Amounts.{total, vips_of}
use Rattle.nb_model.specs.Belongs.{is_number, same_frontend}
use Rattle.nb_model.specs.Effect.{each_where, without, without_ports, without_router_ports, without_lb, delete_switch, delete_router, delete_group, delete_vip, is_last_vip}
use Rattle.nb_model.specs.Network.{Network, same, switch_id, router_id, group_id, Lb, Router, RouterPort, Port, Switch}
use Rattle.nb_model.proofs.Rises.{Falls, falls_twice}
use Rattle.nb_model.proofs.RisesKinds.{FallsOf}
use Rattle.nb_model.proofs.RisesRecords.{switches_fewer, switches_changed, vips_fewer, ports_fewer, groups_fewer, groups_leave, routers_fewer, routers_changed, router_ports_fewer, routes_fewer, nats_fewer, bindings_fewer, acls_fewer, lbs_fewer, lbs_changed, most_backends}
use Rattle.nb_model.proofs.Totals.{le_self, sums, total_changed, length_kept, greatest_kept}

-- a change of some keeps what it keeps of each
pub kept_where : {X Y : Type 0} (read : X → Y) (holds : X → Bool) (change : X → X) → ((x : X) → read (change x) ≡ read x) → (x : X) → read (cond (holds x) (change x) x) ≡ read x
kept_where read holds change keeps x = cond_both (holds x) (change x) x (λ y. read y ≡ read x) (λ is. keeps x) (λ is. refl)

-- and lessens what it lessens
pub less_where : {X : Type 0} (of : X → ℕ) (holds : X → Bool) (change : X → X) → ((x : X) → of (change x) ≤ of x) → (x : X) → of (cond (holds x) (change x) x) ≤ of x
less_where of holds change less x = cond_both (holds x) (change x) x (λ y. of y ≤ of x) (λ is. less x) (λ is. le_self (of x))

-- without some ports, and without them in their groups
pub ports_less : (may : Kind → Bool) (net : Network) (gone : Port → Bool) → FallsOf kind.Neighbour may net (record net { ports = without gone net.ports }) → Falls may net (without_ports gone net)
ports_less may net gone neighbours =
    falls_twice may net (record net { ports = without gone net.ports }) (without_ports gone net) (ports_fewer may net gone neighbours)
    (groups_leave may (record net { ports = without gone net.ports }) (λ number. list_any (λ port. same port.id number && gone port) net.ports))

-- without some router ports and their bindings
pub router_ports_less : (may : Kind → Bool) (net : Network) (gone : RouterPort → Bool) → FallsOf kind.Neighbour may net (record net { router_ports = without gone net.router_ports })
    → Falls may net (without_router_ports gone net)
router_ports_less may net gone neighbours =
    falls_twice may net (record net { router_ports = without gone net.router_ports }) (without_router_ports gone net) (router_ports_fewer may net gone neighbours)
    (bindings_fewer may (record net { router_ports = without gone net.router_ports }) (λ binding. list_any (λ port. same port.id binding.port && gone port) net.router_ports))

pub switch_less : (may : Kind → Bool) (net : Network) (name : List ℕ)
    → FallsOf kind.Neighbour may net (record net { ports = without (λ port. is_number (switch_id net name) port.switch) net.ports }) → Falls may net (delete_switch net name)
switch_less may net name neighbours =
    let gone : ObjId → Bool = is_number (switch_id net name) in
    let left : Network = without_ports (λ port. gone port.switch) net in
    let fewer : Network = record left { switches = without (λ switch. gone switch.id) net.switches } in
    falls_twice may net left (delete_switch net name) (ports_less may net (λ port. gone port.switch) neighbours)
    (falls_twice may left fewer (delete_switch net name) (switches_fewer may left (λ switch. gone switch.id)) (acls_fewer may fewer (λ acl. gone acl.owner)))

pub router_less : (may : Kind → Bool) (net : Network) (name : List ℕ)
    → FallsOf kind.Neighbour may net (record net { router_ports = without (λ port. is_number (router_id net name) port.router) net.router_ports }) → Falls may net (delete_router net name)
router_less may net name neighbours =
    let gone : ObjId → Bool = is_number (router_id net name) in
    let left : Network = without_router_ports (λ port. gone port.router) net in
    let fewer : Network = record left { routers = without (λ router. gone router.id) net.routers } in
    let routes : Network = record fewer { routes = without (λ route. gone route.router) net.routes } in
    falls_twice may net left (delete_router net name) (router_ports_less may net (λ port. gone port.router) neighbours)
    (falls_twice may left fewer (delete_router net name) (routers_fewer may left (λ router. gone router.id))
    (falls_twice may fewer routes (delete_router net name) (routes_fewer may fewer (λ route. gone route.router)) (nats_fewer may routes (λ nat. gone nat.router))))

pub group_less : (may : Kind → Bool) (net : Network) (name : List ℕ) → Falls may net (delete_group net name)
group_less may net name =
    let gone : ObjId → Bool = is_number (group_id net name) in
    let left : Network = record net { groups = without (λ group. gone group.id) net.groups } in
    falls_twice may net left (delete_group net name) (groups_fewer may net (λ group. gone group.id)) (acls_fewer may left (λ acl. gone acl.owner))

-- VIPs of fewer load balancers, on switches and on routers

pub switches_lose : (may : Kind → Bool) (net : Network) (change : Switch → Switch) → ((switch : Switch) → (change switch).id ≡ switch.id)
    → ((switch : Switch) → vips_of net (change switch).lbs ≤ vips_of net switch.lbs) → Falls may net (record net { switches = map change net.switches })
switches_lose may net change keeps less =
    let vips : Switch → ℕ = λ switch. vips_of net switch.lbs in
    let of_routers = total (λ (router : Router). vips_of net router.lbs) net.routers in
    switches_changed may net change keeps
    (λ free. sums (total vips (map change net.switches)) of_routers (total vips net.switches) of_routers (total_changed vips vips change net.switches less) (le_self of_routers))

pub routers_lose : (may : Kind → Bool) (net : Network) (change : Router → Router) → ((router : Router) → vips_of net (change router).lbs ≤ vips_of net router.lbs)
    → Falls may net (record net { routers = map change net.routers })
routers_lose may net change less =
    let vips : Router → ℕ = λ router. vips_of net router.lbs in
    let of_switches = total (λ (switch : Switch). vips_of net switch.lbs) net.switches in
    routers_changed may net change
    (λ free. sums of_switches (total vips (map change net.routers)) of_switches (total vips net.routers) (le_self of_switches) (total_changed vips vips change net.routers less))

pub lb_less : (may : Kind → Bool) (net : Network) (number : Option ObjId) → Falls may net (without_lb number net)
lb_less may net number =
    let gone : ObjId → Bool = is_number number in
    let of_switch : Switch → Switch = λ switch. record switch { lbs = without gone switch.lbs } in
    let of_router : Router → Router = λ router. record router { lbs = without gone router.lbs } in
    let switches : Network = record net { switches = map of_switch net.switches } in
    let routers : Network = record switches { routers = map of_router net.routers } in
    falls_twice may net switches (without_lb number net) (switches_lose may net of_switch (λ switch. refl) (λ switch. vips_fewer net gone switch.lbs))
    (falls_twice may switches routers (without_lb number net) (routers_lose may switches of_router (λ router. vips_fewer net gone router.lbs))
    (lbs_fewer may routers (λ lb. gone lb.id)))

pub vip_less : (may : Kind → Bool) (net : Network) (at : Frontend) (lb : Lb) → Falls may net (delete_vip net at lb)
vip_less may net at lb =
    let this : Lb → Bool = λ other. same lb.id other.id in
    let keep : Vip → Bool = λ vip. not (same_frontend at vip.at) in
    let one_less : Lb → Lb = λ other. record other { vips = without (λ vip. same_frontend at vip.at) other.vips } in
    let change : Lb → Lb = λ other. cond (this other) (one_less other) other in
    cond_both (is_last_vip at lb) (without_lb (Some lb.id) net) (record net { lbs = each_where this one_less net.lbs }) (Falls may net) (λ last. lb_less may net (Some lb.id))
    (λ others. lbs_changed may net change (kept_where (λ (other : Lb). other.id) this one_less (λ other. refl))
    (less_where (λ (other : Lb). length other.vips) this one_less (λ other. length_kept keep other.vips))
    (less_where most_backends this one_less (λ other. greatest_kept (λ vip. length vip.backends) keep other.vips)))
