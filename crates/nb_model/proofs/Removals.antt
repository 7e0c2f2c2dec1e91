-- Where objects are removed, what held their numbers goes or lets them go.
use Rattle.std.proofs.Common.{ℕ, Bool, not, ◌&&◌, Option, List, ◌++◌, map, refl}
use Rattle.std.specs.Prelude.{IsTrue}
use Rattle.std.specs.List.{list_all, list_any}
use Rattle.nv_base.specs.declared.object.ObjId.{ObjId}
use Rattle.nb_model.specs.Belongs.{is_number, is_among}
use Rattle.nb_model.specs.Effect.{without, without_ports, without_router_ports, without_lb, delete_switch, delete_router, delete_group}
use Rattle.nb_model.specs.Network.{Network, same, switch_id, router_id, group_id, Acl, Lb, Binding, Nat, Route, Router, RouterPort, Group, Port, Switch}
use Rattle.nb_model.specs.Sound.{Refer, switch_ids, port_ids, router_ids, router_port_ids, lb_ids, group_ids}
use Rattle.nb_model.proofs.Lists.{all_kept_weaker, all_changed}
use Rattle.nb_model.proofs.References.{refers, all_refer, among_both, among_others, among_kept}
use Rattle.nb_model.proofs.RecordLists.{all_filter}
use Rattle.nb_model.proofs.Covering.{refer_to, covers_map}

-- records that held a number that is gone are gone too
refers_others : {X Y : Type 0} (id : X → ObjId) (held : Y → ObjId) (gone : ObjId → Bool) (xs : List X) (ys : List Y) → IsTrue (list_all (refers held (map id xs)) ys)
    → IsTrue (list_all (refers held (map id (without (λ x. gone (id x)) xs))) (without (λ y. gone (held y)) ys))
refers_others {X} {Y} id held gone xs ys all =
    all_kept_weaker (refers held (map id xs)) (refers held (map id (without (λ x. gone (id x)) xs))) (λ (y : Y). not (gone (held y))) ys
    (λ y kept there. among_others id gone xs (held y) kept there) all

-- records that hold several numbers let go those that are gone
all_refer_others : {X : Type 0} (id : X → ObjId) (gone : ObjId → Bool) (xs : List X) (ns : List ObjId) → IsTrue (list_all (λ n. is_among n (map id xs)) ns)
    → IsTrue (list_all (λ n. is_among n (map id (without (λ x. gone (id x)) xs))) (without gone ns))
all_refer_others {X} id gone xs ns all =
    let left : List ObjId = map id (without (λ (x : X). gone (id x)) xs) in
    all_kept_weaker (λ n. is_among n (map id xs)) (λ n. is_among n left) (λ n. not (gone n)) ns (λ n kept there. among_others id gone xs n kept there) all

-- without some ports, and without them in their groups
pub ports_removed : (net : Network) (gone : Port → Bool) → Refer net → Refer (without_ports gone net)
ports_removed net gone is =
    let left : ObjId → Bool = λ number. list_any (λ (port : Port). same port.id number && gone port) net.ports in
    let leave : Group → Group = λ group. record group { ports = without left group.ports } in
    let among : ObjId → Bool = λ n. is_among n (port_ids net) in
    let still : ObjId → Bool = λ n. is_among n (map (λ (port : Port). port.id) (without gone net.ports)) in
    let to = refer_to net (record net { groups = map leave net.groups }) (assumption (covers_map (λ (group : Group). group.id) leave net.groups (λ group. refl))) is in
    assumption (
      all_filter (refers (λ (port : Port). port.switch) (switch_ids net)) (λ port. not (gone port)) net.ports is.ports,
      all_changed (λ (group : Group). list_all among group.ports) (λ (group : Group). list_all still group.ports) leave net.groups
          (λ group all. all_kept_weaker among still (λ n. not (left n)) group.ports (λ n stays there. among_kept (λ (port : Port). port.id) gone net.ports n stays there) all) is.groups,
      to,
    )

-- without some router ports and their bindings
pub router_ports_removed : (net : Network) (gone : RouterPort → Bool) → Refer net → Refer (without_router_ports gone net)
router_ports_removed net gone is =
    let left : Binding → Bool = λ binding. list_any (λ (port : RouterPort). same port.id binding.port && gone port) net.router_ports in
    let id : RouterPort → ObjId = λ port. port.id in
    let held : Binding → ObjId = λ binding. binding.port in
    assumption (
      all_filter (refers (λ (port : RouterPort). port.router) (router_ids net)) (λ port. not (gone port)) net.router_ports is.router_ports,
      all_kept_weaker (refers held (router_port_ids net)) (refers held (map id (without gone net.router_ports))) (λ binding. not (left binding)) net.bindings
          (λ binding stays there. among_kept id gone net.router_ports (held binding) stays there) is.bindings,
    )

-- without a load balancer
pub lb_removed : (net : Network) (number : Option ObjId) → Refer net → Refer (without_lb number net)
lb_removed net number is =
    let gone : ObjId → Bool = is_number number in
    let of_switch : Switch → Switch = λ switch. record switch { lbs = without gone switch.lbs } in
    let of_router : Router → Router = λ router. record router { lbs = without gone router.lbs } in
    let among : ObjId → Bool = λ n. is_among n (lb_ids net) in
    let still : ObjId → Bool = λ n. is_among n (map (λ (lb : Lb). lb.id) (without (λ (lb : Lb). gone lb.id) net.lbs)) in
    let to = refer_to net (record net { switches = map of_switch net.switches; routers = map of_router net.routers })
    (assumption (covers_map (λ (x : Switch). x.id) of_switch net.switches (λ x. refl), covers_map (λ (x : Router). x.id) of_router net.routers (λ x. refl))) is in
    assumption (
      all_changed (λ (x : Switch). list_all among x.lbs) (λ (x : Switch). list_all still x.lbs) of_switch net.switches (λ x all. all_refer_others (λ (lb : Lb). lb.id) gone net.lbs x.lbs all) is.switches,
      all_changed (λ (x : Router). list_all among x.lbs) (λ (x : Router). list_all still x.lbs) of_router net.routers (λ x all. all_refer_others (λ (lb : Lb). lb.id) gone net.lbs x.lbs all) is.routers,
      to,
    )

-- without a switch, its ports and its ACLs
pub switch_removed : (net : Network) (name : List ℕ) → Refer net → Refer (delete_switch net name)
switch_removed net name is =
    let gone : ObjId → Bool = is_number (switch_id net name) in
    let id : Switch → ObjId = λ switch. switch.id in
    let owner : Acl → ObjId = λ acl. acl.owner in
    let left : List Switch = without (λ (switch : Switch). gone switch.id) net.switches in
    let ports = ports_removed net (λ port. gone port.switch) is in
    let groups : List ObjId = group_ids (without_ports (λ port. gone port.switch) net) in
    assumption (
      refers_others id (λ (port : Port). port.switch) gone net.switches net.ports is.ports,
      all_filter (all_refer (λ (switch : Switch). switch.lbs) (lb_ids net)) (λ switch. not (gone switch.id)) net.switches is.switches,
      all_kept_weaker (refers owner (switch_ids net ++ groups)) (refers owner (map id left ++ groups)) (λ acl. not (gone acl.owner)) net.acls
          (λ acl stays there. among_both acl.owner (switch_ids net) (map id left) groups groups (λ among. among_others id gone net.switches acl.owner stays among) (λ among. among) there) ports.acls,
      ports,
    )

-- without a router, its ports, routes and NAT rules
pub router_removed : (net : Network) (name : List ℕ) → Refer net → Refer (delete_router net name)
router_removed net name is =
    let gone : ObjId → Bool = is_number (router_id net name) in
    let id : Router → ObjId = λ router. router.id in
    let ports = router_ports_removed net (λ port. gone port.router) is in
    assumption (
      refers_others id (λ (port : RouterPort). port.router) gone net.routers net.router_ports is.router_ports,
      refers_others id (λ (route : Route). route.router) gone net.routers net.routes is.routes,
      refers_others id (λ (nat : Nat). nat.router) gone net.routers net.nats is.nats,
      all_filter (all_refer (λ (router : Router). router.lbs) (lb_ids net)) (λ router. not (gone router.id)) net.routers is.routers,
      ports,
    )

-- without a group and its ACLs
pub group_removed : (net : Network) (name : List ℕ) → Refer net → Refer (delete_group net name)
group_removed net name is =
    let gone : ObjId → Bool = is_number (group_id net name) in
    let id : Group → ObjId = λ group. group.id in
    let owner : Acl → ObjId = λ acl. acl.owner in
    let switches : List ObjId = switch_ids net in
    let left : List Group = without (λ (group : Group). gone group.id) net.groups in
    assumption (
      all_kept_weaker (refers owner (switches ++ group_ids net)) (refers owner (switches ++ map id left)) (λ acl. not (gone acl.owner)) net.acls
          (λ acl stays there. among_both acl.owner switches switches (group_ids net) (map id left) (λ among. among) (λ among. among_others id gone net.groups acl.owner stays among) there) is.acls,
      all_filter (all_refer (λ (group : Group). group.ports) (port_ids net)) (λ group. not (gone group.id)) net.groups is.groups,
    )
