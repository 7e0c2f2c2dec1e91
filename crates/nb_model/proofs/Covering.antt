-- The numbers that records hold are still those of objects where each number is still there.
use Rattle.std.proofs.Common.{◌≡◌, Bool, List, ◌++◌, map}
use Rattle.std.specs.Prelude.{IsTrue}
use Rattle.std.specs.List.{list_all}
use Rattle.nv_base.specs.declared.object.ObjId.{ObjId}
use Rattle.nb_model.specs.Effect.{each_where}
use Rattle.nb_model.specs.Network.{Network, Acl, Binding, Nat, Route, Router, RouterPort, Group, Port, Switch}
use Rattle.nb_model.specs.Sound.{Refer, switch_ids, port_ids, router_ids, router_port_ids, lb_ids, group_ids}
use Rattle.nb_model.proofs.Lists.{map_changed, map_changed_where}
use Rattle.nb_model.proofs.References.{Covers, refers, all_refer, refers_covered, all_refer_covered, covers_same, among_both}

-- each number of a kind that is held is among those of the other network
pub record AreCovered (net other : Network) : Type 0 where
  pub switches : Covers (switch_ids net) (switch_ids other)
  pub ports : Covers (port_ids net) (port_ids other)
  pub routers : Covers (router_ids net) (router_ids other)
  pub router_ports : Covers (router_port_ids net) (router_port_ids other)
  pub lbs : Covers (lb_ids net) (lb_ids other)
  pub groups : Covers (group_ids net) (group_ids other)

-- each number that a record of one network holds is that of an object of the other one
pub record ReferTo (net other : Network) : Type 0 where
  pub ports : IsTrue (list_all (refers (λ (x : Port). x.switch) (switch_ids other)) net.ports)
  pub router_ports : IsTrue (list_all (refers (λ (x : RouterPort). x.router) (router_ids other)) net.router_ports)
  pub routes : IsTrue (list_all (refers (λ (x : Route). x.router) (router_ids other)) net.routes)
  pub nats : IsTrue (list_all (refers (λ (x : Nat). x.router) (router_ids other)) net.nats)
  pub switches : IsTrue (list_all (all_refer (λ (x : Switch). x.lbs) (lb_ids other)) net.switches)
  pub routers : IsTrue (list_all (all_refer (λ (x : Router). x.lbs) (lb_ids other)) net.routers)
  pub acls : IsTrue (list_all (refers (λ (x : Acl). x.owner) (switch_ids other ++ group_ids other)) net.acls)
  pub groups : IsTrue (list_all (all_refer (λ (x : Group). x.ports) (port_ids other)) net.groups)
  pub bindings : IsTrue (list_all (refers (λ (x : Binding). x.port) (router_port_ids other)) net.bindings)

pub refer_to : (net other : Network) → AreCovered net other → Refer net → ReferTo net other
refer_to net other covers is = record {
  ports = refers_covered (λ (x : Port). x.switch) (switch_ids net) (switch_ids other) net.ports covers.switches is.ports;
  router_ports = refers_covered (λ (x : RouterPort). x.router) (router_ids net) (router_ids other) net.router_ports covers.routers is.router_ports;
  routes = refers_covered (λ (x : Route). x.router) (router_ids net) (router_ids other) net.routes covers.routers is.routes;
  nats = refers_covered (λ (x : Nat). x.router) (router_ids net) (router_ids other) net.nats covers.routers is.nats;
  switches = all_refer_covered (λ (x : Switch). x.lbs) (lb_ids net) (lb_ids other) net.switches covers.lbs is.switches;
  routers = all_refer_covered (λ (x : Router). x.lbs) (lb_ids net) (lb_ids other) net.routers covers.lbs is.routers;
  acls = refers_covered (λ (x : Acl). x.owner) (switch_ids net ++ group_ids net) (switch_ids other ++ group_ids other) net.acls
      (λ n. among_both n (switch_ids net) (switch_ids other) (group_ids net) (group_ids other) (covers.switches n) (covers.groups n)) is.acls;
  groups = all_refer_covered (λ (x : Group). x.ports) (port_ids net) (port_ids other) net.groups covers.ports is.groups;
  bindings = refers_covered (λ (x : Binding). x.port) (router_port_ids net) (router_port_ids other) net.bindings covers.router_ports is.bindings;
}

-- a change that keeps the numbers covers them
pub covers_map : {X : Type 0} (id : X → ObjId) (change : X → X) (xs : List X) → ((x : X) → id (change x) ≡ id x) → Covers (map id xs) (map id (map change xs))
covers_map id change xs keeps = covers_same (map id xs) (map id (map change xs)) (map_changed id change xs keeps)

pub covers_where : {X : Type 0} (id : X → ObjId) (holds : X → Bool) (change : X → X) (xs : List X) → ((x : X) → id (change x) ≡ id x) → Covers (map id xs) (map id (each_where holds change xs))
covers_where id holds change xs keeps = covers_same (map id xs) (map id (each_where holds change xs)) (map_changed_where id holds change xs keeps)
