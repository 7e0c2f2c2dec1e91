-- A sound network: what accepted edits leave.
use Rattle.std.specs.Prelude.{◌≡◌, ◌<◌, Bool, true, ◌&&◌, nat_lt, IsTrue, List, [], ◌∷◌, ◌++◌, length, map, None}
use Rattle.std.specs.List.{list_all, AllByRecursion}
use Rattle.std.specs.Str.{bytes_eq}
use Rattle.nv_base.specs.Name.{is_object_name}
use Rattle.nv_base.specs.declared.object.ObjId.{ObjId}
use Rattle.expr_check.specs.Printed.{IsPrintable}
use Rattle.nb_read.specs.Readings.{is_set_name, role_of}
use Rattle.nb_model.specs.Amounts.{over_limit}
use Rattle.nb_model.specs.Belongs.{is_among, same_frontend, same_route, same_nat, same_acl, same_binding}
use Rattle.nb_model.specs.Network.{Network, same}
use Rattle.nb_model.specs.Readable.{are_apart, is_mac, is_ip4, may_name, are_addresses, are_guards, are_networks, is_cleared, is_nexthop, is_logical, is_vip, is_member, is_priority}
use Rattle.nv_base.specs.Object.{number_limit}

-- numbers rise
abbrev pub is_rising : List ObjId → Bool
is_rising [] = true
is_rising (number ∷ numbers) = list_all (λ later. nat_lt number.0 later.0) numbers && is_rising numbers

-- the numbers of each kind
abbrev pub switch_ids : Network → List ObjId
switch_ids net = map (λ x. x.id) net.switches

abbrev pub port_ids : Network → List ObjId
port_ids net = map (λ x. x.id) net.ports

abbrev pub router_ids : Network → List ObjId
router_ids net = map (λ x. x.id) net.routers

abbrev pub router_port_ids : Network → List ObjId
router_port_ids net = map (λ x. x.id) net.router_ports

abbrev pub route_ids : Network → List ObjId
route_ids net = map (λ x. x.id) net.routes

abbrev pub nat_ids : Network → List ObjId
nat_ids net = map (λ x. x.id) net.nats

abbrev pub lb_ids : Network → List ObjId
lb_ids net = map (λ x. x.id) net.lbs

abbrev pub acl_ids : Network → List ObjId
acl_ids net = map (λ x. x.id) net.acls

abbrev pub set_ids : Network → List ObjId
set_ids net = map (λ x. x.id) net.sets

abbrev pub group_ids : Network → List ObjId
group_ids net = map (λ x. x.id) net.groups

abbrev pub binding_ids : Network → List ObjId
binding_ids net = map (λ x. x.id) net.bindings

-- the numbers of all objects
abbrev pub all_ids : Network → List ObjId
all_ids net =
    switch_ids net ++ (port_ids net ++ (router_ids net ++ (router_port_ids net ++ (route_ids net ++ (nat_ids net ++ (lb_ids net ++ (acl_ids net ++ (set_ids net ++ (group_ids net ++ binding_ids net)))))))))

-- each kind stands by rising number
pub record AreInOrder (net : Network) : Type 0 where
  pub switches : IsTrue (is_rising (switch_ids net))
  pub ports : IsTrue (is_rising (port_ids net))
  pub routers : IsTrue (is_rising (router_ids net))
  pub router_ports : IsTrue (is_rising (router_port_ids net))
  pub routes : IsTrue (is_rising (route_ids net))
  pub nats : IsTrue (is_rising (nat_ids net))
  pub lbs : IsTrue (is_rising (lb_ids net))
  pub acls : IsTrue (is_rising (acl_ids net))
  pub sets : IsTrue (is_rising (set_ids net))
  pub groups : IsTrue (is_rising (group_ids net))
  pub bindings : IsTrue (is_rising (binding_ids net))

-- no two objects have one number, whatever their kinds; numbers are from 1 on, and below the next one
pub record AreNumbered (net : Network) : Type 0 where
  pub order : AreInOrder net
  pub apart : IsTrue (are_apart same (all_ids net))
  pub below : IsTrue (list_all (λ number. nat_lt 0 number.0 && nat_lt number.0 net.next) (all_ids net))
  pub room : net.next < number_limit
  pub from_one : 0 < net.next

-- names are told apart: those of switches and routers, those of both kinds of ports, and those of each other kind
pub record AreNamed (net : Network) : Type 0 where
  pub datapaths : IsTrue (are_apart bytes_eq (map (λ x. x.name) net.switches ++ map (λ x. x.name) net.routers))
  pub ports : IsTrue (are_apart bytes_eq (map (λ x. x.name) net.ports ++ map (λ x. x.name) net.router_ports))
  pub lbs : IsTrue (are_apart bytes_eq (map (λ x. x.name) net.lbs))
  pub sets : IsTrue (are_apart bytes_eq (map (λ x. x.name) net.sets))
  pub groups : IsTrue (are_apart bytes_eq (map (λ x. x.name) net.groups))

-- each number that a record holds is that of an object of its kind
pub record Refer (net : Network) : Type 0 where
  pub ports : IsTrue (list_all (λ port. is_among port.switch (switch_ids net)) net.ports)
  pub router_ports : IsTrue (list_all (λ port. is_among port.router (router_ids net)) net.router_ports)
  pub routes : IsTrue (list_all (λ route. is_among route.router (router_ids net)) net.routes)
  pub nats : IsTrue (list_all (λ nat. is_among nat.router (router_ids net)) net.nats)
  pub switches : IsTrue (list_all (λ switch. list_all (λ lb. is_among lb (lb_ids net)) switch.lbs) net.switches)
  pub routers : IsTrue (list_all (λ router. list_all (λ lb. is_among lb (lb_ids net)) router.lbs) net.routers)
  pub acls : IsTrue (list_all (λ acl. is_among acl.owner (switch_ids net ++ group_ids net)) net.acls)
  pub groups : IsTrue (list_all (λ group. list_all (λ port. is_among port (port_ids net)) group.ports) net.groups)
  pub bindings : IsTrue (list_all (λ binding. is_among binding.port (router_port_ids net)) net.bindings)

-- no two records say the same, no load balancer is attached twice, has a VIP twice, and no group has a port twice
pub record AreApart (net : Network) : Type 0 where
  pub routes : IsTrue (are_apart same_route net.routes)
  pub nats : IsTrue (are_apart same_nat net.nats)
  pub acls : IsTrue (are_apart same_acl net.acls)
  pub bindings : IsTrue (are_apart same_binding net.bindings)
  pub vips : IsTrue (list_all (λ lb. are_apart (λ a b. same_frontend a.at b.at) lb.vips) net.lbs)
  pub of_switches : IsTrue (list_all (λ switch. are_apart same switch.lbs) net.switches)
  pub of_routers : IsTrue (list_all (λ router. are_apart same router.lbs) net.routers)
  pub of_groups : IsTrue (list_all (λ group. are_apart same group.ports) net.groups)

-- the records are such as readings give
pub record AreReadable (net : Network) : Type 0 where
  pub switches : IsTrue (list_all (λ switch. is_object_name switch.name) net.switches)
  pub ports : IsTrue (list_all (λ port. is_object_name port.name && may_name port.router_port && are_addresses port.addresses && are_guards port.security) net.ports)
  pub routers : IsTrue (list_all (λ router. is_object_name router.name) net.routers)
  pub router_ports : IsTrue (list_all (λ port. is_object_name port.name && is_mac port.mac && are_networks port.nets) net.router_ports)
  pub routes : IsTrue (list_all (λ route. is_cleared route.prefix && is_nexthop route.nexthop && may_name route.port) net.routes)
  pub nats : IsTrue (list_all (λ nat. is_ip4 nat.external && is_logical nat.kind nat.logical) net.nats)
  pub lbs : IsTrue (list_all (λ lb. is_object_name lb.name && nat_lt 0 (length lb.vips) && list_all is_vip lb.vips) net.lbs)
  pub priorities : IsTrue (list_all (λ acl. is_priority acl.priority) net.acls)
  pub matches : AllByRecursion (λ acl. IsPrintable (role_of acl.way) acl.matching) net.acls
  pub sets : IsTrue (list_all (λ set. is_set_name set.name && list_all is_member set.members) net.sets)
  pub groups : IsTrue (list_all (λ group. is_set_name group.name) net.groups)
  pub bindings : IsTrue (list_all (λ binding. is_ip4 binding.addr && is_mac binding.mac) net.bindings)

pub record IsSound (net : Network) : Type 0 where
  pub numbered : AreNumbered net
  pub named : AreNamed net
  pub refers : Refer net
  pub apart : AreApart net
  pub readable : AreReadable net
  pub within : over_limit net ≡ None
