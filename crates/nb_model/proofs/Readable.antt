-- Records stay such as readings give: what each operation keeps.
use Rattle.std.proofs.Common.{ℕ, Bool, not, ◌&&◌, Option, List}
use Rattle.std.specs.Prelude.{filter, length, nat_lt}
use Rattle.std.specs.Bool.{IsTrue}
use Rattle.std.specs.List.{list_all, list_any}
use Rattle.std.specs.Str.{bytes_eq}
use Rattle.expr_check.specs.Printed.{IsPrintable}
use Rattle.nv_base.specs.Name.{is_object_name}
use Rattle.nv_base.specs.declared.object.ObjId.{ObjId}
use Rattle.nb_read.specs.Readings.{is_set_name, role_of}
use Rattle.nb_model.specs.Belongs.{is_number}
use Rattle.nb_model.specs.Effect.{without, without_ports, without_router_ports, without_lb, delete_switch, delete_router, delete_group, set_port}
use Rattle.nb_model.specs.Network.{Network, same, switch_id, router_id, group_id, Acl, Lb, Binding, Nat, Route, Router, RouterPort, AddrSet, Group, Port, Switch}
use Rattle.nb_model.specs.Readable.{is_mac, is_ip4, may_name, are_addresses, are_guards, are_networks, is_cleared, is_nexthop, is_logical, is_vip, is_member, is_priority}
use Rattle.nb_model.specs.Sound.{AreReadable}
use Rattle.nb_model.proofs.RecordLists.{all_filter, all_map, all_where, every_filter}

-- what each record is to be
abbrev pub of_switch : Switch → Bool
of_switch switch = is_object_name switch.name

abbrev pub of_port : Port → Bool
of_port port = is_object_name port.name && may_name port.router_port && are_addresses port.addresses && are_guards port.security

abbrev pub of_router : Router → Bool
of_router router = is_object_name router.name

abbrev pub of_router_port : RouterPort → Bool
of_router_port port = is_object_name port.name && is_mac port.mac && are_networks port.nets

abbrev pub of_route : Route → Bool
of_route route = is_cleared route.prefix && is_nexthop route.nexthop && may_name route.port

abbrev pub of_nat : Nat → Bool
of_nat nat = is_ip4 nat.external && is_logical nat.kind nat.logical

abbrev pub of_lb : Lb → Bool
of_lb lb = is_object_name lb.name && nat_lt 0 (length lb.vips) && list_all is_vip lb.vips

abbrev pub of_acl : Acl → Bool
of_acl acl = is_priority acl.priority

abbrev pub OfAcl : Acl → Type 0
OfAcl acl = IsPrintable (role_of acl.way) acl.matching

abbrev pub of_set : AddrSet → Bool
of_set set = is_set_name set.name && list_all is_member set.members

abbrev pub of_group : Group → Bool
of_group group = is_set_name group.name

abbrev pub of_binding : Binding → Bool
of_binding binding = is_ip4 binding.addr && is_mac binding.mac

module _ (net : Network) (before : AreReadable net) where
  -- Some go.

  pub without_ports_readable : (gone : Port → Bool) → AreReadable (without_ports gone net)
  without_ports_readable gone =
      let stays = λ (number : ObjId). not (list_any (λ port. same port.id number && gone port) net.ports) in
      assumption (
        all_filter of_port (λ port. not (gone port)) net.ports before.ports,
        all_map of_group (λ group. record group { ports = filter stays group.ports }) net.groups (λ group is. is) before.groups,
      )

  pub without_router_ports_readable : (gone : RouterPort → Bool) → AreReadable (without_router_ports gone net)
  without_router_ports_readable gone = assumption (
    all_filter of_router_port (λ port. not (gone port)) net.router_ports before.router_ports,
    all_filter of_binding (λ binding. not (list_any (λ port. same port.id binding.port && gone port) net.router_ports)) net.bindings before.bindings,
  )

  pub without_lb_readable : (number : Option ObjId) → AreReadable (without_lb number net)
  without_lb_readable number =
      let stays = λ (own : ObjId). not (is_number number own) in
      assumption (
        all_filter of_lb (λ lb. stays lb.id) net.lbs before.lbs,
        all_map of_switch (λ switch. record switch { lbs = filter stays switch.lbs }) net.switches (λ switch is. is) before.switches,
        all_map of_router (λ router. record router { lbs = filter stays router.lbs }) net.routers (λ router is. is) before.routers,
      )

  pub delete_acls_readable : (gone : Acl → Bool) → AreReadable (record net { acls = without gone net.acls })
  delete_acls_readable gone = assumption (
    all_filter of_acl (λ acl. not (gone acl)) net.acls before.priorities,
    every_filter OfAcl (λ acl. not (gone acl)) net.acls before.matches,
  )

  pub delete_switch_readable : (name : List ℕ) → AreReadable (delete_switch net name)
  delete_switch_readable name =
      let inner = without_ports_readable (λ port. is_number (switch_id net name) port.switch) in
      let acls = delete_acls_readable (λ acl. is_number (switch_id net name) acl.owner) in
      assumption (inner, acls, all_filter of_switch (λ switch. not (is_number (switch_id net name) switch.id)) net.switches before.switches)

  pub delete_router_readable : (name : List ℕ) → AreReadable (delete_router net name)
  delete_router_readable name =
      let inner = without_router_ports_readable (λ port. is_number (router_id net name) port.router) in
      assumption (
        inner,
        all_filter of_router (λ router. not (is_number (router_id net name) router.id)) net.routers before.routers,
        all_filter of_route (λ route. not (is_number (router_id net name) route.router)) net.routes before.routes,
        all_filter of_nat (λ nat. not (is_number (router_id net name) nat.router)) net.nats before.nats,
      )

  pub delete_group_readable : (name : List ℕ) → AreReadable (delete_group net name)
  delete_group_readable name =
      let acls = delete_acls_readable (λ acl. is_number (group_id net name) acl.owner) in
      assumption (acls, all_filter of_group (λ group. not (is_number (group_id net name) group.id)) net.groups before.groups)

  -- Some change.

  pub set_port_readable : (name : List ℕ) (change : Port → Port) → ((port : Port) → IsTrue (of_port port) → IsTrue (of_port (change port))) → AreReadable (set_port net name change)
  set_port_readable name change keeps = assumption (all_where of_port (λ port. bytes_eq port.name name) change net.ports keeps before.ports)
