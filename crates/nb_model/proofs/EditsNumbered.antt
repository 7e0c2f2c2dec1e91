-- Each edit leaves a network numbered.
use Rattle.std.proofs.Common.{ℕ, ◌<◌, Bool, ◌&&◌, cond, Some, None, Option, List, [], ◌∷◌, ◌++◌, refl}
use Rattle.std.specs.Prelude.{is_some, unwrap_or}
use Rattle.std.specs.List.{list_any}
use Rattle.std.specs.Str.{bytes_eq}
use Rattle.std.proofs.lemmas.Bool.{cond_both}
use Rattle.nv_base.specs.Object.{number_limit}
use Rattle.nv_base.specs.declared.object.ObjId.{ObjId}
use Rattle.nb_records.specs.declared.balancer.Frontend.{Frontend}
use Rattle.nb_records.specs.declared.balancer.Proto.{Proto}
use Rattle.nb_records.specs.declared.balancer.Proto.TheVariants.{Tcp}
use Rattle.nb_records.specs.declared.balancer.Vip.{Vip}
use Rattle.nb_records.specs.declared.edit.Edit.{Edit}
use Rattle.nb_records.specs.declared.edit.Edit.TheVariants as edit
use Rattle.nb_model.specs.Belongs.{is_number, same_frontend, owner_id}
use Rattle.nb_model.specs.Effect.{effect, without, where_there, without_ports, without_router_ports, without_lb, add_switch, add_port, add_router, add_router_port, add_vip, delete_vip, is_last_vip, acl_like, named_port_ids, new_vip, with_number, is_detached, is_route, is_nat, is_acl, is_binding}
use Rattle.nb_model.specs.Network.{Network, next_number, same, switch_named, router_named, port_named, router_port_named, lb_named, switch_id, router_id, router_port_id, lb_id, group_id, Lb, RouterPort, Port}
use Rattle.nb_model.specs.Sound.{AreNumbered}
use Rattle.nb_model.proofs.Cases.{where_found}
use Rattle.nb_model.proofs.RecordKinds
use Rattle.nb_model.proofs.Numbered.{fewer, mapped, changed, one_more}

-- without some ports, and without them in their groups
ports_gone : {net : Network} (gone : Port → Bool) → AreNumbered net → AreNumbered (without_ports gone net)
ports_gone {net} gone is =
    mapped RecordKinds.groups (λ group. record group { ports = without (λ number. list_any (λ port. same port.id number && gone port) net.ports) group.ports }) (λ group. refl) (fewer RecordKinds.ports gone is)

-- without some router ports and their bindings
router_ports_gone : {net : Network} (gone : RouterPort → Bool) → AreNumbered net → AreNumbered (without_router_ports gone net)
router_ports_gone {net} gone is =
    fewer RecordKinds.bindings (λ binding. list_any (λ port. same port.id binding.port && gone port) net.router_ports) (fewer RecordKinds.router_ports gone is)

-- without a load balancer
lb_gone : {net : Network} (number : Option ObjId) → AreNumbered net → AreNumbered (without_lb number net)
lb_gone number is =
    mapped RecordKinds.routers (λ router. record router { lbs = without (is_number number) router.lbs }) (λ router. refl)
    (mapped RecordKinds.switches (λ switch. record switch { lbs = without (is_number number) switch.lbs }) (λ switch. refl) (fewer RecordKinds.lbs (λ lb. is_number number lb.id) is))

vip_deleted : {net : Network} (at : Frontend) (lb : Lb) → AreNumbered net → AreNumbered (delete_vip net at lb)
vip_deleted at lb is =
    cond_both (is_last_vip at lb) _ _ AreNumbered (λ last. lb_gone (Some lb.id) is)
    (λ others. changed RecordKinds.lbs (λ other. same lb.id other.id) (λ other. record other { vips = without (λ vip. same_frontend at vip.at) other.vips }) (λ lb. refl) is)

-- numbered, where the next number stays below its bound
abbrev IsNumberedWithRoom : Network → Type 0
IsNumberedWithRoom net = net.next < number_limit → AreNumbered net

-- a new object where its name is free
where_free : (taken : Bool) (net changed : Network) → AreNumbered net → IsNumberedWithRoom changed → IsNumberedWithRoom (cond taken net changed)
where_free taken net changed left new = cond_both taken net changed IsNumberedWithRoom (λ there room. left) (λ free. new)

vip_added : {net : Network} (name : List ℕ) (vip : Vip) (proto : Option Proto) → AreNumbered net → IsNumberedWithRoom (add_vip net name vip proto)
vip_added {net} name vip proto is =
    cond_both (is_some (lb_named net name)) _ _ IsNumberedWithRoom
    (λ there room. changed RecordKinds.lbs (λ lb. bytes_eq lb.name name) (λ lb. record lb { vips = lb.vips ++ vip ∷ [] }) (λ lb. refl) is)
    (λ absent room. one_more RecordKinds.lbs (record { id = next_number net; name = name; proto = unwrap_or proto Tcp; vips = vip ∷ [] }) refl room is)

pub edit_numbered : (net : Network) (edit : Edit) → AreNumbered net → (effect net edit).next < number_limit → AreNumbered (effect net edit)
edit_numbered net (edit.LsAdd name may) is room =
    where_free (is_some (switch_named net name)) net (add_switch net name) is
    (λ left. one_more RecordKinds.switches (record { id = next_number net; name = name; lbs = [] }) refl left is) room
edit_numbered net (edit.LrAdd name may) is room =
    where_free (is_some (router_named net name)) net (add_router net name) is
    (λ left. one_more RecordKinds.routers (record { id = next_number net; name = name; lbs = [] }) refl left is) room
edit_numbered net (edit.LsDel name may) is room =
    fewer RecordKinds.acls (λ acl. is_number (switch_id net name) acl.owner)
    (fewer RecordKinds.switches (λ switch. is_number (switch_id net name) switch.id) (ports_gone (λ port. is_number (switch_id net name) port.switch) is))
edit_numbered net (edit.LrDel name may) is room =
    fewer RecordKinds.nats (λ nat. is_number (router_id net name) nat.router)
    (fewer RecordKinds.routes (λ route. is_number (router_id net name) route.router)
    (fewer RecordKinds.routers (λ router. is_number (router_id net name) router.id) (router_ports_gone (λ port. is_number (router_id net name) port.router) is)))
edit_numbered net (edit.LspAdd switch port may) is room =
    where_free (is_some (port_named net port)) net (where_there (switch_named net switch) (add_port net port) net) is
    (where_found IsNumberedWithRoom (switch_named net switch) (add_port net port) net (λ left. is) (λ s found left. one_more RecordKinds.ports _ refl left is)) room
edit_numbered net (edit.LspDel port may) is room = ports_gone (λ p. bytes_eq p.name port) is
edit_numbered net (edit.LspSetAddresses port list) is room = changed RecordKinds.ports (λ p. bytes_eq p.name port) (λ p. record p { addresses = list }) (λ p. refl) is
edit_numbered net (edit.LspSetPortSecurity port list) is room = changed RecordKinds.ports (λ p. bytes_eq p.name port) (λ p. record p { security = list }) (λ p. refl) is
edit_numbered net (edit.LspSetType port kind) is room = changed RecordKinds.ports (λ p. bytes_eq p.name port) (λ p. record p { kind = kind }) (λ p. refl) is
edit_numbered net (edit.LspSetOptions port name) is room = changed RecordKinds.ports (λ p. bytes_eq p.name port) (λ p. record p { router_port = name }) (λ p. refl) is
edit_numbered net (edit.LspSetEnabled port enabled) is room = changed RecordKinds.ports (λ p. bytes_eq p.name port) (λ p. record p { enabled = enabled }) (λ p. refl) is
edit_numbered net (edit.LrpSetEnabled port enabled) is room = changed RecordKinds.router_ports (λ p. bytes_eq p.name port) (λ p. record p { enabled = enabled }) (λ p. refl) is
edit_numbered net (edit.LrpAdd router port mac nets may) is room =
    where_free (is_some (router_port_named net port)) net (where_there (router_named net router) (add_router_port net port mac nets) net) is
    (where_found IsNumberedWithRoom (router_named net router) (add_router_port net port mac nets) net (λ left. is) (λ r found left. one_more RecordKinds.router_ports _ refl left is)) room
edit_numbered net (edit.LrpDel port may) is room = router_ports_gone (λ p. bytes_eq p.name port) is
edit_numbered net (edit.LrRouteAdd router prefix nexthop port by) is room =
    where_found IsNumberedWithRoom (router_id net router) _ net (λ left. is) (λ r found left. one_more RecordKinds.routes _ refl left is) room
edit_numbered net (edit.LrRouteDel router prefix may by) is room = fewer RecordKinds.routes (is_route net router prefix by) is
edit_numbered net (edit.LrNatAdd router kind external logical) is room =
    where_found IsNumberedWithRoom (router_id net router) _ net (λ left. is) (λ r found left. one_more RecordKinds.nats _ refl left is) room
edit_numbered net (edit.LrNatDel router kind at may) is room = fewer RecordKinds.nats (is_nat net router kind at) is
edit_numbered net (edit.LbAdd name at backends proto) is room = vip_added name (new_vip at backends) proto is room
edit_numbered net (edit.LbDel name None may) is room = lb_gone (lb_id net name) is
edit_numbered net (edit.LbDel name (Some at) may) is room = where_found AreNumbered (lb_named net name) (delete_vip net at) net is (λ lb found. vip_deleted at lb is)
edit_numbered net (edit.LsLbAdd switch name may) is room =
    where_found AreNumbered (lb_id net name) _ net is (λ number found. changed RecordKinds.switches (λ s. bytes_eq s.name switch) (λ s. record s { lbs = with_number number s.lbs }) (λ s. refl) is)
edit_numbered net (edit.LrLbAdd router name may) is room =
    where_found AreNumbered (lb_id net name) _ net is (λ number found. changed RecordKinds.routers (λ r. bytes_eq r.name router) (λ r. record r { lbs = with_number number r.lbs }) (λ r. refl) is)
edit_numbered net (edit.LsLbDel switch name may) is room = changed RecordKinds.switches (λ s. bytes_eq s.name switch) (λ s. record s { lbs = without (is_detached net name) s.lbs }) (λ s. refl) is
edit_numbered net (edit.LrLbDel router name may) is room = changed RecordKinds.routers (λ r. bytes_eq r.name router) (λ r. record r { lbs = without (is_detached net name) r.lbs }) (λ r. refl) is
edit_numbered net (edit.AclAdd name way priority matching verdict may of) is room =
    where_found IsNumberedWithRoom (owner_id net of name) _ net (λ left. is)
    (λ owner found. where_free (is_some (acl_like net owner way (priority, matching))) net _ is (λ left. one_more RecordKinds.acls _ refl left is)) room
edit_numbered net (edit.AclDel name way rule of) is room = fewer RecordKinds.acls (is_acl (owner_id net of name) way rule) is
edit_numbered net (edit.PgAdd name ports) is room = one_more RecordKinds.groups _ refl room is
edit_numbered net (edit.PgSetPorts name ports) is room = changed RecordKinds.groups (λ group. bytes_eq group.name name) (λ group. record group { ports = named_port_ids net ports }) (λ group. refl) is
edit_numbered net (edit.PgDel name may) is room =
    fewer RecordKinds.acls (λ acl. is_number (group_id net name) acl.owner) (fewer RecordKinds.groups (λ group. is_number (group_id net name) group.id) is)
edit_numbered net (edit.AsAdd name members) is room = one_more RecordKinds.sets _ refl room is
edit_numbered net (edit.AsSet name members) is room = changed RecordKinds.sets (λ set. bytes_eq set.name name) (λ set. record set { members = members }) (λ set. refl) is
edit_numbered net (edit.AsDel name may) is room = fewer RecordKinds.sets (λ set. bytes_eq set.name name) is
edit_numbered net (edit.SmbAdd port addr mac) is room =
    where_found IsNumberedWithRoom (router_port_id net port) _ net (λ left. is) (λ p found left. one_more RecordKinds.bindings _ refl left is) room
edit_numbered net (edit.SmbDel port addr may) is room = fewer RecordKinds.bindings (is_binding net port addr) is
