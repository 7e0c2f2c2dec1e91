-- After each edit names are apart.
use Rattle.std.proofs.Common.{◌≡◌, ℕ, true, not, Some, None, Option, List, [], ◌∷◌, ◌++◌, map, refl}
use Rattle.std.specs.Prelude.{unwrap_or, ⊤}
use Rattle.std.specs.Str.{bytes_eq}
use Rattle.std.proofs.lemmas.Bool.{cond_both}
use Rattle.nb_records.specs.declared.balancer.Frontend.{Frontend}
use Rattle.nb_records.specs.declared.balancer.Proto.{Proto}
use Rattle.nb_records.specs.declared.balancer.Proto.TheVariants.{Tcp}
use Rattle.nb_records.specs.declared.balancer.Vip.{Vip}
use Rattle.nb_records.specs.declared.edit.Edit.{Edit}
use Rattle.nb_records.specs.declared.edit.Edit.TheVariants as edit
use Rattle.nb_records.specs.declared.switch.PortKind.TheVariants as port_kind
use Rattle.nb_model.specs.Belongs.{is_number, owner_id, same_frontend}
use Rattle.nb_model.specs.Effect.{effect, without, add_port, add_router_port, new_vip, add_vip, delete_vip, is_last_vip, with_number, is_detached, acl_like, named_port_ids}
use Rattle.nb_model.specs.Network.{Network, next_number, same, switch_named, router_named, port_named, router_port_named, lb_named, set_named, group_named, switch_id, router_id, router_port_id, lb_id, group_id, Lb}
use Rattle.nb_model.specs.Sound.{AreNamed}
use Rattle.nb_model.specs.Tests.{first_refusal, tests, wants_switch, wants_router, wants_port}
use Rattle.nb_model.proofs.Lists.{map_changed_where}
use Rattle.nb_model.proofs.Named
use Rattle.nb_model.proofs.Passed.{first_passes, rest_passes, free_first, free_second, free, last_passes}
use Rattle.nb_model.proofs.RecordLists.{apart_filter_rest, if_missing, if_there}

-- a VIP more
vip_named : (net : Network) (name : List ℕ) (vip : Vip) (proto : Option Proto) → AreNamed net → AreNamed (add_vip net name vip proto)
vip_named net name vip proto before =
    if_missing AreNamed (lb_named net name) _ _
    (λ there is. Named.set_lb_named net before (λ lb. bytes_eq lb.name name) (λ lb. record lb { vips = lb.vips ++ vip ∷ [] }) (λ lb. refl))
    (λ missing. assumption
    (Named.push_second Named.of_lb [] net.lbs (record { id = next_number net; name = name; proto = unwrap_or proto Tcp; vips = vip ∷ [] }) before.lbs refl (Named.new_name Named.of_lb net.lbs name missing)))

-- a VIP less
no_vip_named : (net : Network) (at : Frontend) (lb : Lb) → AreNamed net → AreNamed (delete_vip net at lb)
no_vip_named net at lb before =
    cond_both (is_last_vip at lb) _ _ AreNamed
    (λ last. Named.without_lb_named net before (Some lb.id))
    (λ more. Named.set_lb_named net before (λ other. same lb.id other.id) (λ other. record other { vips = without (λ vip. same_frontend at vip.at) other.vips }) (λ other. refl))

pub named : (net : Network) (edit : Edit) → AreNamed net → first_refusal (tests net edit) ≡ None → AreNamed (effect net edit)
named net (edit.LsAdd name may) before accepted =
    if_missing AreNamed (switch_named net name) net _ (λ there is. before) (λ missing.
    assumption (Named.push_first Named.of_switch net.switches (map Named.of_router net.routers) (record { id = next_number net; name = name; lbs = [] }) before.datapaths (Named.new_name Named.of_switch net.switches name missing)
    (Named.new_name Named.of_router net.routers name (free_second name may (λ s. true) (switch_named net name) (router_named net name) missing (first_passes _ _ accepted)))))
named net (edit.LrAdd name may) before accepted =
    if_missing AreNamed (router_named net name) net _ (λ there is. before) (λ missing.
    assumption (Named.push_second Named.of_router (map Named.of_switch net.switches) net.routers (record { id = next_number net; name = name; lbs = [] }) before.datapaths
    (Named.new_name Named.of_switch net.switches name (free_first name may (λ r. true) (router_named net name) (switch_named net name) missing (first_passes _ _ accepted)))
    (Named.new_name Named.of_router net.routers name missing)))
named net (edit.LsDel name given) before accepted = Named.delete_switch_named net before name
named net (edit.LrDel name given) before accepted = Named.delete_router_named net before name
named net (edit.LspAdd switch port may) before accepted =
    if_missing AreNamed (port_named net port) net _ (λ there is. before) (λ missing.
    if_there AreNamed (λ found. ⊤) (switch_named net switch) (add_port net port) net before tt (λ s known.
    assumption (Named.push_first Named.of_port net.ports (map Named.of_router_port net.router_ports)
    (record { id = next_number net; switch = s.id; name = port; kind = port_kind.Host; router_port = None; addresses = []; security = []; enabled = true }) before.ports
    (Named.new_name Named.of_port net.ports port missing)
    (Named.new_name Named.of_router_port net.router_ports port
    (free_second port may (λ p. is_number (switch_id net switch) p.switch) (port_named net port) (router_port_named net port) missing (first_passes _ _ (rest_passes (wants_switch net switch) _ accepted)))))))
named net (edit.LspDel port given) before accepted = Named.without_ports_named net before (λ p. bytes_eq p.name port)
named net (edit.LspSetAddresses port list) before accepted = Named.set_port_named net before port (λ p. record p { addresses = list }) (λ p. refl)
named net (edit.LspSetPortSecurity port list) before accepted = Named.set_port_named net before port (λ p. record p { security = list }) (λ p. refl)
named net (edit.LspSetType port kind) before accepted = Named.set_port_named net before port (λ p. record p { kind = kind }) (λ p. refl)
named net (edit.LspSetOptions port name) before accepted = Named.set_port_named net before port (λ p. record p { router_port = name }) (λ p. refl)
named net (edit.LspSetEnabled port enabled) before accepted = Named.set_port_named net before port (λ p. record p { enabled = enabled }) (λ p. refl)
named net (edit.LrpSetEnabled port enabled) before accepted =
    Named.same_names _ net (assumption (map_changed_where Named.of_router_port (λ p. bytes_eq p.name port) (λ p. record p { enabled = enabled }) net.router_ports (λ p. refl))) before
named net (edit.LrpAdd router port mac nets may) before accepted =
    if_missing AreNamed (router_port_named net port) net _ (λ there is. before) (λ missing.
    if_there AreNamed (λ found. ⊤) (router_named net router) (add_router_port net port mac nets) net before tt (λ r known.
    assumption (Named.push_second Named.of_router_port (map Named.of_port net.ports) net.router_ports
    (record { id = next_number net; router = r.id; name = port; mac = mac; nets = nets; enabled = true }) before.ports
    (Named.new_name Named.of_port net.ports port
    (free_first port may (λ p. is_number (router_id net router) p.router) (router_port_named net port) (port_named net port) missing (first_passes _ _ (rest_passes (wants_router net router) _ accepted))))
    (Named.new_name Named.of_router_port net.router_ports port missing))))
named net (edit.LrpDel port given) before accepted = Named.without_router_ports_named net before (λ p. bytes_eq p.name port)
named net (edit.LrRouteAdd router prefix nexthop port by) before accepted = if_there AreNamed (λ found. ⊤) (router_id net router) _ net before tt (λ r known. assumption)
named net (edit.LrNatAdd router kind external logical) before accepted = if_there AreNamed (λ found. ⊤) (router_id net router) _ net before tt (λ r known. assumption)
named net (edit.LbAdd name at backends proto) before accepted = vip_named net name (new_vip at backends) proto before
named net (edit.LbDel name None given) before accepted = Named.without_lb_named net before (lb_id net name)
named net (edit.LbDel name (Some at) given) before accepted =
    if_there AreNamed (λ found. ⊤) (lb_named net name) (delete_vip net at) net before tt (λ lb known. no_vip_named net at lb before)
named net (edit.LsLbAdd switch name may) before accepted =
    if_there AreNamed (λ found. ⊤) (lb_id net name) _ net before tt (λ number known. Named.set_switch_lbs_named net before switch (with_number number))
named net (edit.LrLbAdd router name may) before accepted =
    if_there AreNamed (λ found. ⊤) (lb_id net name) _ net before tt (λ number known. Named.set_router_lbs_named net before router (with_number number))
named net (edit.LsLbDel switch name given) before accepted = Named.set_switch_lbs_named net before switch (without (is_detached net name))
named net (edit.LrLbDel router name given) before accepted = Named.set_router_lbs_named net before router (without (is_detached net name))
named net (edit.AclAdd name way priority matching verdict may of) before accepted =
    if_there AreNamed (λ found. ⊤) (owner_id net of name) _ net before tt (λ owner known.
    if_missing AreNamed (acl_like net owner way (priority, matching)) net _ (λ there is. before) (λ missing. assumption))
named net (edit.PgAdd name ports) before accepted =
    assumption (Named.push_second Named.of_group [] net.groups (record { id = next_number net; name = name; ports = named_port_ids net ports }) before.groups refl
    (Named.new_name Named.of_group net.groups name (free name (group_named net name) (last_passes (map (wants_port net) ports) _ accepted))))
named net (edit.PgSetPorts name ports) before accepted =
    Named.same_names _ net (assumption (map_changed_where Named.of_group (λ group. bytes_eq group.name name) (λ group. record group { ports = named_port_ids net ports }) net.groups (λ group. refl))) before
named net (edit.PgDel name given) before accepted = assumption (apart_filter_rest bytes_eq Named.of_group (λ group. not (is_number (group_id net name) group.id)) [] net.groups before.groups)
named net (edit.AsAdd name members) before accepted =
    assumption (Named.push_second Named.of_set [] net.sets (record { id = next_number net; name = name; members = members }) before.sets refl
    (Named.new_name Named.of_set net.sets name (free name (set_named net name) (first_passes _ _ accepted))))
named net (edit.AsSet name members) before accepted =
    Named.same_names _ net (assumption (map_changed_where Named.of_set (λ set. bytes_eq set.name name) (λ set. record set { members = members }) net.sets (λ set. refl))) before
named net (edit.AsDel name given) before accepted = assumption (apart_filter_rest bytes_eq Named.of_set (λ set. not (bytes_eq set.name name)) [] net.sets before.sets)
named net (edit.SmbAdd port addr mac) before accepted = if_there AreNamed (λ found. ⊤) (router_port_id net port) _ net before tt (λ p known. assumption)
named net _ before accepted = assumption
