-- What each edit does to the ports of routers.
use Rattle.std.proofs.Common.{◌≡◌, ◌+◌, ◌<◌, true, None, Some, [], ◌∷◌, ◌++◌, refl, sym, ap}
use Rattle.std.specs.Prelude.{is_some}
use Rattle.std.specs.Str.{bytes_eq}
use Rattle.std.proofs.lemmas.Bool.{cond_both}
use Rattle.std.proofs.lemmas.List.{map-append}
use Rattle.nv_base.specs.declared.object.ObjId.{ObjId}
use Rattle.nb_records.specs.declared.acl.Acl.{Acl}
use Rattle.nb_records.specs.declared.edit.Edit.{Edit}
use Rattle.nb_records.specs.declared.edit.Edit.TheVariants as edit
use Rattle.nb_records.specs.declared.router.RouterPort.{RouterPort}
use Rattle.nb_model.specs.Belongs.{is_among, is_number, owner_id}
use Rattle.nb_model.specs.Effect.{effect, where_there, add_switch, add_router, add_port, add_router_port, delete_vip, is_last_vip, acl_like, add_acl}
use Rattle.nb_model.specs.Network.{Network, next_number, switch_named, router_named, port_named, router_port_named, lb_named, router_id, router_port_id, lb_id}
use Rattle.nb_model.specs.Sound.{IsSound, all_ids, port_ids, router_ids, router_port_ids, switch_ids}
use Rattle.nb_model.proofs.Cases.{where_found}
use Rattle.nb_model.proofs.Lists.{among_left, among_right, map_changed_where}
use Rattle.nb_change.proofs.RouterRemovals.{port_deleted, no_port_deleted}
use Rattle.nb_check.specs.inner.Going.{removed_router_ports}
use Rattle.nb_check.proofs.Moves.{AreMoved, Moves, one_goes, one_more, some_go, stay, stay_found, stay_if, stay_new}
use Rattle.nb_check.proofs.Numbers.{all_low}

-- an ACL is new, or there
acl_stays : (net : Network) (acl : Acl) → Moves router_port_ids net (add_acl net acl) []
acl_stays net acl = stay_if router_port_ids (is_some (acl_like net acl.owner acl.way (acl.priority, acl.matching))) net net (record net { acls = net.acls ++ acl ∷ []; next = net.next + 1 }) refl refl

moves : (net : Network) (e : Edit) → IsSound net → Moves router_port_ids net (effect net e) (removed_router_ports net e)
moves net (edit.LsAdd name may) sound = stay_if router_port_ids (is_some (switch_named net name)) net net (add_switch net name) refl refl
moves net (edit.LrAdd name may) sound = stay_if router_port_ids (is_some (router_named net name)) net net (add_router net name) refl refl
moves net (edit.LrDel name may) sound =
    some_go (λ (port : RouterPort). port.id) (λ (it : Network). it.router_ports) net (effect net (edit.LrDel name may)) (λ (port : RouterPort). is_number (router_id net name) port.router) refl
    sound.numbered.order.router_ports
moves net (edit.LspAdd switch port may) sound = stay_new router_port_ids (is_some (port_named net port)) (switch_named net switch) (add_port net port) net (λ s. refl)
moves net (edit.LrpSetEnabled name enabled) sound = stay router_port_ids net _ (map_changed_where (λ (port : RouterPort). port.id) (λ (port : RouterPort). bytes_eq port.name name) _ net.router_ports (λ p. refl))
moves net (edit.LrpAdd router port mac nets may) sound =
    cond_both (is_some (router_port_named net port)) net (where_there (router_named net router) (add_router_port net port mac nets) net) (λ after. Moves router_port_ids net after [])
    (λ there. stay router_port_ids net net refl)
    (λ none. where_found (λ after. Moves router_port_ids net after []) (router_named net router) (add_router_port net port mac nets) net (stay router_port_ids net net refl)
    (λ r is. one_more router_port_ids net (add_router_port net port mac nets r) (map-append (λ (p : RouterPort). p.id) net.router_ports _)))
moves net (edit.LrpDel name may) sound =
    one_goes (λ (port : RouterPort). port.id) (λ (it : Network). it.router_ports) net (effect net (edit.LrpDel name may)) (λ (port : RouterPort). bytes_eq port.name name) (router_port_id net name) refl
    (λ number is. ap (λ (it : Network). it.router_ports) (sym (port_deleted net sound name may number (sym is))))
    (λ is. ap (λ (it : Network). it.router_ports) (sym (no_port_deleted net sound name may (sym is))))
moves net (edit.LrRouteAdd router prefix nexthop port by) sound = stay_found router_port_ids (router_id net router) _ net (λ r. refl)
moves net (edit.LrNatAdd router kind external logical) sound = stay_found router_port_ids (router_id net router) _ net (λ r. refl)
moves net (edit.LbAdd name at backends proto) sound = stay_if router_port_ids (is_some (lb_named net name)) net _ _ refl refl
moves net (edit.LbDel name None may) sound = stay router_port_ids net _ refl
moves net (edit.LbDel name (Some at) may) sound =
    where_found (λ after. Moves router_port_ids net after []) (lb_named net name) (delete_vip net at) net (stay router_port_ids net net refl)
    (λ lb found. stay_if router_port_ids (is_last_vip at lb) net _ _ refl refl)
moves net (edit.LsLbAdd switch name may) sound = stay_found router_port_ids (lb_id net name) _ net (λ number. refl)
moves net (edit.LrLbAdd router name may) sound = stay_found router_port_ids (lb_id net name) _ net (λ number. refl)
moves net (edit.AclAdd name way priority matching verdict may of) sound =
    where_found (λ after. Moves router_port_ids net after []) (owner_id net of name) _ net (stay router_port_ids net net refl)
    (λ owner found. acl_stays net (record { id = next_number net; owner = owner; way = way; priority = priority; matching = matching; verdict = verdict }))
moves net (edit.SmbAdd port addr mac) sound = stay_found router_port_ids (router_port_id net port) _ net (λ p. refl)
moves net _ sound = stay router_port_ids net _ refl

-- a port's number is below the next one
port_low : (net : Network) → IsSound net → (n : ObjId) → is_among n (router_port_ids net) ≡ true → n.0 < net.next
port_low net sound n there =
    all_low net.next (all_ids net) n sound.numbered.below
    (among_right n (switch_ids net) _ (among_right n (port_ids net) _ (among_right n (router_ids net) _ (among_left n (router_port_ids net) _ there))))

pub router_ports_moved : AreMoved router_port_ids removed_router_ports
router_ports_moved = record { low = port_low; moves = moves }
