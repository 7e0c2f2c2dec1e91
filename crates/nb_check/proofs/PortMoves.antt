-- What each edit does to the ports of switches.
use Rattle.std.proofs.Common.{◌≡◌, ℕ, ◌+◌, ◌<◌, true, None, Some, List, [], ◌∷◌, ◌++◌, refl, sym, ap}
use Rattle.std.specs.Prelude.{is_some}
use Rattle.std.specs.Str.{bytes_eq}
use Rattle.std.proofs.lemmas.Bool.{cond_both}
use Rattle.std.proofs.lemmas.List.{map-append}
use Rattle.nv_base.specs.declared.object.ObjId.{ObjId}
use Rattle.nb_records.specs.declared.acl.Acl.{Acl}
use Rattle.nb_records.specs.declared.edit.Edit.{Edit}
use Rattle.nb_records.specs.declared.edit.Edit.TheVariants as edit
use Rattle.nb_records.specs.declared.switch.Port.{Port}
use Rattle.nb_model.specs.Belongs.{is_among, is_number, owner_id}
use Rattle.nb_model.specs.Effect.{effect, where_there, set_port, add_switch, add_router, add_port, add_router_port, delete_vip, is_last_vip, acl_like, add_acl}
use Rattle.nb_model.specs.Network.{Network, next_number, switch_named, router_named, port_named, router_port_named, lb_named, switch_id, router_id, router_port_id, port_id, lb_id}
use Rattle.nb_model.specs.Sound.{IsSound, all_ids, port_ids, switch_ids}
use Rattle.nb_model.proofs.Cases.{where_found}
use Rattle.nb_model.proofs.Lists.{among_left, among_right, map_changed_where}
use Rattle.nb_change.proofs.Deleted.{port_deleted, no_port_deleted}
use Rattle.nb_check.specs.inner.Going.{removed_ports}
use Rattle.nb_check.proofs.Moves.{AreMoved, Moves, one_goes, one_more, some_go, stay, stay_found, stay_if, stay_new}
use Rattle.nb_check.proofs.Numbers.{all_low}

-- a port is set
set_stays : (net : Network) (name : List ℕ) (change : Port → Port) → ((port : Port) → (change port).id ≡ port.id) → Moves port_ids net (set_port net name change) []
set_stays net name change keeps = stay port_ids net (set_port net name change) (map_changed_where (λ (port : Port). port.id) (λ (port : Port). bytes_eq port.name name) change net.ports keeps)

-- an ACL is new, or there
acl_stays : (net : Network) (acl : Acl) → Moves port_ids net (add_acl net acl) []
acl_stays net acl = stay_if port_ids (is_some (acl_like net acl.owner acl.way (acl.priority, acl.matching))) net net (record net { acls = net.acls ++ acl ∷ []; next = net.next + 1 }) refl refl

moves : (net : Network) (e : Edit) → IsSound net → Moves port_ids net (effect net e) (removed_ports net e)
moves net (edit.LsAdd name may) sound = stay_if port_ids (is_some (switch_named net name)) net net (add_switch net name) refl refl
moves net (edit.LrAdd name may) sound = stay_if port_ids (is_some (router_named net name)) net net (add_router net name) refl refl
moves net (edit.LsDel name may) sound =
    some_go (λ (port : Port). port.id) (λ (it : Network). it.ports) net (effect net (edit.LsDel name may)) (λ (port : Port). is_number (switch_id net name) port.switch) refl sound.numbered.order.ports
moves net (edit.LspAdd switch port may) sound =
    cond_both (is_some (port_named net port)) net (where_there (switch_named net switch) (add_port net port) net) (λ after. Moves port_ids net after [])
    (λ there. stay port_ids net net refl)
    (λ none. where_found (λ after. Moves port_ids net after []) (switch_named net switch) (add_port net port) net (stay port_ids net net refl)
    (λ s is. one_more port_ids net (add_port net port s) (map-append (λ (p : Port). p.id) net.ports _)))
moves net (edit.LspDel name may) sound =
    one_goes (λ (port : Port). port.id) (λ (it : Network). it.ports) net (effect net (edit.LspDel name may)) (λ (port : Port). bytes_eq port.name name) (port_id net name) refl
    (λ number is. ap (λ (it : Network). it.ports) (sym (port_deleted net sound name may number (sym is))))
    (λ is. ap (λ (it : Network). it.ports) (sym (no_port_deleted net sound name may (sym is))))
moves net (edit.LspSetAddresses port list) sound = set_stays net port _ (λ p. refl)
moves net (edit.LspSetPortSecurity port list) sound = set_stays net port _ (λ p. refl)
moves net (edit.LspSetType port kind) sound = set_stays net port _ (λ p. refl)
moves net (edit.LspSetOptions port name) sound = set_stays net port _ (λ p. refl)
moves net (edit.LspSetEnabled port enabled) sound = set_stays net port _ (λ p. refl)
moves net (edit.LrpAdd router port mac nets may) sound = stay_new port_ids (is_some (router_port_named net port)) (router_named net router) (add_router_port net port mac nets) net (λ r. refl)
moves net (edit.LrRouteAdd router prefix nexthop port by) sound = stay_found port_ids (router_id net router) _ net (λ r. refl)
moves net (edit.LrNatAdd router kind external logical) sound = stay_found port_ids (router_id net router) _ net (λ r. refl)
moves net (edit.LbAdd name at backends proto) sound = stay_if port_ids (is_some (lb_named net name)) net _ _ refl refl
moves net (edit.LbDel name None may) sound = stay port_ids net _ refl
moves net (edit.LbDel name (Some at) may) sound =
    where_found (λ after. Moves port_ids net after []) (lb_named net name) (delete_vip net at) net (stay port_ids net net refl) (λ lb found. stay_if port_ids (is_last_vip at lb) net _ _ refl refl)
moves net (edit.LsLbAdd switch name may) sound = stay_found port_ids (lb_id net name) _ net (λ number. refl)
moves net (edit.LrLbAdd router name may) sound = stay_found port_ids (lb_id net name) _ net (λ number. refl)
moves net (edit.AclAdd name way priority matching verdict may of) sound =
    where_found (λ after. Moves port_ids net after []) (owner_id net of name) _ net (stay port_ids net net refl)
    (λ owner found. acl_stays net (record { id = next_number net; owner = owner; way = way; priority = priority; matching = matching; verdict = verdict }))
moves net (edit.SmbAdd port addr mac) sound = stay_found port_ids (router_port_id net port) _ net (λ p. refl)
moves net _ sound = stay port_ids net _ refl

-- a port's number is below the next one
port_low : (net : Network) → IsSound net → (n : ObjId) → is_among n (port_ids net) ≡ true → n.0 < net.next
port_low net sound n there = all_low net.next (all_ids net) n sound.numbered.below (among_right n (switch_ids net) _ (among_left n (port_ids net) _ there))

pub ports_moved : AreMoved port_ids removed_ports
ports_moved = record { low = port_low; moves = moves }
