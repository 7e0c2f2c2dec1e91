-- What each edit does to the routers.
use Rattle.std.proofs.Common.{◌≡◌, ℕ, ◌+◌, ◌<◌, true, None, Some, Option, List, [], ◌∷◌, ◌++◌, refl, ap, ◌∙◌}
use Rattle.std.specs.Prelude.{is_some}
use Rattle.std.specs.Str.{bytes_eq}
use Rattle.std.proofs.lemmas.Bool.{cond_both}
use Rattle.std.proofs.lemmas.List.{map-append}
use Rattle.nv_base.specs.declared.object.ObjId.{ObjId}
use Rattle.nb_records.specs.declared.acl.Acl.{Acl}
use Rattle.nb_records.specs.declared.edit.Edit.{Edit}
use Rattle.nb_records.specs.declared.edit.Edit.TheVariants as edit
use Rattle.nb_records.specs.declared.router.Router.{Router}
use Rattle.nb_model.specs.Belongs.{is_among, is_number, owner_id}
use Rattle.nb_model.specs.Effect.{effect, without, without_lb, add_switch, add_router, add_port, add_router_port, delete_vip, is_last_vip, set_router_lbs, acl_like, add_acl}
use Rattle.nb_model.specs.Network.{Network, next_number, switch_named, router_named, port_named, router_port_named, lb_named, router_id, router_port_id, lb_id}
use Rattle.nb_model.specs.Sound.{IsSound, all_ids, port_ids, router_ids, switch_ids}
use Rattle.nb_model.proofs.Cases.{where_found}
use Rattle.nb_model.proofs.Lists.{among_left, among_right, map_changed, map_changed_where}
use Rattle.nb_change.proofs.Removed.{all_stay}
use Rattle.nb_check.specs.inner.Going.{removed_routers}
use Rattle.nb_check.proofs.Moves.{AreMoved, Moves, one_goes, one_more, stay, stay_found, stay_if, stay_new}
use Rattle.nb_check.proofs.Numbers.{all_low}

-- an ACL is new, or there
acl_stays : (net : Network) (acl : Acl) → Moves router_ids net (add_acl net acl) []
acl_stays net acl = stay_if router_ids (is_some (acl_like net acl.owner acl.way (acl.priority, acl.matching))) net net (record net { acls = net.acls ++ acl ∷ []; next = net.next + 1 }) refl refl

-- a load balancer goes
balancer_goes : (net : Network) (number : Option ObjId) → router_ids (without_lb number net) ≡ router_ids net
balancer_goes net number = map_changed (λ (router : Router). router.id) _ net.routers (λ r. refl)

-- the load balancers of a router are set
balancers_set : (net : Network) (name : List ℕ) (change : List ObjId → List ObjId) → router_ids (set_router_lbs net name change) ≡ router_ids net
balancers_set net name change = map_changed_where (λ (router : Router). router.id) (λ (router : Router). bytes_eq router.name name) _ net.routers (λ r. refl)

moves : (net : Network) (e : Edit) → IsSound net → Moves router_ids net (effect net e) (removed_routers net e)
moves net (edit.LsAdd name may) sound = stay_if router_ids (is_some (switch_named net name)) net net (add_switch net name) refl refl
moves net (edit.LrAdd name may) sound =
    cond_both (is_some (router_named net name)) net (add_router net name) (λ after. Moves router_ids net after [])
    (λ there. stay router_ids net net refl) (λ none. one_more router_ids net (add_router net name) (map-append (λ (r : Router). r.id) net.routers _))
moves net (edit.LrDel name may) sound =
    one_goes (λ (router : Router). router.id) (λ (it : Network). it.routers) net (effect net (edit.LrDel name may)) (λ (router : Router). bytes_eq router.name name) (router_id net name) refl
    (λ number is. ap left is) (λ is. ap left is ∙ all_stay (λ (router : Router). is_number None router.id) (λ r. refl) net.routers)
  where
    left : Option ObjId → List Router
    left found = without (λ (router : Router). is_number found router.id) net.routers
moves net (edit.LspAdd switch port may) sound = stay_new router_ids (is_some (port_named net port)) (switch_named net switch) (add_port net port) net (λ s. refl)
moves net (edit.LrpAdd router port mac nets may) sound = stay_new router_ids (is_some (router_port_named net port)) (router_named net router) (add_router_port net port mac nets) net (λ r. refl)
moves net (edit.LrRouteAdd router prefix nexthop port by) sound = stay_found router_ids (router_id net router) _ net (λ r. refl)
moves net (edit.LrNatAdd router kind external logical) sound = stay_found router_ids (router_id net router) _ net (λ r. refl)
moves net (edit.LbAdd name at backends proto) sound = stay_if router_ids (is_some (lb_named net name)) net _ _ refl refl
moves net (edit.LbDel name None may) sound = stay router_ids net _ (balancer_goes net (lb_id net name))
moves net (edit.LbDel name (Some at) may) sound =
    where_found (λ after. Moves router_ids net after []) (lb_named net name) (delete_vip net at) net (stay router_ids net net refl)
    (λ lb found. stay_if router_ids (is_last_vip at lb) net _ _ (balancer_goes net (Some lb.id)) refl)
moves net (edit.LsLbAdd switch name may) sound = stay_found router_ids (lb_id net name) _ net (λ number. refl)
moves net (edit.LrLbAdd router name may) sound = stay_found router_ids (lb_id net name) _ net (λ number. balancers_set net router _)
moves net (edit.LrLbDel router name may) sound = stay router_ids net _ (balancers_set net router _)
moves net (edit.AclAdd name way priority matching verdict may of) sound =
    where_found (λ after. Moves router_ids net after []) (owner_id net of name) _ net (stay router_ids net net refl)
    (λ owner found. acl_stays net (record { id = next_number net; owner = owner; way = way; priority = priority; matching = matching; verdict = verdict }))
moves net (edit.SmbAdd port addr mac) sound = stay_found router_ids (router_port_id net port) _ net (λ p. refl)
moves net _ sound = stay router_ids net _ refl

-- a router's number is below the next one
router_low : (net : Network) → IsSound net → (n : ObjId) → is_among n (router_ids net) ≡ true → n.0 < net.next
router_low net sound n there =
    all_low net.next (all_ids net) n sound.numbered.below (among_right n (switch_ids net) _ (among_right n (port_ids net) _ (among_left n (router_ids net) _ there)))

pub routers_moved : AreMoved router_ids removed_routers
routers_moved = record { low = router_low; moves = moves }
