-- What edits of routers, and of what belongs to them, make of a sound network.
use Rattle.std.proofs.Common.{◌≡◌, ◌+◌, ◌&&◌, ◌==◌, ℕ, Bool, true, false, cond, List, [], ◌∷◌, ◌++◌, map, Option, Some, None, refl, sym, ap, ◌∙◌}
use Rattle.std.specs.Prelude.{is_some, option_map, find}
use Rattle.std.proofs.lemmas.Bool.{and_parts, and_from}
use Rattle.std.specs.Bool.{IsTrue}
use borrow.Author.Tests.{eqb-true, eq-eqb}
use Rattle.std.specs.Str.{bytes_eq}
use Rattle.nv_base.specs.Block.{Block}
use Rattle.nv_base.specs.declared.ip4.Ip4.{Ip4}
use Rattle.nv_base.specs.declared.object.ObjId.{ObjId}
use Rattle.nb_records.specs.declared.edit.Edit.TheVariants as edit
use Rattle.nb_records.specs.declared.router.Binding.{Binding}
use Rattle.nb_records.specs.declared.router.Nat.{Nat}
use Rattle.nb_records.specs.declared.router.NatKind.{NatKind}
use Rattle.nb_records.specs.declared.router.Route.{Route}
use Rattle.nb_records.specs.declared.router.RouteBy.{RouteBy}
use Rattle.nb_records.specs.declared.router.Router.{Router}
use Rattle.nb_records.specs.declared.router.RouterPort.{RouterPort}
use Rattle.nb_model.specs.Belongs.{is_number, same_binding}
use Rattle.nb_model.specs.Effect.{effect, add_router, add_router_port, where_there, policy_or, without, each_where}
use Rattle.nb_model.specs.Network.{Network, next_number, same, router_named, router_port_named, router_id, router_port_id}
use Rattle.nb_model.specs.Sound.{IsSound}
use Rattle.nb_model.proofs.Alike.{same_names}
use Rattle.nb_model.proofs.RecordLists.{found_holds}
use Rattle.nv_table.specs.Table.{with_exchanged, without_number, NumbersRise}
use Rattle.nb_store.proofs.PlacedRecords.{named_changed, none_changed, none_without, rises}
use Rattle.nb_change.specs.inner.Routers.{is_route_for, is_nat_for}
use Rattle.nb_change.proofs.Goes.{alone_goes, none_goes, apart_last}
use Rattle.nb_change.proofs.NewRecords.{new_router, new_router_port, new_route, new_nat, new_binding}

module _ (net : Network) (sound : IsSound net) where
  abbrev with_routers : List Router → Network
  with_routers all = record net { routers = all; next = net.next + 1 }

  pub added_router : (name : List ℕ) (may : Bool) (r : Router) → r ≡ record { id = next_number net; name = name; lbs = [] } → is_some (router_named net name) ≡ false
      → record net { routers = with_exchanged (λ x. x.id) r net.routers; next = net.next + 1 } ≡ effect net (edit.LrAdd name may)
  added_router name may r fields free =
      ap with_routers (new_router net sound r (ap (λ x. x.id) fields))
      ∙ ap (λ (x : Router). with_routers (net.routers ++ x ∷ [])) fields
      ∙ sym (ap (λ b. cond b net (add_router net name)) free)

  abbrev with_router_ports : List RouterPort → Network
  with_router_ports all = record net { router_ports = all; next = net.next + 1 }

  pub added_router_port : (router name : List ℕ) (mac : ℕ) (nets : List Block) (may : Bool) (owner : ObjId) (p : RouterPort) → Some owner ≡ router_id net router
      → p ≡ record { id = next_number net; router = owner; name = name; mac = mac; nets = nets; enabled = true } → is_some (router_port_named net name) ≡ false
      → record net { router_ports = with_exchanged (λ x. x.id) p net.router_ports; next = net.next + 1 } ≡ effect net (edit.LrpAdd router name mac nets may)
  added_router_port router name mac nets may owner p there fields free = by (router_named net router) there
    where
      new : ObjId → RouterPort
      new own = record { id = next_number net; router = own; name = name; mac = mac; nets = nets; enabled = true }

      by : (found : Option Router) → Some owner ≡ option_map (λ r. r.id) found
          → with_router_ports (with_exchanged (λ x. x.id) p net.router_ports) ≡ cond (is_some (router_port_named net name)) net (where_there found (add_router_port net name mac nets) net)
      by None e = absurd (cc)
      by (Some r) e =
          let own : owner ≡ r.id = cc in
          ap with_router_ports (new_router_port net sound p (ap (λ x. x.id) fields))
          ∙ ap (λ (x : RouterPort). with_router_ports (net.router_ports ++ x ∷ [])) (fields ∙ ap new own)
          ∙ sym (ap (λ b. cond b net (add_router_port net name mac nets r)) free)

  -- no router
  pub no_router : (router name : List ℕ) (mac : ℕ) (nets : List Block) (may : Bool) → None ≡ router_id net router → net ≡ effect net (edit.LrpAdd router name mac nets may)
  no_router router name mac nets may none = by (router_named net router) (is_some (router_port_named net name)) none
    where
      by : (found : Option Router) (there : Bool) → None ≡ option_map (λ r. r.id) found → net ≡ cond there net (where_there found (add_router_port net name mac nets) net)
      by None true e = refl
      by None false e = refl
      by (Some r) there e = absurd (cc)

  abbrev with_routes : List Route → Network
  with_routes all = record net { routes = all; next = net.next + 1 }

  abbrev a_route : Block → Ip4 → Option (List ℕ) → Option RouteBy → ObjId → Route
  a_route prefix nexthop port by owner = record { id = next_number net; router = owner; by = policy_or by; prefix = prefix; nexthop = nexthop; port = port }

  pub added_route : (router : List ℕ) (prefix : Block) (nexthop : Ip4) (port : Option (List ℕ)) (by : Option RouteBy) (owner : ObjId) (r : Route) → Some owner ≡ router_id net router
      → r ≡ record { id = next_number net; router = owner; by = policy_or by; prefix = prefix; nexthop = nexthop; port = port }
      → record net { routes = with_exchanged (λ x. x.id) r net.routes; next = net.next + 1 } ≡ effect net (edit.LrRouteAdd router prefix nexthop port by)
  added_route router prefix nexthop port by owner r there fields =
      ap with_routes (new_route net sound r (ap (λ x. x.id) fields))
      ∙ ap (λ (x : Route). with_routes (net.routes ++ x ∷ [])) fields
      ∙ ap (λ (o : Option ObjId). where_there o (λ n. with_routes (net.routes ++ a_route prefix nexthop port by n ∷ [])) net) there

  abbrev with_nats : List Nat → Network
  with_nats all = record net { nats = all; next = net.next + 1 }

  abbrev a_nat : NatKind → Ip4 → Block → ObjId → Nat
  a_nat kind external logical owner = record { id = next_number net; router = owner; kind = kind; external = external; logical = logical }

  pub added_nat : (router : List ℕ) (kind : NatKind) (external : Ip4) (logical : Block) (owner : ObjId) (r : Nat) → Some owner ≡ router_id net router
      → r ≡ record { id = next_number net; router = owner; kind = kind; external = external; logical = logical }
      → record net { nats = with_exchanged (λ x. x.id) r net.nats; next = net.next + 1 } ≡ effect net (edit.LrNatAdd router kind external logical)
  added_nat router kind external logical owner r there fields =
      ap with_nats (new_nat net sound r (ap (λ x. x.id) fields))
      ∙ ap (λ (x : Nat). with_nats (net.nats ++ x ∷ [])) fields
      ∙ ap (λ (o : Option ObjId). where_there o (λ n. with_nats (net.nats ++ a_nat kind external logical n ∷ [])) net) there

  abbrev with_bindings : List Binding → Network
  with_bindings all = record net { bindings = all; next = net.next + 1 }

  abbrev a_binding : Ip4 → ℕ → ObjId → Binding
  a_binding addr mac port = record { id = next_number net; port = port; addr = addr; mac = mac }

  pub added_binding : (port : List ℕ) (addr : Ip4) (mac : ℕ) (owner : ObjId) (r : Binding) → Some owner ≡ router_port_id net port
      → r ≡ record { id = next_number net; port = owner; addr = addr; mac = mac }
      → record net { bindings = with_exchanged (λ x. x.id) r net.bindings; next = net.next + 1 } ≡ effect net (edit.SmbAdd port addr mac)
  added_binding port addr mac owner r there fields =
      ap with_bindings (new_binding net sound r (ap (λ x. x.id) fields))
      ∙ ap (λ (x : Binding). with_bindings (net.bindings ++ x ∷ [])) fields
      ∙ ap (λ (o : Option ObjId). where_there o (λ n. with_bindings (net.bindings ++ a_binding addr mac n ∷ [])) net) there

  router_ports_rise : NumbersRise (λ (x : RouterPort). x.id) net.router_ports
  router_ports_rise = rises (λ (x : RouterPort). x.id) net.router_ports sound.numbered.order.router_ports

  -- a changed port in place of the one of its name
  pub changed_router_port : (name : List ℕ) (change : RouterPort → RouterPort) (old new : RouterPort) → Some old ≡ router_port_named net name → (change old).id ≡ old.id
      → (name ≡ old.name → new ≡ change old)
      → record net { router_ports = with_exchanged (λ x. x.id) new net.router_ports } ≡ record net { router_ports = each_where (λ p. bytes_eq p.name name) change net.router_ports }
  changed_router_port name change old new found keeps fields =
      let is : name ≡ old.name = sym (same_names old.name name (found_holds (λ (x : RouterPort). bytes_eq x.name name) net.router_ports old (sym found))) in
      ap (λ (p : RouterPort). record net { router_ports = with_exchanged (λ x. x.id) p net.router_ports }) (fields is)
      ∙ ap (λ (all : List RouterPort). record net { router_ports = all })
      (sym (named_changed (λ (x : RouterPort). x.id) (λ (x : RouterPort). x.name) name change old net.router_ports (sym found) router_ports_rise
      (apart_last bytes_eq (map (λ x. x.name) net.ports) (map (λ (x : RouterPort). x.name) net.router_ports) sound.named.ports) keeps))

  -- no port of the name
  pub no_router_port : (name : List ℕ) (change : RouterPort → RouterPort) → None ≡ router_port_named net name → net ≡ record net { router_ports = each_where (λ p. bytes_eq p.name name) change net.router_ports }
  no_router_port name change none = ap (λ (all : List RouterPort). record net { router_ports = all }) (sym (none_changed (λ (x : RouterPort). bytes_eq x.name name) change net.router_ports (sym none)))

  -- without the bindings of a port of a number, for an address
  abbrev bindings_gone : Ip4 → Option ObjId → Network
  bindings_gone addr port = record net { bindings = without (λ (x : Binding). is_number port x.port && (addr.0 == x.addr.0)) net.bindings }

  pub no_port_of_binding : (port : List ℕ) (addr : Ip4) (given : Bool) → None ≡ router_port_id net port → net ≡ effect net (edit.SmbDel port addr given)
  no_port_of_binding port addr given none = ap (λ (all : List Binding). record net { bindings = all }) (sym (none_goes net.bindings)) ∙ ap (bindings_gone addr) none

  pub no_binding : (port : List ℕ) (addr : Ip4) (given : Bool) (owner : ObjId) → Some owner ≡ router_port_id net port
      → None ≡ find (λ (x : Binding). same owner x.port && (addr.0 == x.addr.0)) net.bindings → net ≡ effect net (edit.SmbDel port addr given)
  no_binding port addr given owner there none =
      ap (λ (all : List Binding). record net { bindings = all }) (sym (none_without (λ (x : Binding). same owner x.port && (addr.0 == x.addr.0)) net.bindings (sym none)))
      ∙ ap (bindings_gone addr) there

  one_key : (k a b : ℕ) → IsTrue (k == a) → IsTrue (k == b) → IsTrue (a == b)
  one_key k a b e f = eq-eqb a b (sym (eqb-true k a e) ∙ eqb-true k b f)

  pub removed_binding : (port : List ℕ) (addr : Ip4) (given : Bool) (owner : ObjId) (r : Binding) → Some owner ≡ router_port_id net port
      → Some r ≡ find (λ (x : Binding). same owner x.port && (addr.0 == x.addr.0)) net.bindings
      → record net { bindings = without_number (λ x. x.id) r.id net.bindings } ≡ effect net (edit.SmbDel port addr given)
  removed_binding port addr given owner r there found =
      ap (λ (all : List Binding). record net { bindings = all })
      (alone_goes (λ (x : Binding). x.id) (λ (x : Binding). same owner x.port && (addr.0 == x.addr.0)) same_binding r net.bindings (sym found)
      (rises (λ (x : Binding). x.id) net.bindings sound.numbered.order.bindings) agree sound.apart.bindings)
      ∙ ap (bindings_gone addr) there
    where
      agree : (a b : Binding) → IsTrue (same owner a.port && (addr.0 == a.addr.0)) → IsTrue (same owner b.port && (addr.0 == b.addr.0)) → IsTrue (same_binding a b)
      agree a b e f =
          let first = and_parts (same owner a.port) (addr.0 == a.addr.0) e in
          let second = and_parts (same owner b.port) (addr.0 == b.addr.0) f in
          and_from (same a.port b.port) (a.addr.0 == b.addr.0) (one_key owner.0 a.port.0 b.port.0 first.0 second.0) (one_key addr.0 a.addr.0 b.addr.0 first.1 second.1)

-- Routes and NAT rules that a command asks to remove.

abbrev routes_gone : Network → Option Block → Option RouteBy → Option ObjId → Network
routes_gone net prefix by number = record net { routes = without (λ (r : Route). is_number number r.router && is_route_for prefix by r) net.routes }

pub routes_deleted : (net : Network) (router : List ℕ) (prefix : Option Block) (given : Bool) (by : Option RouteBy) (number : ObjId) → Some number ≡ router_id net router
    → record net { routes = without (λ (r : Route). same number r.router && is_route_for prefix by r) net.routes } ≡ effect net (edit.LrRouteDel router prefix given by)
routes_deleted net router prefix given by number there = ap (routes_gone net prefix by) there

pub no_routes_deleted : (net : Network) (router : List ℕ) (prefix : Option Block) (given : Bool) (by : Option RouteBy) → None ≡ router_id net router → net ≡ effect net (edit.LrRouteDel router prefix given by)
no_routes_deleted net router prefix given by none = ap (λ (all : List Route). record net { routes = all }) (sym (none_goes net.routes)) ∙ ap (routes_gone net prefix by) none

abbrev nats_gone : Network → Option NatKind → Option Block → Option ObjId → Network
nats_gone net kind at number = record net { nats = without (λ (r : Nat). is_number number r.router && is_nat_for kind at r) net.nats }

pub nats_deleted : (net : Network) (router : List ℕ) (kind : Option NatKind) (at : Option Block) (given : Bool) (number : ObjId) → Some number ≡ router_id net router
    → record net { nats = without (λ (r : Nat). same number r.router && is_nat_for kind at r) net.nats } ≡ effect net (edit.LrNatDel router kind at given)
nats_deleted net router kind at given number there = ap (nats_gone net kind at) there

pub no_nats_deleted : (net : Network) (router : List ℕ) (kind : Option NatKind) (at : Option Block) (given : Bool) → None ≡ router_id net router → net ≡ effect net (edit.LrNatDel router kind at given)
no_nats_deleted net router kind at given none = ap (λ (all : List Nat). record net { nats = all }) (sym (none_goes net.nats)) ∙ ap (nats_gone net kind at) none
