-- Ports of routers that go with their bindings, and routers.
use Rattle.std.proofs.Common.{◌≡◌, ℕ, ◌<◌, Bool, false, ◌&&◌, ◌||◌, List, [], ◌∷◌, map, Option, Some, None, refl, sym, ap, ◌∙◌, subst, length}
use Rattle.std.proofs.lemmas.List.Folds.{list_any-append, find-append}
use Rattle.std.specs.Prelude.{find, option_map}
use Rattle.std.specs.Bool.{IsTrue}
use Rattle.std.specs.List.{list_any}
use Rattle.std.specs.Option.{option_or}
use Rattle.std.specs.Str.{bytes_eq}
use Rattle.nv_base.specs.declared.object.ObjId.{ObjId}
use Rattle.nb_records.specs.declared.edit.Edit.TheVariants as edit
use Rattle.nb_records.specs.declared.router.Binding.{Binding}
use Rattle.nb_records.specs.declared.router.Nat.{Nat}
use Rattle.nb_records.specs.declared.router.Route.{Route}
use Rattle.nb_records.specs.declared.router.Router.{Router}
use Rattle.nb_records.specs.declared.router.RouterPort.{RouterPort}
use Rattle.nb_model.specs.Belongs.{is_number}
use Rattle.nb_model.specs.Effect.{effect, without, without_router_ports, delete_router_port}
use Rattle.nb_model.specs.Network.{Network, same, router_id, router_port_id, router_port_named}
use Rattle.nb_model.specs.Readable.{are_apart}
use Rattle.nb_model.specs.Sound.{IsSound}
use Rattle.nb_model.proofs.RecordLists.{found_holds}
use Rattle.nv_table.specs.Table.{NumbersRise, without_number}
use Rattle.nv_table.proofs.Undone.{rise_without}
use Rattle.nb_change.specs.inner.Routers.{less_router_port, less_router}
use Rattle.nb_store.proofs.PlacedRecords.{placed, none_without, named_once, rises}
use Rattle.nb_change.proofs.Goes.{none_goes, apart_last, rise_left}
use Rattle.nb_change.proofs.Removed.{without_twice, none_passes, all_stay, one_less, less_goes, shuffle}

-- Ports of routers, with their bindings.

-- no such port is there
none_gone : (gone : RouterPort → Bool) (net : Network) → find gone net.router_ports ≡ None → without_router_ports gone net ≡ net
none_gone gone net none =
    ap (λ (all : List RouterPort). record (without_router_ports gone net) { router_ports = all }) (none_without gone net.router_ports none)
    ∙ ap (λ (all : List Binding). record net { bindings = all })
    (all_stay (λ (b : Binding). list_any (λ port. same port.id b.port && gone port) net.router_ports) (λ b. none_passes gone b.port (λ (x : RouterPort). x.id) net.router_ports none) net.bindings)

module _ (gone : RouterPort → Bool) (net : Network) (port : RouterPort) (found : Some port ≡ find gone net.router_ports) (rise : NumbersRise (λ (x : RouterPort). x.id) net.router_ports) where
  abbrev bound_in : List RouterPort → ObjId → Bool
  bound_in ports n = list_any (λ (x : RouterPort). same x.id n && gone x) ports

  bound_more : (n : ObjId) → bound_in net.router_ports n ≡ (same port.id n || bound_in (without_number (λ (x : RouterPort). x.id) port.id net.router_ports) n)
  bound_more n =
      let place = placed (λ (x : RouterPort). x.id) gone port net.router_ports (sym found) rise in
      let q = λ (x : RouterPort). same x.id n && gone x in
      ap (list_any q) place.whole
      ∙ list_any-append q place.before (port ∷ place.after)
      ∙ shuffle (list_any q place.before) (same port.id n) (list_any q place.after) (gone port) (found_holds gone net.router_ports port (sym found))
      ∙ sym (ap (λ b. same port.id n || b) (ap (list_any q) place.left ∙ list_any-append q place.before place.after))

  -- one of these ports is gone already
  one_gone : without_router_ports gone (less_router_port port.id net) ≡ without_router_ports gone net
  one_gone =
      ap (λ (all : List RouterPort). record (without_router_ports gone (less_router_port port.id net)) { router_ports = all }) (less_goes (λ (x : RouterPort). x.id) gone port net.router_ports found rise)
      ∙ ap (λ (all : List Binding). record net { router_ports = without gone net.router_ports; bindings = all })
      (without_twice (λ (b : Binding). same port.id b.port) (λ b. bound_in (without_number (λ (x : RouterPort). x.id) port.id net.router_ports) b.port) (λ b. bound_in net.router_ports b.port)
      (λ b. bound_more b.port) net.bindings)

-- A router has one port less.
module _ (router : ObjId) (net now : Network) (port : RouterPort) (found : Some port ≡ find (λ p. same router p.router) net.router_ports)
    (ports : NumbersRise (λ (p : RouterPort). p.id) net.router_ports) (bindings : NumbersRise (λ (b : Binding). b.id) net.bindings) (now_is : now ≡ less_router_port port.id net) where
  pub port_smaller : length now.router_ports < length net.router_ports
  port_smaller = subst (λ (it : Network). length it.router_ports < length net.router_ports) (sym now_is) (one_less (λ (p : RouterPort). p.id) (λ p. same router p.router) port net.router_ports found ports)

  pub port_rise : NumbersRise (λ (p : RouterPort). p.id) now.router_ports
  port_rise = subst (λ (it : Network). NumbersRise (λ (p : RouterPort). p.id) it.router_ports) (sym now_is) (rise_without (λ (p : RouterPort). p.id) port.id net.router_ports ports)

  pub port_bindings : NumbersRise (λ (b : Binding). b.id) now.bindings
  port_bindings = subst (λ (it : Network). NumbersRise (λ (b : Binding). b.id) it.bindings) (sym now_is) (rise_left (λ (b : Binding). b.id) (λ b. same port.id b.port) net.bindings bindings)

  pub port_same : without_router_ports (λ p. same router p.router) now ≡ without_router_ports (λ p. same router p.router) net
  port_same = ap (without_router_ports (λ p. same router p.router)) now_is ∙ one_gone (λ p. same router p.router) net port found ports

pub ports_done : (router : ObjId) (net : Network) → None ≡ find (λ (p : RouterPort). same router p.router) net.router_ports → net ≡ without_router_ports (λ p. same router p.router) net
ports_done router net none = sym (none_gone (λ (p : RouterPort). same router p.router) net (sym none))

module _ (net : Network) (sound : IsSound net) where
  -- the port of a name is gone
  named_gone : (name : List ℕ) (port : RouterPort) → Some port ≡ router_port_named net name → less_router_port port.id net ≡ delete_router_port net name
  named_gone name port found =
      let gone = λ (x : RouterPort). bytes_eq x.name name in
      let rise = rises (λ (x : RouterPort). x.id) net.router_ports sound.numbered.order.router_ports in
      let apart = apart_last bytes_eq (map (λ x. x.name) net.ports) (map (λ (x : RouterPort). x.name) net.router_ports) sound.named.ports in
      let place = placed (λ (x : RouterPort). x.id) gone port net.router_ports (sym found) rise in
      let is = found_holds gone net.router_ports port (sym found) in
      let none : find gone (less_router_port port.id net).router_ports ≡ None =
      ap (find gone) place.left ∙ find-append gone place.before place.after ∙ ap (λ o. option_or o (find gone place.after)) place.first
      ∙ named_once (λ (x : RouterPort). x.name) name place.before port place.after (subst (λ l. IsTrue (are_apart bytes_eq (map (λ (x : RouterPort). x.name) l))) place.whole apart) is in
      sym (none_gone gone (less_router_port port.id net) none) ∙ one_gone gone net port found rise

  pub port_deleted : (name : List ℕ) (given : Bool) (number : ObjId) → Some number ≡ router_port_id net name → less_router_port number net ≡ effect net (edit.LrpDel name given)
  port_deleted name given number there = by (router_port_named net name) refl there
    where
      by : (found : Option RouterPort) → router_port_named net name ≡ found → Some number ≡ option_map (λ p. p.id) found → less_router_port number net ≡ delete_router_port net name
      by None e f = absurd (cc)
      by (Some p) e f = let own : number ≡ p.id = cc in ap (λ (n : ObjId). less_router_port n net) own ∙ named_gone name p (sym e)

  pub no_port_deleted : (name : List ℕ) (given : Bool) → None ≡ router_port_id net name → net ≡ effect net (edit.LrpDel name given)
  no_port_deleted name given none = by (router_port_named net name) refl none
    where
      by : (found : Option RouterPort) → router_port_named net name ≡ found → None ≡ option_map (λ p. p.id) found → net ≡ delete_router_port net name
      by None e f = sym (none_gone (λ (p : RouterPort). bytes_eq p.name name) net e)
      by (Some p) e f = absurd (cc)

-- Routers.

abbrev routers_gone : Network → Option ObjId → Network
routers_gone net number = record (without_router_ports (λ port. is_number number port.router) net) {
  routers = without (λ router. is_number number router.id) net.routers;
  routes = without (λ route. is_number number route.router) net.routes;
  nats = without (λ nat. is_number number nat.router) net.nats;
}

pub router_deleted : (net : Network) (name : List ℕ) (given : Bool) (number : ObjId) → Some number ≡ router_id net name → less_router number net ≡ effect net (edit.LrDel name given)
router_deleted net name given number there = ap (routers_gone net) there

nothing_found : {X : Type 0} (xs : List X) → find (λ x. false) xs ≡ None
nothing_found [] = refl
nothing_found (x ∷ xs) = nothing_found xs

pub no_router_deleted : (net : Network) (name : List ℕ) (given : Bool) → None ≡ router_id net name → net ≡ effect net (edit.LrDel name given)
no_router_deleted net name given none =
    sym (none_gone (λ port. false) net (nothing_found net.router_ports))
    ∙ ap (λ (all : List Router). record (without_router_ports (λ port. false) net) { routers = all }) (sym (none_goes net.routers))
    ∙ ap (λ (all : List Route). record (without_router_ports (λ port. false) net) { routers = without (λ x. false) net.routers; routes = all }) (sym (none_goes net.routes))
    ∙ ap (λ (all : List Nat). record (without_router_ports (λ port. false) net) { routers = without (λ x. false) net.routers; routes = without (λ x. false) net.routes; nats = all }) (sym (none_goes net.nats))
    ∙ ap (routers_gone net) none
