-- Records that are new in a sound network.
use Rattle.std.proofs.Common.{◌≡◌, ◌++◌, [], ◌∷◌, ap}
use Rattle.nb_records.specs.declared.router.Binding.{Binding}
use Rattle.nb_records.specs.declared.router.Nat.{Nat}
use Rattle.nb_records.specs.declared.router.Route.{Route}
use Rattle.nb_records.specs.declared.router.Router.{Router}
use Rattle.nb_records.specs.declared.router.RouterPort.{RouterPort}
use Rattle.nb_model.specs.Network.{Network, next_number}
use Rattle.nb_model.specs.Sound.{IsSound}
use Rattle.nb_model.proofs.Numbered.{are_used}
use Rattle.nv_table.specs.Table.{with_exchanged}
use Rattle.nb_store.proofs.PlacedRecords.{new_last}

module _ (net : Network) (sound : IsSound net) where
  pub new_router : (r : Router) → r.id ≡ next_number net → with_exchanged (λ x. x.id) r net.routers ≡ net.routers ++ r ∷ []
  new_router r new = new_last (λ (x : Router). x.id) r net.routers net.next (ap (λ n. n.0) new) (are_used net sound.numbered.below).routers

  pub new_router_port : (r : RouterPort) → r.id ≡ next_number net → with_exchanged (λ x. x.id) r net.router_ports ≡ net.router_ports ++ r ∷ []
  new_router_port r new = new_last (λ (x : RouterPort). x.id) r net.router_ports net.next (ap (λ n. n.0) new) (are_used net sound.numbered.below).router_ports

  pub new_route : (r : Route) → r.id ≡ next_number net → with_exchanged (λ x. x.id) r net.routes ≡ net.routes ++ r ∷ []
  new_route r new = new_last (λ (x : Route). x.id) r net.routes net.next (ap (λ n. n.0) new) (are_used net sound.numbered.below).routes

  pub new_nat : (r : Nat) → r.id ≡ next_number net → with_exchanged (λ x. x.id) r net.nats ≡ net.nats ++ r ∷ []
  new_nat r new = new_last (λ (x : Nat). x.id) r net.nats net.next (ap (λ n. n.0) new) (are_used net sound.numbered.below).nats

  pub new_binding : (r : Binding) → r.id ≡ next_number net → with_exchanged (λ x. x.id) r net.bindings ≡ net.bindings ++ r ∷ []
  new_binding r new = new_last (λ (x : Binding). x.id) r net.bindings net.next (ap (λ n. n.0) new) (are_used net sound.numbered.below).bindings
