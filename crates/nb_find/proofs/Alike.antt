-- What has no router, and no router port, repeats nothing.
use Rattle.std.proofs.Common.{◌≡◌, ℕ, ◌==◌, ◌&&◌, not, if◌then◌else◌, List, [], ◌∷◌, None, refl, sym, ap, ◌∙◌}
use Rattle.std.specs.Prelude.{false, find, option_map}
use Rattle.nv_base.specs.Block.{Block}
use Rattle.nv_base.specs.declared.ip4.Ip4.{Ip4}
use Rattle.nb_records.specs.declared.router.Binding.{Binding}
use Rattle.nb_records.specs.declared.router.Nat.{Nat}
use Rattle.nb_records.specs.declared.router.NatKind.{NatKind}
use Rattle.nb_records.specs.declared.router.Route.{Route}
use Rattle.nb_records.specs.declared.router.RouteBy.{RouteBy}
use Rattle.nb_model.specs.Belongs.{is_number, same_policy, same_block, is_snat}
use Rattle.nb_model.specs.Network.{Network, router_id, router_port_id}
use Rattle.nb_model.specs.Tests.{route_like, nat_like, binding_like}

none_found : {X : Type 0} (xs : List X) → find (λ x. false) xs ≡ None
none_found [] = refl
none_found (x ∷ xs) = none_found xs

pub no_route_like : (net : Network) (router : List ℕ) (prefix : Block) (by : RouteBy) → None ≡ router_id net router → None ≡ route_like net router prefix by
no_route_like net router prefix by none =
    sym (ap (option_map (λ (route : Route). route.id)) (none_found net.routes))
    ∙ ap (λ number. option_map (λ (route : Route). route.id) (find (λ route. is_number number route.router && same_policy by route.by && same_block prefix route.prefix) net.routes)) none

pub no_nat_like : (net : Network) (router : List ℕ) (kind : NatKind) (external : Ip4) (logical : Block) → None ≡ router_id net router → None ≡ nat_like net router kind external logical
no_nat_like net router kind external logical none =
    sym (ap (option_map (λ (nat : Nat). nat.id)) (none_found net.nats))
    ∙ ap (λ number. option_map (λ (nat : Nat). nat.id) (find (λ nat. is_number number nat.router && (if is_snat kind then is_snat nat.kind && same_block logical nat.logical else not (is_snat nat.kind) && (external.0 == nat.external.0))) net.nats)) none

pub no_binding_like : (net : Network) (port : List ℕ) (addr : Ip4) → None ≡ router_port_id net port → None ≡ binding_like net port addr
no_binding_like net port addr none =
    sym (ap (option_map (λ (binding : Binding). binding.id)) (none_found net.bindings))
    ∙ ap (λ number. option_map (λ (binding : Binding). binding.id) (find (λ binding. is_number number binding.port && (addr.0 == binding.addr.0)) net.bindings)) none
