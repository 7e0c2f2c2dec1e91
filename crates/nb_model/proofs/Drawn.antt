-- An edit draws the next number, or none.
use Rattle.std.proofs.Common.{◌≡◌, ℕ, ◌+◌, ◌⊎◌, inl, inr, Bool, cond, Some, refl}
use Rattle.std.specs.Prelude.{is_some}
use Rattle.std.proofs.lemmas.Bool.{cond_both}
use Rattle.nb_records.specs.declared.edit.Edit.{Edit}
use Rattle.nb_records.specs.declared.edit.Edit.TheVariants as edit
use Rattle.nb_model.specs.Belongs.{owner_id}
use Rattle.nb_model.specs.Effect.{effect, where_there, add_switch, add_router, add_port, add_router_port, delete_vip, is_last_vip}
use Rattle.nb_model.specs.Network.{Network, switch_named, router_named, port_named, router_port_named, lb_named, router_id, router_port_id, lb_id}
use Rattle.nb_model.proofs.Cases.{where_found}

-- the next number is this one or the one after it
abbrev Drawn : ℕ → Network → Type 0
Drawn next net = (net.next ≡ next) ⊎ (net.next ≡ next + 1)

-- nothing is new where a condition holds
where_new : (there : Bool) (net old changed : Network) → Drawn net.next old → Drawn net.next changed → Drawn net.next (cond there old changed)
where_new there net old changed none one = cond_both there old changed (Drawn net.next) (λ is. none) (λ is. one)

pub edit_draws : (net : Network) (edit : Edit) → ((effect net edit).next ≡ net.next) ⊎ ((effect net edit).next ≡ net.next + 1)
edit_draws net (edit.LsAdd name may) = where_new (is_some (switch_named net name)) net net (add_switch net name) (inl refl) (inr refl)
edit_draws net (edit.LrAdd name may) = where_new (is_some (router_named net name)) net net (add_router net name) (inl refl) (inr refl)
edit_draws net (edit.LspAdd switch port may) =
    where_new (is_some (port_named net port)) net net (where_there (switch_named net switch) (add_port net port) net) (inl refl)
    (where_found (Drawn net.next) (switch_named net switch) (add_port net port) net (inl refl) (λ s found. inr refl))
edit_draws net (edit.LrpAdd router port mac nets may) =
    where_new (is_some (router_port_named net port)) net net (where_there (router_named net router) (add_router_port net port mac nets) net) (inl refl)
    (where_found (Drawn net.next) (router_named net router) (add_router_port net port mac nets) net (inl refl) (λ r found. inr refl))
edit_draws net (edit.LrRouteAdd router prefix nexthop port by) = where_found (Drawn net.next) (router_id net router) _ net (inl refl) (λ r found. inr refl)
edit_draws net (edit.LrNatAdd router kind external logical) = where_found (Drawn net.next) (router_id net router) _ net (inl refl) (λ r found. inr refl)
edit_draws net (edit.LbAdd name at backends proto) = where_new (is_some (lb_named net name)) net _ _ (inl refl) (inr refl)
edit_draws net (edit.LbDel name (Some at) may) =
    where_found (Drawn net.next) (lb_named net name) (delete_vip net at) net (inl refl) (λ lb found. where_new (is_last_vip at lb) net _ _ (inl refl) (inl refl))
edit_draws net (edit.LsLbAdd switch name may) = where_found (Drawn net.next) (lb_id net name) _ net (inl refl) (λ number found. inl refl)
edit_draws net (edit.LrLbAdd router name may) = where_found (Drawn net.next) (lb_id net name) _ net (inl refl) (λ number found. inl refl)
edit_draws net (edit.AclAdd name way priority matching verdict may of) =
    where_found (Drawn net.next) (owner_id net of name) _ net (inl refl) (λ owner found. where_new _ net net _ (inl refl) (inr refl))
edit_draws net (edit.PgAdd name ports) = inr refl
edit_draws net (edit.AsAdd name members) = inr refl
edit_draws net (edit.SmbAdd port addr mac) = where_found (Drawn net.next) (router_port_id net port) _ net (inl refl) (λ p found. inr refl)
edit_draws net _ = inl refl
