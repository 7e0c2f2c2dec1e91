-- Which objects the edits of a line remove.
use Rattle.std.proofs.Common.{◌≡◌, ℕ, Some, None, Option, sym, ap, ◌∙◌, subst}
use Rattle.std.specs.Prelude.{Ok}
use Rattle.nb_records.specs.declared.edit.Edit.{Edit}
use Rattle.nb_records.specs.declared.refusal.Refusal.{Refusal}
use Rattle.nb_model.specs.Effect.{effect}
use Rattle.nb_model.specs.Network.{Network}
use Rattle.nb_model.specs.Sound.{IsSound, port_ids, router_ids, router_port_ids}
use Rattle.nb_model.specs.Tests.{refusal}
use Rattle.nb_model.specs.Transactions.{unless, applied}
use Rattle.nb_check.specs.declared.changes.GoneObjects.{GoneObjects}
use Rattle.nb_check.specs.inner.Going.{AreSince, no_objects, removed_ports, removed_router_ports, removed_routers, with_removed}
use Rattle.nb_check.proofs.Moves.{since_more, since_start}
use Rattle.nb_check.proofs.PortMoves.{ports_moved}
use Rattle.nb_check.proofs.RouterMoves.{routers_moved}
use Rattle.nb_check.proofs.RouterPortMoves.{router_ports_moved}

-- before the first edit
pub none_since : (start : Network) (gone : GoneObjects) → gone ≡ no_objects → AreSince start start gone
none_since start gone none = subst (AreSince start start) (sym none) (record {
  ports = since_start port_ids start;
  router_ports = since_start router_port_ids start;
  routers = since_start router_ids start;
})

-- what an accepted edit leaves
applied_is : (found : Option Refusal) (x new : Network) → unless found x ≡ Ok new → x ≡ new
applied_is None x new is = cc
applied_is (Some refused) x new is = absurd (cc)

-- one accepted edit more, and what was noted of it
pub since_next : (start now new : Network) (e : Edit) (gone more : GoneObjects) (first : ℕ) → IsSound start → IsSound now → AreSince start now gone → first ≡ start.next
    → applied now e ≡ Ok new → more ≡ with_removed first now e gone → AreSince start new more
since_next start now new e gone more first begins sound since is_first done is_more =
    subst (λ (all : GoneObjects). AreSince start new all) (sym (is_more ∙ ap (λ (n : ℕ). with_removed n now e gone) is_first))
    (subst (λ (net : Network). AreSince start net (with_removed start.next now e gone)) (applied_is (refusal now e) (effect now e) new done) (record {
      ports = since_more port_ids removed_ports ports_moved start now e gone.ports begins sound since.ports;
      router_ports = since_more router_port_ids removed_router_ports router_ports_moved start now e gone.router_ports begins sound since.router_ports;
      routers = since_more router_ids removed_routers routers_moved start now e gone.routers begins sound since.routers;
    }))
