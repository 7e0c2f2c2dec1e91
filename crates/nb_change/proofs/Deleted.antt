-- A switch or a port that is deleted by its name.
use Rattle.std.proofs.Common.{◌≡◌, Bool, Option, Some, None, map, refl, sym, ap, ◌∙◌, List, [], ◌∷◌, ℕ}
use Rattle.std.specs.Prelude.{find, option_map}
use Rattle.std.specs.Str.{bytes_eq}
use Rattle.nv_base.specs.declared.object.ObjId.{ObjId}
use Rattle.nb_records.specs.declared.acl.Acl.{Acl}
use Rattle.nb_records.specs.declared.edit.Edit.TheVariants as edit
use Rattle.nb_records.specs.declared.switch.Port.{Port}
use Rattle.nb_records.specs.declared.switch.Switch.{Switch}
use Rattle.nb_model.specs.Belongs.{is_number}
use Rattle.nb_model.specs.Effect.{effect, without, without_ports}
use Rattle.nb_model.specs.Network.{Network, port_id, port_named, switch_id}
use Rattle.nb_model.specs.Sound.{IsSound}
use Rattle.nb_change.specs.inner.Leaving.{without_switch}
use Rattle.nb_store.proofs.PlacedRecords.{rises, apart_first}
use Rattle.nb_change.proofs.Removed.{less_port, named_gone, none_gone, all_stay}

module _ (net : Network) (sound : IsSound net) where
  -- the port of a name
  pub port_deleted : (name : List ℕ) (may : Bool) (number : ObjId) → Some number ≡ port_id net name → less_port number net ≡ effect net (edit.LspDel name may)
  port_deleted name may number found = by (port_named net name) refl found
    where
      by : (o : Option Port) → port_named net name ≡ o → Some number ≡ option_map (λ p. p.id) o → less_port number net ≡ effect net (edit.LspDel name may)
      by None is e = absurd (cc)
      by (Some port) is e =
          let own : number ≡ port.id = cc in
          ap (λ (n : ObjId). less_port n net) own
          ∙ named_gone net name port (sym is) (rises (λ (x : Port). x.id) net.ports sound.numbered.order.ports)
          (apart_first bytes_eq (map (λ (x : Port). x.name) net.ports) (map (λ x. x.name) net.router_ports) sound.named.ports)

  -- there is none
  pub no_port_deleted : (name : List ℕ) (may : Bool) → None ≡ port_id net name → net ≡ effect net (edit.LspDel name may)
  no_port_deleted name may none = by (port_named net name) refl none
    where
      by : (o : Option Port) → port_named net name ≡ o → None ≡ option_map (λ p. p.id) o → net ≡ effect net (edit.LspDel name may)
      by None is e = sym (none_gone (λ (x : Port). bytes_eq x.name name) net is)
      by (Some port) is e = absurd (cc)

  -- the switch of a name
  pub switch_deleted : (name : List ℕ) (may : Bool) (number : ObjId) → Some number ≡ switch_id net name → without_switch number net ≡ effect net (edit.LsDel name may)
  switch_deleted name may number found = ap deleted found
    where
      deleted : Option ObjId → Network
      deleted o = record (without_ports (λ port. is_number o port.switch) net) {
        switches = without (λ switch. is_number o switch.id) net.switches;
        acls = without (λ acl. is_number o acl.owner) net.acls;
      }

  -- there is none
  pub no_switch_deleted : (name : List ℕ) (may : Bool) → None ≡ switch_id net name → net ≡ effect net (edit.LsDel name may)
  no_switch_deleted name may none = sym (stays) ∙ ap deleted none
    where
      deleted : Option ObjId → Network
      deleted o = record (without_ports (λ port. is_number o port.switch) net) {
        switches = without (λ switch. is_number o switch.id) net.switches;
        acls = without (λ acl. is_number o acl.owner) net.acls;
      }

      stays : deleted None ≡ net
      stays =
          ap (λ (it : Network). record it { switches = without (λ (switch : Switch). is_number None switch.id) net.switches; acls = without (λ (acl : Acl). is_number None acl.owner) net.acls })
          (none_gone (λ (port : Port). is_number None port.switch) net (never net.ports))
          ∙ ap (λ (all : List Switch). record net { switches = all; acls = without (λ (acl : Acl). is_number None acl.owner) net.acls }) (all_stay (λ (switch : Switch). is_number None switch.id) (λ s. refl) net.switches)
          ∙ ap (λ (all : List Acl). record net { acls = all }) (all_stay (λ (acl : Acl). is_number None acl.owner) (λ a. refl) net.acls)
        where
          never : (ports : List Port) → find (λ (port : Port). is_number None port.switch) ports ≡ None
          never [] = refl
          never (p ∷ ports) = never ports
