-- What edits of port groups make of a sound network.
use Rattle.std.proofs.Common.{◌≡◌, ◌+◌, ℕ, Bool, false, List, [], ◌∷◌, ◌++◌, Option, Some, None, refl, sym, ap, ◌∙◌}
use Rattle.std.specs.Prelude.{option_map}
use Rattle.std.specs.Str.{bytes_eq}
use Rattle.nv_base.specs.declared.object.ObjId.{ObjId}
use Rattle.nb_records.specs.declared.acl.Acl.{Acl}
use Rattle.nb_records.specs.declared.edit.Edit.TheVariants as edit
use Rattle.nb_records.specs.declared.sets.Group.{Group}
use Rattle.nb_model.specs.Belongs.{is_number}
use Rattle.nb_model.specs.Effect.{effect, named_port_ids, without}
use Rattle.nb_model.specs.Network.{Network, next_number, same, group_named, group_id}
use Rattle.nb_model.specs.Sound.{IsSound}
use Rattle.nb_model.proofs.Alike.{same_names}
use Rattle.nb_model.proofs.Numbered.{are_used}
use Rattle.nb_model.proofs.RecordLists.{found_holds}
use Rattle.nv_table.specs.Table.{with_exchanged, without_number}
use Rattle.nb_store.proofs.PlacedRecords.{new_last, named_changed, none_changed, rises}
use Rattle.nb_change.proofs.Goes.{none_goes}

module _ (net : Network) (sound : IsSound net) where
  abbrev with_groups : List Group → Network
  with_groups all = record net { groups = all; next = net.next + 1 }

  pub added_group : (name : List ℕ) (names : List (List ℕ)) (g : Group) → g ≡ record { id = next_number net; name = name; ports = named_port_ids net names }
      → record net { groups = with_exchanged (λ x. x.id) g net.groups; next = net.next + 1 } ≡ effect net (edit.PgAdd name names)
  added_group name names g fields =
      ap with_groups (new_last (λ (x : Group). x.id) g net.groups net.next (ap (λ x. x.id.0) fields) (are_used net sound.numbered.below).groups)
      ∙ ap (λ (x : Group). with_groups (net.groups ++ x ∷ [])) fields

  abbrev with_ports : List ObjId → Group → Group
  with_ports ports g = record g { ports = ports }

  -- the group of a name has other ports
  pub set_group : (name : List ℕ) (names : List (List ℕ)) (id : ObjId) (g : Group) → Some id ≡ group_id net name → g ≡ record { id = id; name = name; ports = named_port_ids net names }
      → record net { groups = with_exchanged (λ x. x.id) g net.groups } ≡ effect net (edit.PgSetPorts name names)
  set_group name names id g there fields = by (group_named net name) refl there
    where
      by : (found : Option Group) → group_named net name ≡ found → Some id ≡ option_map (λ x. x.id) found
          → record net { groups = with_exchanged (λ x. x.id) g net.groups } ≡ effect net (edit.PgSetPorts name names)
      by None e f = absurd (cc)
      by (Some old) e f =
          let own : id ≡ old.id = cc in
          let is : name ≡ old.name = sym (same_names old.name name (found_holds (λ (x : Group). bytes_eq x.name name) net.groups old e)) in
          ap (λ (x : Group). record net { groups = with_exchanged (λ x. x.id) x net.groups }) (fields ∙ λ i. record { id = own i; name = is i; ports = named_port_ids net names })
          ∙ ap (λ (all : List Group). record net { groups = all })
          (sym (named_changed (λ (x : Group). x.id) (λ (x : Group). x.name) name (with_ports (named_port_ids net names)) old net.groups e
          (rises (λ (x : Group). x.id) net.groups sound.numbered.order.groups) sound.named.groups refl))

  -- no group of the name
  pub no_group_set : (name : List ℕ) (names : List (List ℕ)) → None ≡ group_id net name → net ≡ effect net (edit.PgSetPorts name names)
  no_group_set name names none = by (group_named net name) refl none
    where
      by : (found : Option Group) → group_named net name ≡ found → None ≡ option_map (λ x. x.id) found → net ≡ effect net (edit.PgSetPorts name names)
      by None e f = ap (λ (all : List Group). record net { groups = all }) (sym (none_changed (λ (x : Group). bytes_eq x.name name) (with_ports (named_port_ids net names)) net.groups e))
      by (Some old) e f = absurd (cc)

abbrev groups_gone : Network → Option ObjId → Network
groups_gone net number = record net {
  groups = without (λ (g : Group). is_number number g.id) net.groups;
  acls = without (λ (a : Acl). is_number number a.owner) net.acls;
}

pub group_deleted : (net : Network) (name : List ℕ) (given : Bool) (number : ObjId) → Some number ≡ group_id net name
    → record net { groups = without_number (λ x. x.id) number net.groups; acls = without (λ a. same number a.owner) net.acls } ≡ effect net (edit.PgDel name given)
group_deleted net name given number there = ap (groups_gone net) there

pub no_group_deleted : (net : Network) (name : List ℕ) (given : Bool) → None ≡ group_id net name → net ≡ effect net (edit.PgDel name given)
no_group_deleted net name given none =
    ap (λ (all : List Group). record net { groups = all }) (sym (none_goes net.groups))
    ∙ ap (λ (all : List Acl). record net { groups = without (λ g. false) net.groups; acls = all }) (sym (none_goes net.acls))
    ∙ ap (groups_gone net) none
