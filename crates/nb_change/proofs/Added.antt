-- New switches and ports, and changed ports.
use Rattle.std.proofs.Common.{◌≡◌, ◌+◌, ◌&&◌, ℕ, Bool, true, false, cond, List, [], map, Option, Some, None, refl, sym, ap, ◌∙◌, nat_lt}
use Rattle.std.specs.Prelude.{is_some, option_map}
use Rattle.std.specs.Bool.{IsTrue}
use Rattle.std.specs.List.{list_all}
use Rattle.std.specs.Str.{bytes_eq}
use Rattle.nv_base.specs.declared.object.ObjId.{ObjId}
use Rattle.nb_records.specs.declared.edit.Edit.TheVariants as edit
use Rattle.nb_records.specs.declared.switch.Addr.{Addr}
use Rattle.nb_records.specs.declared.switch.Guard.{Guard}
use Rattle.nb_records.specs.declared.switch.Port.{Port}
use Rattle.nb_records.specs.declared.switch.PortKind.{PortKind}
use Rattle.nb_records.specs.declared.switch.PortKind.TheVariants as port_kind
use Rattle.nb_records.specs.declared.switch.Switch.{Switch}
use Rattle.nb_model.specs.Effect.{effect, add_switch, add_port, set_port, where_there}
use Rattle.nb_model.specs.Network.{Network, next_number, switch_named, port_named, switch_id}
use Rattle.nb_model.specs.Readable.{are_apart}
use Rattle.nb_model.specs.Sound.{IsSound, switch_ids, port_ids}
use Rattle.nb_model.proofs.Lists.{all_parts}
use Rattle.nb_model.proofs.Alike.{same_names}
use Rattle.nb_model.proofs.RecordLists.{found_holds}
use Rattle.nv_table.specs.Table.{with_exchanged, NumbersRise, record_of}
use Rattle.nv_table.proofs.Found.{found_there, own_record}
use Rattle.nv_table.proofs.Undone.{taken_back}
use Rattle.nb_store.proofs.PlacedRecords.{new_last, named_changed, none_changed, rises, apart_first}

-- ports whose parts are the same
pub same_parts : {id owner : ObjId} {name own : List ℕ} {kind : PortKind} {r q : Option (List ℕ)} {a b : List Addr} {s t : List Guard} {on : Bool} → name ≡ own → r ≡ q → a ≡ b → s ≡ t
    → (let p : Port = record { id = id; switch = owner; name = name; kind = kind; router_port = r; addresses = a; security = s; enabled = on } in p)
    ≡ record { id = id; switch = owner; name = own; kind = kind; router_port = q; addresses = b; security = t; enabled = on }
same_parts {id} {owner} {name} {own} {kind} {r} {q} {a} {b} {s} {t} {on} names peers addresses guards =
    ap (λ (n : List ℕ). let p : Port = record { id = id; switch = owner; name = n; kind = kind; router_port = r; addresses = a; security = s; enabled = on } in p) names
    ∙ ap (λ (n : Option (List ℕ)). let p : Port = record { id = id; switch = owner; name = own; kind = kind; router_port = n; addresses = a; security = s; enabled = on } in p) peers
    ∙ ap (λ (n : List Addr). let p : Port = record { id = id; switch = owner; name = own; kind = kind; router_port = q; addresses = n; security = s; enabled = on } in p) addresses
    ∙ ap (λ (n : List Guard). let p : Port = record { id = id; switch = owner; name = own; kind = kind; router_port = q; addresses = b; security = n; enabled = on } in p) guards

module _ (net : Network) (sound : IsSound net) where
  abbrev is_below : ObjId → Bool
  is_below n = nat_lt 0 n.0 && nat_lt n.0 net.next

  below_switches : IsTrue (list_all is_below (map (λ (x : Switch). x.id) net.switches))
  below_switches = (all_parts is_below (switch_ids net) _ sound.numbered.below).0

  below_ports : IsTrue (list_all is_below (map (λ (x : Port). x.id) net.ports))
  below_ports = (all_parts is_below (port_ids net) _ (all_parts is_below (switch_ids net) _ sound.numbered.below).1).0

  pub added_switch : (name : List ℕ) (id : ObjId) (lbs : List ObjId) (may : Bool) → id ≡ next_number net → lbs ≡ [] → is_some (switch_named net name) ≡ false
      → record net { switches = with_exchanged (λ x. x.id) (record { id = id; name = name; lbs = lbs }) net.switches; next = net.next + 1 } ≡ effect net (edit.LsAdd name may)
  added_switch name id lbs may is none free =
      ap (λ (n : ObjId). record net { switches = with_exchanged (λ x. x.id) (record { id = n; name = name; lbs = lbs }) net.switches; next = net.next + 1 }) is
      ∙ ap (λ (l : List ObjId). record net { switches = with_exchanged (λ x. x.id) (record { id = next_number net; name = name; lbs = l }) net.switches; next = net.next + 1 }) none
      ∙ ap (λ (all : List Switch). record net { switches = all; next = net.next + 1 }) (new_last (λ (x : Switch). x.id) (record { id = next_number net; name = name; lbs = [] }) net.switches net.next refl below_switches)
      ∙ sym (ap (λ b. cond b net (add_switch net name)) free)

  pub added_port : (switch : List ℕ) (name : List ℕ) (id : ObjId) (owner : ObjId) (port : Port) (may : Bool) → id ≡ next_number net → Some owner ≡ switch_id net switch
      → port ≡ record { id = id; switch = owner; name = name; kind = port_kind.Host; router_port = None; addresses = []; security = []; enabled = true } → is_some (port_named net name) ≡ false
      → record net { ports = with_exchanged (λ x. x.id) port net.ports; next = net.next + 1 } ≡ effect net (edit.LspAdd switch name may)
  added_port switch name id owner port may is there fields free = by (switch_named net switch) there
    where
      new : ObjId → ObjId → Port
      new n own = record { id = n; switch = own; name = name; kind = port_kind.Host; router_port = None; addresses = []; security = []; enabled = true }

      with_port : List Port → Network
      with_port all = record net { ports = all; next = net.next + 1 }

      by : (found : Option Switch) → Some owner ≡ option_map (λ s. s.id) found
          → with_port (with_exchanged (λ x. x.id) port net.ports) ≡ cond (is_some (port_named net name)) net (where_there found (add_port net name) net)
      by None e = absurd (cc)
      by (Some s) e =
          let own : owner ≡ s.id = cc in
          ap (λ (p : Port). with_port (with_exchanged (λ x. x.id) p net.ports)) (fields ∙ ap (λ n. new n owner) is ∙ ap (new (next_number net)) own)
          ∙ ap with_port (new_last (λ (x : Port). x.id) (new (next_number net) s.id) net.ports net.next refl below_ports)
          ∙ sym (ap (λ b. cond b net (add_port net name s)) free)

  -- no switch
  pub no_switch : (switch name : List ℕ) (may : Bool) → None ≡ switch_id net switch → net ≡ effect net (edit.LspAdd switch name may)
  no_switch switch name may none = by (switch_named net switch) (is_some (port_named net name)) none
    where
      by : (found : Option Switch) (there : Bool) → None ≡ option_map (λ s. s.id) found → net ≡ cond there net (where_there found (add_port net name) net)
      by None true e = refl
      by None false e = refl
      by (Some s) there e = absurd (cc)

  ports_rise : NumbersRise (λ (x : Port). x.id) net.ports
  ports_rise = rises (λ (x : Port). x.id) net.ports sound.numbered.order.ports

  ports_apart : IsTrue (are_apart bytes_eq (map (λ (x : Port). x.name) net.ports))
  ports_apart = apart_first bytes_eq (map (λ (x : Port). x.name) net.ports) (map (λ x. x.name) net.router_ports) sound.named.ports

  -- a changed port in place of the one of its name
  pub changed_port : (name : List ℕ) (change : Port → Port) (old new : Port) → Some old ≡ port_named net name → (change old).id ≡ old.id
      → (name ≡ old.name → new ≡ change old) → record net { ports = with_exchanged (λ x. x.id) new net.ports } ≡ set_port net name change
  changed_port name change old new found keeps fields =
      let is : name ≡ old.name = sym (same_names old.name name (found_holds (λ (x : Port). bytes_eq x.name name) net.ports old (sym found))) in
      ap (λ (p : Port). record net { ports = with_exchanged (λ x. x.id) p net.ports }) (fields is)
      ∙ ap (λ (all : List Port). record net { ports = all }) (sym (named_changed (λ (x : Port). x.id) (λ (x : Port). x.name) name change old net.ports (sym found) ports_rise ports_apart keeps))

  -- what is set is as it was
  pub unchanged_port : (name : List ℕ) (change : Port → Port) (old : Port) → Some old ≡ port_named net name → old ≡ change old → net ≡ set_port net name change
  unchanged_port name change old found same =
      let there : record_of (λ (x : Port). x.id) old.id net.ports ≡ Some old = own_record (λ (x : Port). x.id) old net.ports ports_rise (found_there (λ (x : Port). bytes_eq x.name name) old net.ports (sym found)).0 in
      ap (λ (all : List Port). record net { ports = all }) (sym (taken_back (λ (x : Port). x.id) old.id old net.ports ports_rise there))
      ∙ changed_port name change old old found (ap (λ (p : Port). p.id) (sym same)) (λ is. same)

  -- no port of the name
  pub no_port : (name : List ℕ) (change : Port → Port) → None ≡ port_named net name → net ≡ set_port net name change
  no_port name change none = ap (λ (all : List Port). record net { ports = all }) (sym (none_changed (λ (x : Port). bytes_eq x.name name) change net.ports (sym none)))
