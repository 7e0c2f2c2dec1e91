-- What edits of address sets make of a sound network.
use Rattle.std.proofs.Common.{◌≡◌, ℕ, ◌+◌, ◌++◌, Bool, List, [], ◌∷◌, map, Some, None, refl, sym, ap, ◌∙◌, subst}
use Rattle.std.specs.Prelude.{find}
use Rattle.std.specs.Bool.{IsTrue}
use Rattle.std.specs.Str.{bytes_eq}
use Rattle.nv_base.specs.declared.object.ObjId.{ObjId}
use Rattle.nb_records.specs.declared.edit.Edit.TheVariants as edit
use Rattle.nb_records.specs.declared.sets.AddrSet.{AddrSet}
use Rattle.nb_records.specs.declared.sets.Member.{Member}
use Rattle.nb_model.specs.Effect.{effect, without}
use Rattle.nb_model.specs.Network.{Network, next_number, set_named}
use Rattle.nb_model.specs.Readable.{are_apart}
use Rattle.nb_model.specs.Sound.{IsSound}
use Rattle.nb_model.proofs.Alike.{same_names}
use Rattle.nb_model.proofs.Numbered.{are_used}
use Rattle.nb_model.proofs.RecordLists.{found_holds}
use Rattle.nv_table.specs.Table.{with_exchanged, without_number, NumbersRise}
use Rattle.nb_store.proofs.PlacedRecords.{new_last, named_changed, named_once, none_changed, none_without, placed, rises}
use Rattle.nb_change.proofs.Goes.{passing_goes, without_both}

-- of records whose names are apart, that of a name goes alone
named_goes : {R : Type 0} (number : R → ObjId) (name_of : R → List ℕ) (name : List ℕ) (x : R) (rs : List R) → find (λ r. bytes_eq (name_of r) name) rs ≡ Some x → NumbersRise number rs
    → IsTrue (are_apart bytes_eq (map name_of rs)) → without_number number (number x) rs ≡ without (λ r. bytes_eq (name_of r) name) rs
named_goes {R} number name_of name x rs found rise apart =
    let p = λ (r : R). bytes_eq (name_of r) name in
    let place = placed number p x rs found rise in
    let is = found_holds p rs x found in
    place.left
    ∙ sym (ap (without p) place.whole
    ∙ passing_goes p place.before x place.after is
    ∙ without_both p place.before place.after
    ∙ ap (λ l. l ++ without p place.after) (none_without p place.before place.first)
    ∙ ap (λ l. place.before ++ l) (none_without p place.after (named_once name_of name place.before x place.after (subst (λ l. IsTrue (are_apart bytes_eq (map name_of l))) place.whole apart) is)))

module _ (net : Network) (sound : IsSound net) where
  sets_rise : NumbersRise (λ (x : AddrSet). x.id) net.sets
  sets_rise = rises (λ (x : AddrSet). x.id) net.sets sound.numbered.order.sets

  pub added_set : (name : List ℕ) (members : List Member) (s : AddrSet) → s ≡ record { id = next_number net; name = name; members = members }
      → record net { sets = with_exchanged (λ x. x.id) s net.sets; next = net.next + 1 } ≡ effect net (edit.AsAdd name members)
  added_set name members s fields =
      ap (λ (all : List AddrSet). record net { sets = all; next = net.next + 1 }) (new_last (λ (x : AddrSet). x.id) s net.sets net.next (ap (λ (x : AddrSet). x.id.0) fields) (are_used net sound.numbered.below).sets)
      ∙ ap (λ (x : AddrSet). record net { sets = net.sets ++ x ∷ []; next = net.next + 1 }) fields

  pub changed_set : (name : List ℕ) (members : List Member) (old new : AddrSet) → Some old ≡ set_named net name
      → (name ≡ old.name → new ≡ record old { members = members })
      → record net { sets = with_exchanged (λ x. x.id) new net.sets } ≡ effect net (edit.AsSet name members)
  changed_set name members old new found fields =
      let is : name ≡ old.name = sym (same_names old.name name (found_holds (λ (x : AddrSet). bytes_eq x.name name) net.sets old (sym found))) in
      ap (λ (s : AddrSet). record net { sets = with_exchanged (λ x. x.id) s net.sets }) (fields is)
      ∙ ap (λ (all : List AddrSet). record net { sets = all })
      (sym (named_changed (λ (x : AddrSet). x.id) (λ (x : AddrSet). x.name) name (λ x. record x { members = members }) old net.sets (sym found) sets_rise sound.named.sets refl))

  pub no_set_changed : (name : List ℕ) (members : List Member) → None ≡ set_named net name → net ≡ effect net (edit.AsSet name members)
  no_set_changed name members none =
      ap (λ (all : List AddrSet). record net { sets = all }) (sym (none_changed (λ (x : AddrSet). bytes_eq x.name name) (λ x. record x { members = members }) net.sets (sym none)))

  pub removed_set : (name : List ℕ) (given : Bool) (old : AddrSet) → Some old ≡ set_named net name
      → record net { sets = without_number (λ x. x.id) old.id net.sets } ≡ effect net (edit.AsDel name given)
  removed_set name given old found =
      ap (λ (all : List AddrSet). record net { sets = all }) (named_goes (λ (x : AddrSet). x.id) (λ (x : AddrSet). x.name) name old net.sets (sym found) sets_rise sound.named.sets)

  pub no_set : (name : List ℕ) (given : Bool) → None ≡ set_named net name → net ≡ effect net (edit.AsDel name given)
  no_set name given none = ap (λ (all : List AddrSet). record net { sets = all }) (sym (none_without (λ (x : AddrSet). bytes_eq x.name name) net.sets (sym none)))
