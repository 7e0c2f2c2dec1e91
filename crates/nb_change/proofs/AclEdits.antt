-- What edits of ACLs make of a sound network.
use Rattle.std.proofs.Common.{◌≡◌, ◌+◌, ◌&&◌, ℕ, Bool, true, false, cond, List, [], ◌∷◌, ◌++◌, Option, Some, None, refl, sym, ap, ◌∙◌}
use Rattle.std.specs.Prelude.{is_some, option_map}
use Rattle.expr_core.specs.Formula.{Formula}
use Rattle.expr_core.specs.declared.typed.TypedAtom.{TypedAtom}
use Rattle.nv_base.specs.declared.object.ObjId.{ObjId}
use Rattle.nb_records.specs.declared.acl.Acl.{Acl}
use Rattle.nb_records.specs.declared.acl.Verdict.{Verdict}
use Rattle.nb_records.specs.declared.acl.Way.{Way}
use Rattle.nb_records.specs.declared.edit.Edit.TheVariants as edit
use Rattle.nb_records.specs.declared.edit.OwnerKind.{OwnerKind}
use Rattle.nb_model.specs.Belongs.{owner_id, same_way}
use Rattle.nb_model.specs.Effect.{effect, acl_like, add_acl, is_acl, is_rule, where_there, without}
use Rattle.nb_model.specs.Network.{Network, next_number, same}
use Rattle.nb_model.specs.Readable.{MayBeRule}
use Rattle.nb_model.specs.Sound.{IsSound}
use Rattle.nb_model.proofs.Numbered.{are_used}
use Rattle.nv_table.specs.Table.{with_exchanged}
use Rattle.nb_store.proofs.PlacedRecords.{new_last}
use Rattle.nb_change.proofs.Goes.{and_true, none_goes}

there_or_not : {X Y : Type 0} (f : X → Y) (o : Option X) → is_some o ≡ is_some (option_map f o)
there_or_not f None = refl
there_or_not f (Some x) = refl

module _ (net : Network) (way : Way) (priority : ℕ) (matching : Formula TypedAtom) (verdict : Verdict) where
  abbrev new_acl : ObjId → Acl
  new_acl owner = record { id = next_number net; owner = owner; way = way; priority = priority; matching = matching; verdict = verdict }

  abbrev with_acls : List Acl → Network
  with_acls all = record net { acls = all; next = net.next + 1 }

  abbrev where_owner : Option ObjId → Network
  where_owner owner = where_there owner (λ own. add_acl net (new_acl own)) net

  abbrev unless : ObjId → Bool → Network
  unless owner there = cond there net (with_acls (net.acls ++ new_acl owner ∷ []))

  pub no_owner : (name : List ℕ) (may : Bool) (of : Option OwnerKind) → None ≡ owner_id net of name → net ≡ effect net (edit.AclAdd name way priority matching verdict may of)
  no_owner name may of none = ap where_owner none

  pub same_acl_there : (name : List ℕ) (may : Bool) (of : Option OwnerKind) (owner : ObjId) → Some owner ≡ owner_id net of name
      → is_some (option_map (λ acl. acl.id) (acl_like net owner way (priority, matching))) ≡ true → net ≡ effect net (edit.AclAdd name way priority matching verdict may of)
  same_acl_there name may of owner there is =
      sym (ap (unless owner) (there_or_not (λ (acl : Acl). acl.id) (acl_like net owner way (priority, matching)) ∙ is)) ∙ ap where_owner there

  pub added_acl : IsSound net → (name : List ℕ) (may : Bool) (of : Option OwnerKind) (owner : ObjId) (r : Acl) → Some owner ≡ owner_id net of name → r ≡ new_acl owner
      → is_some (option_map (λ acl. acl.id) (acl_like net owner way (priority, matching))) ≡ false
      → record net { acls = with_exchanged (λ x. x.id) r net.acls; next = net.next + 1 } ≡ effect net (edit.AclAdd name way priority matching verdict may of)
  added_acl sound name may of owner r there fields free =
      ap with_acls (new_last (λ (x : Acl). x.id) r net.acls net.next (ap (λ x. x.id.0) fields) (are_used net sound.numbered.below).acls)
      ∙ ap (λ (x : Acl). with_acls (net.acls ++ x ∷ [])) fields
      ∙ sym (ap (unless owner) (there_or_not (λ (acl : Acl). acl.id) (acl_like net owner way (priority, matching)) ∙ free))
      ∙ ap where_owner there

module _ (net : Network) (name : List ℕ) (of : Option OwnerKind) where
  abbrev gone_of : Option Way → Option (ℕ × Formula TypedAtom) → Option ObjId → Network
  gone_of way rule owner = record net { acls = without (is_acl owner way rule) net.acls }

  pub no_owner_loses : (way : Option Way) (rule : Option (ℕ × Formula TypedAtom)) → None ≡ owner_id net of name → net ≡ effect net (edit.AclDel name way rule of)
  no_owner_loses way rule none = ap (λ (all : List Acl). record net { acls = all }) (sym (none_goes net.acls)) ∙ ap (gone_of way rule) none

  module _ (owner : ObjId) (there : Some owner ≡ owner_id net of name) where
    pub loses_one : (way : Way) (rule : ℕ × Formula TypedAtom)
        → record net { acls = without (λ a. same owner a.owner && (same_way way a.way && is_rule rule a)) net.acls } ≡ effect net (edit.AclDel name (Some way) (Some rule) of)
    loses_one way rule = ap (gone_of (Some way) (Some rule)) there

    pub loses_way : (way : Way) → record net { acls = without (λ a. same owner a.owner && same_way way a.way) net.acls } ≡ effect net (edit.AclDel name (Some way) None of)
    loses_way way = (λ i. record net { acls = without (λ (a : Acl). same owner a.owner && and_true (same_way way a.way) i) net.acls }) ∙ ap (gone_of (Some way) None) there

    pub loses_all : (rule : Option (ℕ × Formula TypedAtom)) → MayBeRule None rule
        → record net { acls = without (λ a. same owner a.owner) net.acls } ≡ effect net (edit.AclDel name None rule of)
    loses_all None is = (λ i. record net { acls = without (λ (a : Acl). and_true (same owner a.owner) i) net.acls }) ∙ ap (gone_of None None) there
    loses_all (Some rule) is = absurd is
