-- What is left of the ACLs of a sound network.
use Rattle.std.proofs.Common.{◌≡◌, ◌==◌, ◌&&◌, ℕ, subst, Bool, List, Option, Some, None, refl, sym, ap, ◌∙◌}
use Rattle.std.specs.Prelude.{option_map}
use Rattle.std.specs.Bool.{IsTrue}
use Rattle.std.specs.Str.{bytes_eq}
use Rattle.std.proofs.lemmas.Bool.{and_parts, and_from}
use Rattle.expr_core.specs.Text.{typed_text}
use Rattle.expr_core.specs.Formula.{Formula}
use Rattle.expr_core.specs.declared.typed.TypedAtom.{TypedAtom}
use Rattle.nv_base.specs.declared.object.ObjId.{ObjId}
use Rattle.nb_records.specs.declared.acl.Acl.{Acl}
use Rattle.nb_records.specs.declared.acl.Way.{Way}
use Rattle.nb_model.specs.Belongs.{same_acl, same_way}
use Rattle.nb_model.specs.Effect.{acl_like, is_rule, without}
use Rattle.nb_model.specs.Network.{Network, same}
use Rattle.nb_model.specs.Sound.{IsSound}
use Rattle.nb_model.proofs.Alike.{number_key, same_names}
use Rattle.nv_table.specs.Table.{without_number}
use Rattle.nb_store.proofs.AclLikes.{one_way}
use Rattle.nb_store.proofs.PlacedRecords.{none_without, rises}
use Rattle.nb_change.proofs.Goes.{alone_goes}

way_key : (k a b : Way) → IsTrue (same_way k a) → IsTrue (same_way k b) → IsTrue (same_way a b)
way_key k a b e f = subst (λ w. IsTrue (same_way w b)) (one_way k a e) f

text_key : (k a b : List ℕ) → IsTrue (bytes_eq k a) → IsTrue (bytes_eq k b) → IsTrue (bytes_eq a b)
text_key k a b e f = subst (λ t. IsTrue (bytes_eq t b)) (same_names k a e) f

module _ (net : Network) (sound : IsSound net) (owner : ObjId) (way : Way) (priority : ℕ) (matching : Formula TypedAtom) where
  abbrev is_like : Acl → Bool
  is_like a = same owner a.owner && (same_way way a.way && is_rule (priority, matching) a)

  agree : (a b : Acl) → IsTrue (is_like a) → IsTrue (is_like b) → IsTrue (same_acl a b)
  agree a b e f =
      let e1 = and_parts (same owner a.owner) (same_way way a.way && is_rule (priority, matching) a) e in
      let f1 = and_parts (same owner b.owner) (same_way way b.way && is_rule (priority, matching) b) f in
      let e2 = and_parts (same_way way a.way) (is_rule (priority, matching) a) e1.1 in
      let f2 = and_parts (same_way way b.way) (is_rule (priority, matching) b) f1.1 in
      let e3 = and_parts (priority == a.priority) (bytes_eq (typed_text matching) (typed_text a.matching)) e2.1 in
      let f3 = and_parts (priority == b.priority) (bytes_eq (typed_text matching) (typed_text b.matching)) f2.1 in
      let owners = number_key owner.0 a.owner.0 b.owner.0 e1.0 f1.0 in
      let ways = way_key way a.way b.way e2.0 f2.0 in
      let priorities = number_key priority a.priority b.priority e3.0 f3.0 in
      let texts = text_key (typed_text matching) (typed_text a.matching) (typed_text b.matching) e3.1 f3.1 in
      and_from (same a.owner b.owner && same_way a.way b.way && (a.priority == b.priority)) (bytes_eq (typed_text a.matching) (typed_text b.matching))
      (and_from (same a.owner b.owner && same_way a.way b.way) (a.priority == b.priority) (and_from (same a.owner b.owner) (same_way a.way b.way) owners ways) priorities) texts

  pub none_like_removed : None ≡ option_map (λ acl. acl.id) (acl_like net owner way (priority, matching)) → net ≡ record net { acls = without is_like net.acls }
  none_like_removed none = by (acl_like net owner way (priority, matching)) refl none
    where
      by : (found : Option Acl) → acl_like net owner way (priority, matching) ≡ found → None ≡ option_map (λ acl. acl.id) found → net ≡ record net { acls = without is_like net.acls }
      by None e f = ap (λ (all : List Acl). record net { acls = all }) (sym (none_without is_like net.acls e))
      by (Some a) e f = absurd (cc)

  pub like_removed : (id : ObjId) → Some id ≡ option_map (λ acl. acl.id) (acl_like net owner way (priority, matching))
      → record net { acls = without_number (λ x. x.id) id net.acls } ≡ record net { acls = without is_like net.acls }
  like_removed id there = by (acl_like net owner way (priority, matching)) refl there
    where
      by : (found : Option Acl) → acl_like net owner way (priority, matching) ≡ found → Some id ≡ option_map (λ acl. acl.id) found
          → record net { acls = without_number (λ x. x.id) id net.acls } ≡ record net { acls = without is_like net.acls }
      by None e f = absurd (cc)
      by (Some a) e f =
          let own : id ≡ a.id = cc in
          ap (λ (n : ObjId). record net { acls = without_number (λ x. x.id) n net.acls }) own
          ∙ ap (λ (all : List Acl). record net { acls = all })
          (alone_goes (λ (x : Acl). x.id) is_like same_acl a net.acls e (rises (λ (x : Acl). x.id) net.acls sound.numbered.order.acls) agree sound.apart.acls)
