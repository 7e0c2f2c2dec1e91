-- The matches of ACLs hold of packets that are alike, or of neither: so the ACLs decide one thing.
use Rattle.std.proofs.Common.{◌≡◌, Bool, true, false, cond, List, [], ◌∷◌, ap, refl, ◌∙◌}
use Rattle.std.specs.Prelude.{None, ◌&&◌, ◌||◌, fold}
use Rattle.std.specs.List.{AllByRecursion, filter, list_any}
use Rattle.std.proofs.lemmas.Bool.{false≢true}
use Rattle.nv_base.specs.declared.object.ObjId.{ObjId}
use Rattle.nv_base.specs.declared.field.Field.{Field}
use Rattle.nv_base.specs.declared.field.Field.TheVariants.{Reg0, CtState, CtMarkBlocked}
use Rattle.pkt_core.specs.Packet.{Values}
use Rattle.expr_check.specs.Printed.{IsPrintable}
use Rattle.expr_core.specs.TypeRules.{is_allowed_field}
use Rattle.expr_core.specs.WellTyped.{IsTyped}
use Rattle.expr_eval.specs.MatchMeaning.{holds}
use Rattle.nb_records.specs.declared.acl.Acl.{Acl}
use Rattle.nb_records.specs.declared.acl.Way.{Way}
use Rattle.nb_records.specs.declared.acl.Way.TheVariants.{From, To}
use Rattle.nb_read.specs.Readings.{role_of}
use Rattle.nb_model.specs.Applies.{acls, applies}
use Rattle.nb_model.specs.Belongs.{same_way}
use Rattle.nb_model.specs.Names.{names}
use Rattle.nb_model.specs.Network.{Network}
use Rattle.nb_model.specs.Sound.{IsSound}
use Rattle.net_meaning.specs.AclVerdict.{deciding, higher}
use Rattle.net_meaning.specs.Tracked.{is_stateless, passes_untracked}
use Rattle.ls_ct_laws.proofs.Matches.{holds_alike}
use Rattle.ls_ct_laws.proofs.Noted.{AreAlike, is_noted}

-- ---- what a match of an ACL may ask for

-- no match of an ACL may ask for what stages note
unnoted : (way : Way) (field : Field) → is_allowed_field (role_of way) field ≡ true → is_noted field ≡ false
unnoted From Reg0 may = absurd (false≢true may)
unnoted From CtState may = absurd (false≢true may)
unnoted From CtMarkBlocked may = absurd (false≢true may)
unnoted From _ may = refl
unnoted To Reg0 may = absurd (false≢true may)
unnoted To CtState may = absurd (false≢true may)
unnoted To CtMarkBlocked may = absurd (false≢true may)
unnoted To _ may = refl

-- ---- ACLs

-- the match of an ACL of a sound network is typed for its direction
pub typed_match : (net : Network) → IsSound net → AllByRecursion (λ (acl : Acl). IsTyped (role_of acl.way) acl.matching) net.acls
typed_match net sound = each net.acls sound.readable.matches
  where
    each : (list : List Acl) → AllByRecursion (λ (acl : Acl). IsPrintable (role_of acl.way) acl.matching) list → AllByRecursion (λ (acl : Acl). IsTyped (role_of acl.way) acl.matching) list
    each [] all = tt
    each (acl ∷ list) all = (all.0.typed, each list all.1)

module _ (net : Network) (sound : IsSound net) (a b : Values) (alike : AreAlike a b) where
  -- it holds of both or of neither
  pub acl_alike : (acl : Acl) → IsTyped (role_of acl.way) acl.matching → holds (names net) a acl.matching ≡ holds (names net) b acl.matching
  acl_alike acl typed = holds_alike (names net) (role_of acl.way) a b (λ field may. alike.same field (unnoted acl.way field may)) acl.matching typed

  -- what is picked of a list whose matches are typed
  kept_typed : (p : Acl → Bool) (list : List Acl) → AllByRecursion (λ (acl : Acl). IsTyped (role_of acl.way) acl.matching) list
      → AllByRecursion (λ (acl : Acl). IsTyped (role_of acl.way) acl.matching) (filter p list)
  kept_typed p [] all = tt
  kept_typed p (acl ∷ list) all = by (p acl) (kept_typed p list all.1)
    where
      by : (c : Bool) → AllByRecursion (λ (x : Acl). IsTyped (role_of x.way) x.matching) (filter p list) → AllByRecursion (λ (x : Acl). IsTyped (role_of x.way) x.matching) (cond c (acl ∷ filter p list) (filter p list))
      by true rest = (all.0, rest)
      by false rest = rest

  typed_acls : (switch : ObjId) (way : Way) → AllByRecursion (λ (acl : Acl). IsTyped (role_of acl.way) acl.matching) (acls net switch way)
  typed_acls switch way = kept_typed (λ (acl : Acl). applies net switch acl && same_way acl.way way) net.acls (typed_match net sound)

  -- of which the same hold of both
  same_holding : (list : List Acl) → AllByRecursion (λ (acl : Acl). IsTyped (role_of acl.way) acl.matching) list
      → filter (λ (acl : Acl). holds (names net) a acl.matching) list ≡ filter (λ (acl : Acl). holds (names net) b acl.matching) list
  same_holding [] all = refl
  same_holding (acl ∷ list) all =
      ap (λ rest. cond (holds (names net) a acl.matching) (acl ∷ rest) rest) (same_holding list all.1)
      ∙ ap (λ c. cond c (acl ∷ filter (λ (x : Acl). holds (names net) b x.matching) list) (filter (λ (x : Acl). holds (names net) b x.matching) list)) (acl_alike acl all.0)

  same_stateless : (list : List Acl) → AllByRecursion (λ (acl : Acl). IsTyped (role_of acl.way) acl.matching) list
      → list_any (λ (acl : Acl). is_stateless acl.verdict && holds (names net) a acl.matching) list ≡ list_any (λ (acl : Acl). is_stateless acl.verdict && holds (names net) b acl.matching) list
  same_stateless [] all = refl
  same_stateless (acl ∷ list) all =
      ap (λ c. (is_stateless acl.verdict && c) || list_any (λ (x : Acl). is_stateless x.verdict && holds (names net) a x.matching) list) (acl_alike acl all.0)
      ∙ ap (λ c. (is_stateless acl.verdict && holds (names net) b acl.matching) || c) (same_stateless list all.1)

  -- one ACL decides on both
  pub same_deciding : (switch : ObjId) (way : Way) → deciding net switch way a ≡ deciding net switch way b
  same_deciding switch way = ap (fold higher None) (same_holding (acls net switch way) (typed_acls switch way))

  -- both pass untracked, or neither does
  pub same_untracked : (switch : ObjId) (way : Way) → passes_untracked net switch way a ≡ passes_untracked net switch way b
  same_untracked switch way = same_stateless (acls net switch way) (typed_acls switch way)
