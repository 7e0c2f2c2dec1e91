-- A match holds of packets that agree in each field that its role allows, or of neither: it does not depend on the fields that the role forbids.
use Rattle.std.proofs.Common.{◌≡◌, true, false, sym, ap, refl, ◌∙◌, List, [], ◌∷◌}
use Rattle.std.specs.Prelude.{not, ◌&&◌, ◌||◌, ◌==◌}
use Rattle.std.specs.List.{AllByRecursion, list_all, list_any}
use Rattle.std.proofs.lemmas.Bool.{false≢true, and_parts}
use Rattle.nv_base.specs.declared.field.Field.{Field}
use Rattle.nv_base.specs.declared.field.Field.TheVariants.{EthType, IpProto, Icmp4Type}
use Rattle.nv_base.specs.declared.field.Prerequisite.{Prerequisite}
use Rattle.nv_base.specs.declared.field.Prerequisite.TheVariants.{Nothing, Ip4, Arp, Tcp, Udp, Icmp4, IcmpError}
use Rattle.nv_base.specs.Field.{field_width}
use Rattle.pkt_core.specs.Packet.{Values, value}
use Rattle.pkt_core.specs.Prerequisite.{carries, is_icmp_error, is_ip4, is_there, meets}
use Rattle.expr_core.specs.Formula.{Formula, Formulas}
use Rattle.expr_core.specs.Formula.Formula.{Leaf, Not, And, Or}
use Rattle.expr_core.specs.Formula.Formulas.{Nil, Cons}
use Rattle.expr_core.specs.Lookup.{Lookup}
use Rattle.expr_core.specs.Opposite.{opposite}
use Rattle.expr_core.specs.Tests.{test, tests}
use Rattle.expr_core.specs.TypeRules.{is_allowed, is_allowed_field, is_allowed_predicate, is_of_connection, bits_fit, may_be_compared, may_stand_alone, right_fits, width_of}
use Rattle.expr_core.specs.Width.{bits_of}
use Rattle.expr_core.specs.WellTyped.{AreTyped, IsTyped, is_typed_atom}
use Rattle.expr_core.specs.declared.comparison.Rel.{Rel}
use Rattle.expr_core.specs.declared.comparison.Right.{Right}
use Rattle.expr_core.specs.declared.part.Bits.{Bits}
use Rattle.expr_core.specs.declared.predicate.Pred.{Pred}
use Rattle.expr_core.specs.declared.predicate.Pred.TheVariants.{Ip, CtNew, CtEst, CtRel, CtRpl, CtInv, CtTrk}
use Rattle.expr_core.specs.declared.role.Role.{Role}
use Rattle.expr_core.specs.declared.role.Role.TheVariants as role
use Rattle.expr_core.specs.declared.subject.Subject.TheVariants as subject
use Rattle.expr_core.specs.declared.test.Test.{Test}
use Rattle.expr_core.specs.declared.typed.TypedAtom.{TypedAtom}
use Rattle.expr_core.specs.declared.typed.TypedAtom.TheVariants.{Truth, Bare, Holds, Compare}
use Rattle.expr_eval.specs.MatchMeaning.{part_of, passes, has, has_not, atom_holds, atom_negation_holds, holds, negation_holds, all_hold, some_hold, all_negations_hold, some_negation_holds}
use Rattle.expr_eval.specs.Relation.{relates}

-- ---- roles

-- a role allows what tells which fields a packet has, and with a predicate the fields that its tests are of
pub record IsClosed (may : Role) : Type 0 where
  pub eth_type : is_allowed_field may EthType ≡ true
  pub ip_proto : is_allowed_field may IpProto ≡ true
  pub icmp4_type : is_allowed_field may Icmp4Type ≡ true
  pub predicates : (p : Pred) → is_allowed_predicate may p ≡ true → AllByRecursion (λ (t : Test). is_allowed_field may t.field ≡ true) (tests p)

-- so does each role
pub is_closed : (may : Role) → IsClosed may
is_closed role.Row = record { eth_type = refl; ip_proto = refl; icmp4_type = refl; predicates = λ p may. each (tests p) }
  where
    each : (ts : List Test) → AllByRecursion (λ (t : Test). is_allowed_field role.Row t.field ≡ true) ts
    each [] = tt
    each (t ∷ ts) = (refl, each ts)
is_closed role.AclFrom = record { eth_type = refl; ip_proto = refl; icmp4_type = refl; predicates = of }
  where
    of : (p : Pred) → not (is_of_connection p) ≡ true → AllByRecursion (λ (t : Test). is_allowed_field role.AclFrom t.field ≡ true) (tests p)
    of CtNew may = absurd (false≢true may)
    of CtEst may = absurd (false≢true may)
    of CtRel may = absurd (false≢true may)
    of CtRpl may = absurd (false≢true may)
    of CtInv may = absurd (false≢true may)
    of CtTrk may = absurd (false≢true may)
    of Ip may = (refl, (refl, tt))
    of _ may = (refl, tt)
is_closed role.AclTo = record { eth_type = refl; ip_proto = refl; icmp4_type = refl; predicates = of }
  where
    of : (p : Pred) → not (is_of_connection p) ≡ true → AllByRecursion (λ (t : Test). is_allowed_field role.AclTo t.field ≡ true) (tests p)
    of CtNew may = absurd (false≢true may)
    of CtEst may = absurd (false≢true may)
    of CtRel may = absurd (false≢true may)
    of CtRpl may = absurd (false≢true may)
    of CtInv may = absurd (false≢true may)
    of CtTrk may = absurd (false≢true may)
    of Ip may = (refl, (refl, tt))
    of _ may = (refl, tt)
is_closed role.Micro = record { eth_type = refl; ip_proto = refl; icmp4_type = refl; predicates = of }
  where
    of : (p : Pred) → not (is_of_connection p) ≡ true → AllByRecursion (λ (t : Test). is_allowed_field role.Micro t.field ≡ true) (tests p)
    of CtNew may = absurd (false≢true may)
    of CtEst may = absurd (false≢true may)
    of CtRel may = absurd (false≢true may)
    of CtRpl may = absurd (false≢true may)
    of CtInv may = absurd (false≢true may)
    of CtTrk may = absurd (false≢true may)
    of Ip may = (refl, (refl, tt))
    of _ may = (refl, tt)

-- ---- matches

-- packets that agree in each field that a role allows
module _ (net : Lookup) (may : Role) (a b : Values) (agree : (field : Field) → is_allowed_field may field ≡ true → value a field ≡ value b field) where
  same_carries : (protocol : _) → carries a protocol ≡ carries b protocol
  same_carries protocol = rw (agree EthType (is_closed may).eth_type, agree IpProto (is_closed may).ip_proto) refl

  same_icmp_error : is_icmp_error a ≡ is_icmp_error b
  same_icmp_error = rw (same_carries 1, agree Icmp4Type (is_closed may).icmp4_type) refl

  same_meets : (needed : Prerequisite) → meets a needed ≡ meets b needed
  same_meets Nothing = refl
  same_meets Ip4 = rw (agree EthType (is_closed may).eth_type) refl
  same_meets Arp = rw (agree EthType (is_closed may).eth_type) refl
  same_meets Tcp = same_carries 6
  same_meets Udp = same_carries 17
  same_meets Icmp4 = same_carries 1
  same_meets IcmpError = same_icmp_error

  same_there : (field : Field) → is_there a field ≡ is_there b field
  same_there field = same_meets _

  same_part : (field : Field) (bits : Bits) → is_allowed_field may field ≡ true → part_of a field bits ≡ part_of b field bits
  same_part field bits allowed = ap (bits_of bits) (agree field allowed)

  same_has : (t : Test) → is_allowed_field may t.field ≡ true → has a t ≡ has b t
  same_has t allowed =
      ap (λ c. c && passes a t) (same_there t.field) ∙ ap (λ n. is_there b t.field && (n == t.number)) (same_part t.field t.bits allowed)

  same_has_not : (t : Test) → is_allowed_field may t.field ≡ true → has_not a t ≡ has_not b t
  same_has_not t allowed =
      ap (λ c. c && not (passes a t)) (same_there t.field) ∙ ap (λ n. is_there b t.field && not (n == t.number)) (same_part t.field t.bits allowed)

  one_has : (ts : List Test) → AllByRecursion (λ (t : Test). is_allowed_field may t.field ≡ true) ts → list_any (has a) ts ≡ list_any (has b) ts
  one_has [] all = refl
  one_has (t ∷ ts) all = ap (λ c. c || list_any (has a) ts) (same_has t all.0) ∙ ap (λ c. has b t || c) (one_has ts all.1)

  none_has : (ts : List Test) → AllByRecursion (λ (t : Test). is_allowed_field may t.field ≡ true) ts → list_all (has_not a) ts ≡ list_all (has_not b) ts
  none_has [] all = refl
  none_has (t ∷ ts) all = ap (λ c. c && list_all (has_not a) ts) (same_has_not t all.0) ∙ ap (λ c. has_not b t && c) (none_has ts all.1)

  same_compared : (field : Field) (bits : Bits) (rel : Rel) (right : Right) → is_allowed_field may field ≡ true
      → (is_there a field && relates net (field_width field) (part_of a field bits) rel right) ≡ (is_there b field && relates net (field_width field) (part_of b field bits) rel right)
  same_compared field bits rel right allowed =
      ap (λ c. c && relates net (field_width field) (part_of a field bits) rel right) (same_there field)
      ∙ ap (λ n. is_there b field && relates net (field_width field) n rel right) (same_part field bits allowed)

  bare_field : (f : Field) (bits : Bits) → is_typed_atom may (Bare f bits) ≡ true → is_allowed_field may f ≡ true
  bare_field f bits typed = (and_parts (is_allowed may (subject.Field f)) (bits_fit (width_of (subject.Field f)) bits && may_stand_alone (subject.Field f) bits) typed).0

  compared_field : (f : Field) (bits : Bits) (rel : Rel) (right : Right) → is_typed_atom may (Compare f bits rel right) ≡ true → is_allowed_field may f ≡ true
  compared_field f bits rel right typed =
      (and_parts (is_allowed may (subject.Field f)) ((bits_fit (width_of (subject.Field f)) bits && right_fits (width_of (subject.Field f)) bits right) && may_be_compared (subject.Field f) bits rel right) typed).0

  same_atom : (atom : TypedAtom) → is_typed_atom may atom ≡ true → atom_holds net a atom ≡ atom_holds net b atom
  same_atom (Truth c) typed = refl
  same_atom (Bare f bits) typed = same_has (test f bits 1) (bare_field f bits typed)
  same_atom (Holds p) typed = one_has (tests p) ((is_closed may).predicates p typed)
  same_atom (Compare f bits rel right) typed = same_compared f bits rel right (compared_field f bits rel right typed)

  same_atom_negation : (atom : TypedAtom) → is_typed_atom may atom ≡ true → atom_negation_holds net a atom ≡ atom_negation_holds net b atom
  same_atom_negation (Truth c) typed = refl
  same_atom_negation (Bare f bits) typed = same_has_not (test f bits 1) (bare_field f bits typed)
  same_atom_negation (Holds p) typed = none_has (tests p) ((is_closed may).predicates p typed)
  same_atom_negation (Compare f bits rel right) typed = same_compared f bits (opposite rel) right (compared_field f bits rel right typed)

  mutual
    -- a match holds of both or of neither
    pub holds_alike : (m : Formula TypedAtom) → IsTyped may m → holds net a m ≡ holds net b m
    holds_alike (Leaf atom) typed = same_atom atom typed
    holds_alike (Not m) typed = negation_alike m typed
    holds_alike (And ms) typed = all_alike ms typed
    holds_alike (Or ms) typed = some_alike ms typed

    -- so does its negation
    pub negation_alike : (m : Formula TypedAtom) → IsTyped may m → negation_holds net a m ≡ negation_holds net b m
    negation_alike (Leaf atom) typed = same_atom_negation atom typed
    negation_alike (Not m) typed = holds_alike m typed
    negation_alike (And ms) typed = some_negation_alike ms typed
    negation_alike (Or ms) typed = all_negations_alike ms typed

    all_alike : (ms : Formulas TypedAtom) → AreTyped may ms → all_hold net a ms ≡ all_hold net b ms
    all_alike Nil typed = refl
    all_alike (Cons m ms) typed = ap (λ c. c && all_hold net a ms) (holds_alike m typed.0) ∙ ap (λ c. holds net b m && c) (all_alike ms typed.1)

    some_alike : (ms : Formulas TypedAtom) → AreTyped may ms → some_hold net a ms ≡ some_hold net b ms
    some_alike Nil typed = refl
    some_alike (Cons m ms) typed = ap (λ c. c || some_hold net a ms) (holds_alike m typed.0) ∙ ap (λ c. holds net b m || c) (some_alike ms typed.1)

    all_negations_alike : (ms : Formulas TypedAtom) → AreTyped may ms → all_negations_hold net a ms ≡ all_negations_hold net b ms
    all_negations_alike Nil typed = refl
    all_negations_alike (Cons m ms) typed =
        ap (λ c. c && all_negations_hold net a ms) (negation_alike m typed.0) ∙ ap (λ c. negation_holds net b m && c) (all_negations_alike ms typed.1)

    some_negation_alike : (ms : Formulas TypedAtom) → AreTyped may ms → some_negation_holds net a ms ≡ some_negation_holds net b ms
    some_negation_alike Nil typed = refl
    some_negation_alike (Cons m ms) typed =
        ap (λ c. c || some_negation_holds net a ms) (negation_alike m typed.0) ∙ ap (λ c. negation_holds net b m || c) (some_negation_alike ms typed.1)
