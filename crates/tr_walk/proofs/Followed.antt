-- Packets that differ in notes alone go to one backend, and differ in no more after their connection, or a backend, gave them addresses.
use Rattle.std.proofs.Common.{◌≡◌, ℕ, true, false, List, [], ◌∷◌, sym, refl, subst}
use Rattle.std.specs.Prelude.{Option, Some, None, slice_get}
use Rattle.std.specs.Option.{option_map_or}
use Rattle.std.proofs.lemmas.Bool.{false≢true}
use Rattle.nv_base.specs.declared.field.Field.{Field}
use Rattle.nv_base.specs.declared.field.Field.TheVariants.{Outport, Reg0, CtState, CtMarkBlocked, Ip4Src}
use Rattle.nv_base.specs.declared.field.Prerequisite.TheVariants.{Tcp, Udp}
use Rattle.pkt_core.specs.declared.tuple.Tuple.{Tuple}
use Rattle.pkt_core.specs.Packet.{Values, value, with_value, with_values}
use Rattle.pkt_core.specs.Prerequisite.{meets}
use Rattle.pkt_core.specs.Tuple.{with_tuple}
use Rattle.ct_core.specs.declared.entry.Entry.{Entry}
use Rattle.ct_core.specs.declared.look.Look.{Look}
use Rattle.ct_core.specs.declared.look.Look.TheVariants.{Invalid, New, Found}
use Rattle.ct_core.specs.declared.look.Side.{Side}
use Rattle.ct_core.specs.Entry.{tuple_on}
use Rattle.ct_core.specs.Translation.{followed, other, translated}
use Rattle.nb_records.specs.declared.balancer.Lb.{Lb}
use Rattle.net_meaning.specs.Balancing.{balanced_tuple}
use Rattle.ls_ct_laws.proofs.Alike.{alike_with, same_icmp_error, same_meets}
use Rattle.ls_ct_laws.proofs.Noted.{AreAlike, is_noted}
use Rattle.tr_router.proofs.Alike.{StandsFor, goes_on}
use Rattle.tr_router.proofs.Changed as changed
use Rattle.tr_router.proofs.Translated.{numbers_by, numbers_of, translated_as, tuple_numbers, with_tuple_as}

-- fields get numbers
alike_values : (numbers : List (Field × ℕ)) (a b : Values) → AreAlike a b → AreAlike (with_values a numbers) (with_values b numbers)
alike_values [] a b alike = alike
alike_values (n ∷ numbers) a b alike = alike_values numbers (with_value a n.0 n.1) (with_value b n.0 n.1) (alike_with a b alike n.0 n.1)

-- what goes on is not noted
going_unnoted : (field : Field) → goes_on field ≡ true → is_noted field ≡ false
going_unnoted Reg0 going = absurd (false≢true going)
going_unnoted CtState going = absurd (false≢true going)
going_unnoted CtMarkBlocked going = absurd (false≢true going)
going_unnoted _ going = refl

module _ (a b : Values) (alike : AreAlike a b) where
  pub alike_with_tuple : (t : Tuple) → AreAlike (with_tuple a t) (with_tuple b t)
  alike_with_tuple t =
      subst (λ x. AreAlike x (with_tuple b t)) (sym (with_tuple_as a t))
      (subst (λ y. AreAlike (with_values a (tuple_numbers (meets a Tcp) (meets a Udp) t)) y) (sym (with_tuple_as b t))
      (subst (λ (numbers : List (Field × ℕ)). AreAlike (with_values a (tuple_numbers (meets a Tcp) (meets a Udp) t)) (with_values b numbers))
      (λ i. tuple_numbers (same_meets a b alike Tcp i) (same_meets a b alike Udp i) t) (alike_values (tuple_numbers (meets a Tcp) (meets a Udp) t) a b alike)))

  alike_translated : (e : Entry) (side : Side) → AreAlike (translated e side a) (translated e side b)
  alike_translated e side =
      subst (λ x. AreAlike x (translated e side b)) (sym (translated_as e side a))
      (subst (λ y. AreAlike (with_values a (numbers_of e side a)) y) (sym (translated_as e side b))
      (subst (λ (numbers : List (Field × ℕ)). AreAlike (with_values a (numbers_of e side a)) (with_values b numbers))
      (λ i. numbers_by (same_icmp_error a b alike i) (same_meets a b alike Tcp i) (same_meets a b alike Udp i) (alike.same Ip4Src refl i) (tuple_on side e) (tuple_on (other side) e))
      (alike_values (numbers_of e side a) a b alike)))

  pub alike_followed : (conns : List Entry) (found : Look) → AreAlike (followed conns a found) (followed conns b found)
  alike_followed conns Invalid = alike
  alike_followed conns New = alike
  alike_followed conns (Found place side related blocked) = by (slice_get conns place)
    where
      by : (found : Option Entry) → AreAlike (option_map_or (λ (e : Entry). translated e side a) found a) (option_map_or (λ (e : Entry). translated e side b) found b)
      by None = alike
      by (Some e) = alike_translated e side

  stands : StandsFor (value a Outport) a b
  stands = record { long_own = alike.long_a; long = alike.long_b; same = λ field going. alike.same field (going_unnoted field going); leaves = refl }

  pub same_balanced : (lbs : List Lb) → balanced_tuple lbs a ≡ balanced_tuple lbs b
  same_balanced = changed.same_balanced (value a Outport) a b stands
