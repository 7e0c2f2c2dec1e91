-- What stages note of a packet on its way: in the first register, and of its connection. Packets that differ in nothing else are alike.
use Rattle.std.proofs.Common.{◌≡◌, ℕ, Bool, true, false, cond, length, eqb, sym, ap, refl, subst, ◌∙◌}
use Rattle.std.proofs.lemmas.Bool.{false≢true, eqb-true}
use Rattle.nv_base.specs.declared.field.Field.{Field}
use Rattle.nv_base.specs.declared.field.Field.TheVariants.{Reg0, CtState, CtMarkBlocked}
use Rattle.nv_base.specs.Field.{field_count}
use Rattle.pkt_core.specs.Packet.{Values, place, value, with_value}
use Rattle.ls_laws.proofs.Packets.{set_value, other_value, with_length, same_place}

-- the fields that stages note in
abbrev pub is_noted : Field → Bool
is_noted Reg0 = true
is_noted CtState = true
is_noted CtMarkBlocked = true
is_noted _ = false

-- packets that differ in these alone
pub record AreAlike (a b : Values) : Type 0 where
  pub long_a : length a ≡ field_count
  pub long_b : length b ≡ field_count
  pub same : (field : Field) → is_noted field ≡ false → value a field ≡ value b field

-- ---- alike

pub alike_self : (packet : Values) → length packet ≡ field_count → AreAlike packet packet
alike_self packet long = record { long_a = long; long_b = long; same = λ field other. refl }

-- ---- a field's number after a change

-- the number that was given, where it is the field that was changed
pub value_with : (packet : Values) (changed field : Field) (number : ℕ) → length packet ≡ field_count
    → value (with_value packet changed number) field ≡ cond (eqb (place changed) (place field)) number (value packet field)
value_with packet changed field number long = by (eqb (place changed) (place field)) refl
  where
    by : (b : Bool) → eqb (place changed) (place field) ≡ b → value (with_value packet changed number) field ≡ cond b number (value packet field)
    by true one = subst (λ (f : Field). value (with_value packet changed number) f ≡ number) (same_place changed field (eqb-true _ _ one)) (set_value packet changed number long)
    by false apart = other_value packet changed field number apart

-- a field of which the kind differs is another one
pub apart_by : (of_kind : Field → Bool) (f g : Field) → of_kind f ≡ true → of_kind g ≡ false → eqb (place f) (place g) ≡ false
apart_by of_kind f g is is_not = by (eqb (place f) (place g)) refl
  where
    by : (b : Bool) → eqb (place f) (place g) ≡ b → b ≡ false
    by false apart = refl
    by true one = absurd (false≢true (sym is_not ∙ sym (ap of_kind (same_place f g (eqb-true _ _ one))) ∙ is))

-- what is noted tells no packets apart
pub alike_noted : (a b : Values) (field : Field) (number : ℕ) → is_noted field ≡ true → AreAlike a b → AreAlike (with_value a field number) b
alike_noted a b field number is alike = record {
  long_a = with_length a field number alike.long_a;
  long_b = alike.long_b;
  same = λ other not. other_value a field other number (apart_by is_noted field other is not) ∙ alike.same other not;
}
