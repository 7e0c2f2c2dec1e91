-- Numbers of packets' fields: what changes one, what leaves it, and that packets of the same numbers are one.
use Rattle.std.proofs.Common.{◌≡◌, ℕ, ◌<◌, ◌^◌, Bool, true, false, cond, length, get_or, eqb, sym, ap, refl, subst, ◌∙◌, arith}
use Rattle.std.proofs.lemmas.Bool.{false≢true, eq-eqb, eqb-true}
use Rattle.std.proofs.lemmas.List.{get_or-set_same, get_or-set_other, length-set}
use Rattle.std.proofs.lemmas.Grind.{same_number_lists}
use Rattle.nv_base.specs.declared.field.Field.{Field}
use Rattle.nv_base.specs.declared.field.Field.TheVariants.{Inport}
use Rattle.nv_base.specs.Field.{field_count, field_width, all_fields}
use Rattle.pkt_core.specs.Packet.{Values, IsPacket, place, value, with_value, only}
use Rattle.pkt_core.proofs.Only.{place_at, place_within, field_at, only_value, length-only}

-- the number that a field was given
pub set_value : (packet : Values) (field : Field) (number : ℕ) → length packet ≡ field_count → value (with_value packet field number) field ≡ number
set_value packet field number long = get_or-set_same packet (place field) number 0 (rw long (place_within field))

-- another field's number
pub other_value : (packet : Values) (changed field : Field) (number : ℕ) → eqb (place changed) (place field) ≡ false → value (with_value packet changed number) field ≡ value packet field
other_value packet changed field number other = get_or-set_other packet (place changed) (place field) number 0 (λ same. false≢true (sym other ∙ eq-eqb (place changed) (place field) (sym same)))

pub with_length : (packet : Values) (field : Field) (number : ℕ) → length packet ≡ field_count → length (with_value packet field number) ≡ field_count
with_length packet field number long = length-set packet (place field) number ∙ long

-- fields at one place are one
pub same_place : (f g : Field) → place f ≡ place g → f ≡ g
same_place f g same = sym (field_at f f) ∙ ap (λ i. get_or all_fields i f) same ∙ field_at g f

-- packets of the same numbers are one
pub same_packets : (a b : Values) → length a ≡ field_count → length b ≡ field_count → ((field : Field) → value a field ≡ value b field) → a ≡ b
same_packets a b long also same =
    same_number_lists a b (long ∙ sym also) (λ k below.
    let within : k < field_count = rw (sym long) below in
    let at = place_at k Inport within in
    subst (λ i. get_or a i 0 ≡ get_or b i 0) at (same (get_or all_fields k Inport)))

-- a packet with a number that fits is a packet
pub fits_with : (packet : Values) (field : Field) (number : ℕ) → IsPacket packet → number < 2 ^ field_width field → IsPacket (with_value packet field number)
fits_with packet field number is fits = record { count = with_length packet field number is.count; fits = λ other. by other (eqb (place field) (place other)) refl }
  where
    by : (other : Field) (b : Bool) → eqb (place field) (place other) ≡ b → value (with_value packet field number) other < 2 ^ field_width other
    by other true same =
        let one : field ≡ other = same_place field other (eqb-true _ _ same) in
        subst (λ f. value (with_value packet field number) f < 2 ^ field_width f) one (rw (set_value packet field number is.count) fits)
    by other false apart = rw (other_value packet field other number apart) (is.fits other)

-- so is one with the fields of a kind alone
pub fits_only : (packet : Values) (of_kind : Field → Bool) → IsPacket packet → IsPacket (only packet of_kind)
fits_only packet of_kind is = record { count = length-only packet of_kind; fits = λ field. rw (only_value packet of_kind field) (by field (of_kind field)) }
  where
    positive : (field : Field) → 0 < 2 ^ field_width field
    positive field = omega (arith, is.fits field)

    by : (field : Field) (b : Bool) → cond b (value packet field) 0 < 2 ^ field_width field
    by field true = is.fits field
    by field false = positive field
