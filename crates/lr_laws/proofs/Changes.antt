-- Numbers that a packet's fields are given, one after the other: what each field has in the end, and which lists of such changes come to the
-- same.
use Rattle.std.proofs.Common.{◌≡◌, ℕ, Bool, true, false, cond, List, [], ◌∷◌, length, eqb, sym, ap, refl, ◌∙◌}
use Rattle.std.proofs.lemmas.Bool.{eqb-true}
use Rattle.nv_base.specs.Field.{field_count}
use Rattle.nv_base.specs.declared.field.Field.{Field}
use Rattle.pkt_core.specs.Packet.{Values, place, value, with_value, with_values}
use Rattle.ls_laws.proofs.Packets.{other_value, same_packets, same_place, set_value, with_length}

-- what a field has after changes, where it had a number before
abbrev pub number_after : List (Field × ℕ) → Field → ℕ → ℕ
number_after [] field old = old
number_after (c ∷ changes) field old = number_after changes field (cond (eqb (place c.0) (place field)) c.1 old)

pub changed_length : (packet : Values) (changes : List (Field × ℕ)) → length packet ≡ field_count → length (with_values packet changes) ≡ field_count
changed_length packet [] long = long
changed_length packet (c ∷ changes) long = changed_length (with_value packet c.0 c.1) changes (with_length packet c.0 c.1 long)

pub changed_value : (packet : Values) (changes : List (Field × ℕ)) (field : Field) → length packet ≡ field_count → value (with_values packet changes) field ≡ number_after changes field (value packet field)
changed_value packet [] field long = refl
changed_value packet (c ∷ changes) field long =
    changed_value (with_value packet c.0 c.1) changes field (with_length packet c.0 c.1 long) ∙ ap (number_after changes field) (by (eqb (place c.0) (place field)) refl)
  where
    by : (b : Bool) → eqb (place c.0) (place field) ≡ b → value (with_value packet c.0 c.1) field ≡ cond b c.1 (value packet field)
    by true same = ap (value (with_value packet c.0 c.1)) (sym (same_place c.0 field (eqb-true _ _ same))) ∙ set_value packet c.0 c.1 long
    by false apart = other_value packet c.0 field c.1 apart

-- changes after which each field has the same are the same
pub same_changes : (packet : Values) (some others : List (Field × ℕ)) → length packet ≡ field_count → ((field : Field) (old : ℕ) → number_after some field old ≡ number_after others field old)
    → with_values packet some ≡ with_values packet others
same_changes packet some others long alike =
    same_packets (with_values packet some) (with_values packet others) (changed_length packet some long) (changed_length packet others long)
    (λ field. changed_value packet some field long ∙ alike field (value packet field) ∙ sym (changed_value packet others field long))
