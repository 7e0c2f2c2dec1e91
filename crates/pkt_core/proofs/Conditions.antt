-- A packet's text, one field on.
use Rattle.std.proofs.Common.{◌≡◌, ◌≢◌, ◌<◌, ◌+◌, ℕ, Bool, true, List, ◌∷◌, ◌++◌, length, drop, slice_index_or, refl, sym, ◌∙◌, append_assoc}
use Rattle.std.proofs.lemmas.Bool.{ne_eqb}
use Rattle.std.proofs.lemmas.List.{at_drop_more}
use Rattle.nv_base.specs.declared.field.Field.{Field}
use Rattle.pkt_core.specs.Packet.{Values, value}
use Rattle.pkt_core.specs.Text.{condition_text, separator, conditions}

-- a field whose number is zero says nothing
says_nothing : (packet : Values) (f : Field) (fs : List Field) (before : Bool) → value packet f ≡ 0 → conditions packet (f ∷ fs) before ≡ conditions packet fs before
says_nothing packet f fs before zero = rw zero refl

-- each other says its condition
says_condition : (packet : Values) (f : Field) (fs : List Field) (before : Bool) → value packet f ≢ 0 → conditions packet (f ∷ fs) before ≡ separator before ++ condition_text f (value packet f) ++ conditions packet fs true
says_condition packet f fs before other = rw (ne_eqb (value packet f) 0 other) refl

-- so the fields from the next on say the same as from this one on, where this one says nothing
pub passed : (packet : Values) (fields : List Field) (i : ℕ) (d : Field) (before : Bool) → i < length fields → value packet (slice_index_or fields i d) ≡ 0 → conditions packet (drop (i + 1) fields) before ≡ conditions packet (drop i fields) before
passed packet fields i d before within zero =
    sym (at_drop_more (λ fs. conditions packet fs before) fields i d within ∙ says_nothing packet (slice_index_or fields i d) (drop (i + 1) fields) before zero)

-- and with this one's condition at the end, they say the same
pub appended : (packet : Values) (fields : List Field) (i : ℕ) (d : Field) (before : Bool) (there end first : List ℕ) (n : ℕ) → i < length fields
    → n ≡ value packet (slice_index_or fields i d) → n ≢ 0 → first ≡ separator before → end ≡ there ++ (first ++ condition_text (slice_index_or fields i d) n)
    → end ++ conditions packet (drop (i + 1) fields) true ≡ there ++ conditions packet (drop i fields) before
appended packet fields i d before there end first n within number other front grown =
    let f = slice_index_or fields i d in
    let one_on = at_drop_more (λ fs. conditions packet fs before) fields i d within ∙ says_condition packet f (drop (i + 1) fields) before (rw number at other) in
    rw (grown, front, number, one_on) (simp append_assoc)
