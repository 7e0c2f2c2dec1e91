-- A packet: a number for each field.
use Rattle.std.specs.Prelude.{◌≡◌, ℕ, ◌-◌, ◌<◌, ◌^◌, length, Bool, not, if◌then◌else◌, List, [], ◌∷◌, map, slice_index, slice_set, replicate}
use Rattle.nv_base.specs.declared.field.Field.{Field}
use Rattle.nv_base.specs.Field.{field_count, field_number, field_width, is_header, all_fields}

-- a packet's numbers, in the order of the fields
abbrev pub Values : Type 0
Values = List ℕ

-- the place of a field's number
abbrev pub place : Field → ℕ
place field = field_number field - 1

-- the number of a field
abbrev pub value : Values → Field → ℕ
value packet field = slice_index packet (place field)

-- the packet with this number for the field
abbrev pub with_value : Values → Field → ℕ → Values
with_value packet field number = slice_set packet (place field) number

-- the packet of zeros
abbrev pub zero_packet : Values
zero_packet = replicate field_count 0

-- the packet with this number for each of these fields, one after the other
abbrev pub with_values : Values → List (Field × ℕ) → Values
with_values packet [] = packet
with_values packet (p ∷ ps) = with_values (with_value packet p.0 p.1) ps

-- the packet with the numbers of two fields exchanged
abbrev pub exchanged : Values → Field → Field → Values
exchanged packet f g = with_value (with_value packet f (value packet g)) g (value packet f)

-- the number of a field of a kind, zero of another
abbrev pub value_only : Values → (Field → Bool) → Field → ℕ
value_only packet of_kind field = if of_kind field then value packet field else 0

-- the packet with the fields of a kind alone
unfoldable pub only : Values → (Field → Bool) → Values
only packet of_kind = map (value_only packet of_kind) all_fields

-- the packet with its header fields alone
abbrev pub headers : Values → Values
headers packet = only packet is_header

-- whether the field is a working field
abbrev pub is_working : Field → Bool
is_working field = not (is_header field)

-- the packet with its working fields alone
abbrev pub workings : Values → Values
workings packet = only packet is_working

-- a packet: a number for each field, which fits the field's width
pub record IsPacket (packet : Values) : Type 0 where
  pub count : length packet ≡ field_count
  pub fits : (field : Field) → value packet field < 2 ^ field_width field
