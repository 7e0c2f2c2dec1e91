-- Cubes: sets of packets, each told by bits of fields (not from OVN).
use Rattle.std.specs.Prelude.{ℕ, Bool, List, map, bit_and, bit_or}
use Rattle.std.specs.List.{list_any, list_all}
use Rattle.nv_base.specs.declared.field.Field.{Field}
use Rattle.nv_base.specs.Field.{all_fields}
use Rattle.pkt_core.specs.Packet.{Values, value, with_value, zero_packet}
use Rattle.expr_sets.specs.Members.{agree}
use Rattle.cube_core.specs.declared.cube.Cube.{Cube}

-- the cube covers a packet where each masked bit of each field is the value's
abbrev pub covers : Cube → Values → Bool
covers cube packet = list_all (λ field. agree (value cube.mask field) (value packet field) (value cube.value field)) all_fields

-- one of the cubes covers the packet
abbrev pub cover : List Cube → Values → Bool
cover cubes packet = list_any (λ cube. covers cube packet) cubes

-- the packet of these numbers
abbrev pub packet_of : (Field → ℕ) → Values
packet_of number = map number all_fields

-- two cubes share a packet where they have the same value in the bits that both mask
abbrev pub share : Cube → Cube → Bool
share a b = list_all (λ field. agree (bit_and (value a.mask field) (value b.mask field)) (value a.value field) (value b.value field)) all_fields

-- the bits of a field's value that a cube masks
abbrev pub asked : Cube → Field → ℕ
asked cube field = bit_and (value cube.value field) (value cube.mask field)

-- what two cubes that share a packet cover both: the masked bits of either
abbrev pub meet : Cube → Cube → Cube
meet a b = record {
  value = packet_of (λ field. bit_or (asked a field) (asked b field));
  mask = packet_of (λ field. bit_or (value a.mask field) (value b.mask field));
}

-- the cube without mask, which covers every packet
abbrev pub everything : Cube
everything = record { value = zero_packet; mask = zero_packet }

-- the packets whose field agrees with a number in the bits of a mask
abbrev pub of_field : Field → ℕ → ℕ → Cube
of_field field mask number = record { value = with_value zero_packet field (bit_and number mask); mask = with_value zero_packet field mask }
