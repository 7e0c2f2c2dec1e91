-- The names of objects.
use Rattle.std.specs.Prelude.{ℕ, Bool, not, ◌&&◌, ◌||◌, ◌==◌, List, length, nat_lt, nat_le, nat_eq, codes}
use Rattle.std.specs.List.{list_all, starts_with}
use Rattle.std.specs.Cmp.Lexicographic.{pointwise}

-- a quotation mark, single or double
abbrev pub is_quote : ℕ → Bool
is_quote byte = (byte == 39) || (byte == 34)

-- a printable ASCII byte that is no space, quotation mark or backslash
abbrev pub is_name_byte : ℕ → Bool
is_name_byte byte = nat_lt 32 byte && nat_lt byte 127 && not (is_quote byte) && not (byte == 92)

-- A port, a datapath and a load balancer are named by 1 to 127 such bytes, which do not begin with `-`,
-- as an option does, nor with `_MC_`, as a multicast group's name does (not from OVN).
abbrev pub is_object_name : List ℕ → Bool
is_object_name bytes =
    nat_lt 0 (length bytes) && nat_le (length bytes) 127 && list_all is_name_byte bytes
    && not (starts_with nat_eq bytes (codes "-")) && not (starts_with nat_eq bytes (codes "_MC_"))

-- the names of the multicast groups of a switch: each port, and each port for unknown addresses (ovn-northd(8))
abbrev pub flood_group : List ℕ
flood_group = codes "_MC_flood"

abbrev pub unknown_group : List ℕ
unknown_group = codes "_MC_unknown"

-- a string of a match or of an action may hold the name of a port or of a multicast group
abbrev pub is_quotable : List ℕ → Bool
is_quotable name = is_object_name name || pointwise nat_eq name flood_group || pointwise nat_eq name unknown_group
