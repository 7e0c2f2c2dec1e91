-- The numbers of objects.
use Rattle.std.specs.Prelude.{ℕ}

-- the numbers of objects are below this one (not from OVN)
abbrev pub number_limit : ℕ
number_limit = 4294967294

-- the numbers of the multicast groups of a switch: each port, and each port for unknown addresses (not from OVN)
abbrev pub flood_number : ℕ
flood_number = 4294967295

abbrev pub unknown_number : ℕ
unknown_number = 4294967294
