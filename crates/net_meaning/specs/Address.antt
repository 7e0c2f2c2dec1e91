-- Which MACs are multicast.
use Rattle.std.specs.Prelude.{ℕ, ◌/◌, ◌%◌, ◌^◌, Bool, ◌==◌}

-- a multicast MAC: the lowest bit of the byte that is sent first is set, which is bit 40 of the number
-- (RFC 7042, section 2.1)
abbrev pub is_multicast : ℕ → Bool
is_multicast mac = (mac / 2 ^ 40) % 2 == 1
