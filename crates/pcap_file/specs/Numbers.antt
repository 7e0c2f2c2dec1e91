-- Numbers in a capture, whose bytes stand in either order.
use Rattle.std.specs.Prelude.{ℕ, List, drop}
use Rattle.byteorder.specs.Endian.{big_number, little_number}
use Rattle.pcap_file.specs.declared.numbers.Order.{Order}
use Rattle.pcap_file.specs.declared.numbers.Order.TheVariants.{Big, Little}

-- the number in so many bytes from a place on, in this order
abbrev pub number_in : Order → ℕ → ℕ → List ℕ → ℕ
number_in Big place count bytes = big_number count (drop place bytes)
number_in Little place count bytes = little_number count (drop place bytes)
