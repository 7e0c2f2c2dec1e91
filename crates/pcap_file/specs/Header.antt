-- The header of a capture (pcap-savefile(5)).
use Rattle.std.specs.Prelude.{ℕ, ◌==◌, nat_le, Bool, ◌&&◌, List, ◌++◌, length, replicate, Option, Some, None, if◌then◌else◌}
use Rattle.byteorder.specs.Endian.{little_bytes}
use Rattle.pcap_file.specs.declared.numbers.Order.{Order}
use Rattle.pcap_file.specs.declared.numbers.Order.TheVariants.{Big, Little}
use Rattle.pcap_file.specs.Numbers.{number_in}

-- a header of 24 bytes in this order is there: the magic number of captures with microseconds, version 2.4, link type 1, which is Ethernet; its other 12 bytes are not looked at
abbrev pub has_header : Order → List ℕ → Bool
has_header order bytes =
    nat_le 24 (length bytes) && (number_in order 0 4 bytes == 0xa1b2c3d4)
    && (number_in order 4 2 bytes == 2) && (number_in order 6 2 bytes == 4) && (number_in order 20 4 bytes == 1)

-- the order of a capture's numbers, where it has a header
abbrev pub capture_order : List ℕ → Option Order
capture_order bytes = if has_header Big bytes then Some Big else (if has_header Little bytes then Some Little else None)

-- the most bytes of a frame that a record keeps
abbrev pub kept_limit : ℕ
kept_limit = 262144

-- the header that is written: in little-endian order, with that limit, and zero for the time zone and the accuracy
abbrev pub header_bytes : List ℕ
header_bytes = little_bytes 4 0xa1b2c3d4 ++ little_bytes 2 2 ++ little_bytes 2 4 ++ replicate 8 0 ++ little_bytes 4 kept_limit ++ little_bytes 4 1
