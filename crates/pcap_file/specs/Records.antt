-- The records of a capture (pcap-savefile(5)).
use Rattle.std.specs.Prelude.{ℕ, ◌+◌, ◌==◌, nat_lt, List, ◌++◌, length, if◌then◌else◌}
use Rattle.byteorder.specs.Endian.{little_bytes}
use Rattle.pcap_file.specs.declared.numbers.Order.{Order}
use Rattle.pcap_file.specs.declared.records.Record.{Record}
use Rattle.pcap_file.specs.declared.records.Next.{Next}
use Rattle.pcap_file.specs.declared.records.Next.TheVariants.{End, Whole, Cut, TooLong}
use Rattle.pcap_file.specs.Numbers.{number_in}
use Rattle.pcap_file.specs.Header.{kept_limit}

-- what a record says in its first 16 bytes, in front of the frame
abbrev pub record_at : Order → List ℕ → Record
record_at order bytes = record { seconds = number_in order 0 4 bytes; microseconds = number_in order 4 4 bytes; kept = number_in order 8 4 bytes; original = number_in order 12 4 bytes }

-- the record of which the first 16 bytes are there
abbrev pub begun_record : Record → List ℕ → Next
begun_record r bytes = if nat_lt kept_limit r.kept then TooLong else (if nat_lt (length bytes) (16 + r.kept) then Cut else Whole r)

-- the first record of these bytes
abbrev pub next_record : Order → List ℕ → Next
next_record order bytes = if length bytes == 0 then End else (if nat_lt (length bytes) 16 then Cut else begun_record (record_at order bytes) bytes)

-- what is written in front of a frame of this length that is kept whole: in little-endian order
unfoldable pub record_front : ℕ → ℕ → ℕ → List ℕ
record_front seconds microseconds size = little_bytes 4 seconds ++ little_bytes 4 microseconds ++ little_bytes 4 size ++ little_bytes 4 size

-- the record of a frame, as it is written
abbrev pub record_bytes : ℕ → ℕ → List ℕ → List ℕ
record_bytes seconds microseconds frame = record_front seconds microseconds (length frame) ++ frame
