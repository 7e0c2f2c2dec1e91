-- What is written is read again.
use Rattle.std.proofs.Common.{◌≡◌, ℕ, ◌<◌, ◌≤◌, ◌^◌, List, [], ◌++◌, length, drop, Some, refl, ap, ◌∙◌, arith, length-append}
use Rattle.byteorder.specs.Endian.{little_bytes, little_number}
use Rattle.byteorder.specs.Numbers.{little_number-reads_back}
use Rattle.pcap_file.specs.declared.numbers.Order.TheVariants.{Little}
use Rattle.pcap_file.specs.declared.records.Record.{Record}
use Rattle.pcap_file.specs.declared.records.Next.TheVariants.{Whole}
use Rattle.pcap_file.specs.Header.{capture_order, kept_limit, header_bytes}
use Rattle.pcap_file.specs.Records.{record_at, begun_record, next_record, record_front, record_bytes}
use Rattle.pcap_file.proofs.Staying.{same_order, begun, same_record, whole_if, whole_stays}

pub header_back : (rest : List ℕ) → capture_order (header_bytes ++ rest) ≡ Some Little
header_back rest = same_order header_bytes rest (omega arith)

-- the record of these numbers
abbrev pub written : ℕ → ℕ → ℕ → Record
written seconds microseconds size = record { seconds = seconds; microseconds = microseconds; kept = size; original = size }

reads : (number : ℕ) → number < 256 ^ 4 → little_number 4 (little_bytes 4 number ++ []) ≡ number
reads number small = little_number-reads_back 4 number [] small

front_back : (seconds microseconds size : ℕ) → seconds < 2 ^ 32 → microseconds < 2 ^ 32 → size < 2 ^ 32 → record_at Little (record_front seconds microseconds size) ≡ written seconds microseconds size
unfolding record_front
front_back seconds microseconds size a b c =
    let s = reads seconds a in
    let m = reads microseconds b in
    let n = reads size c in
    λ i. record { seconds = s i; microseconds = m i; kept = n i; original = n i }

sixteen : (seconds microseconds size : ℕ) → length (record_front seconds microseconds size) ≡ 16
unfolding record_front
sixteen seconds microseconds size = refl

alone_back : (seconds microseconds : ℕ) (frame : List ℕ) → seconds < 2 ^ 32 → microseconds < 2 ^ 32 → length frame ≤ kept_limit
    → next_record Little (record_bytes seconds microseconds frame) ≡ Whole (written seconds microseconds (length frame))
alone_back seconds microseconds frame a b small =
    let front = record_front seconds microseconds (length frame) in
    let size = sixteen seconds microseconds (length frame) in
    let joined = length-append front frame in
    begun Little (front ++ frame) (omega (arith, size, joined))
    ∙ ap (λ q. begun_record q (front ++ frame)) (same_record Little front frame (omega (arith, size)) ∙ front_back seconds microseconds (length frame) a b (omega (arith, small)))
    ∙ whole_if (written seconds microseconds (length frame)) (front ++ frame) small (omega (arith, size, joined))

pub record_back : (seconds microseconds : ℕ) (frame rest : List ℕ) → seconds < 2 ^ 32 → microseconds < 2 ^ 32 → length frame ≤ kept_limit
    → next_record Little (record_bytes seconds microseconds frame ++ rest) ≡ Whole (written seconds microseconds (length frame))
record_back seconds microseconds frame rest a b small =
    whole_stays Little (record_bytes seconds microseconds frame) rest (written seconds microseconds (length frame)) (alone_back seconds microseconds frame a b small)

pub frame_back : (seconds microseconds : ℕ) (frame rest : List ℕ) → drop 16 (record_bytes seconds microseconds frame ++ rest) ≡ frame ++ rest
unfolding record_front
frame_back seconds microseconds frame rest = refl
