use Rattle.std.proofs.Common.{◌≡◌, List, ℕ, length, drop, None, true, sym, ap, ◌∙◌}
use Rattle.std.specs.Prelude.{if◌then◌else◌}
use Rattle.std.proofs.lemmas.Bool.{le-leb}
use Rattle.pkt_core.specs.Packet.{with_values, zero_packet}
use Rattle.pkt_frame.specs.Bytes.{number_at, has}
use Rattle.pkt_frame.specs.Read.{ethernet_fields, with_payload, frame}
use Rattle.pkt_frame.proofs.read.read_frame.Goals as goal

-- where an Ethernet header is there, the packet is that of what it carries
there : (bytes : List ℕ) → has 14 bytes ≡ true → frame bytes ≡ with_payload (number_at 12 2 bytes) (drop 14 bytes) (with_values zero_packet (ethernet_fields bytes))
there bytes long = ap (λ b. if b then with_payload (number_at 12 2 bytes) (drop 14 bytes) (with_values zero_packet (ethernet_fields bytes)) else None) long

pub returns-then-bytes-ge-ETHERNET : goal.returns-then-bytes-ge-ETHERNET
returns-then-bytes-ge-ETHERNET c =
    let bytes = c.args.bytes.now in
    c.with_payload.ensures
    ∙ (λ i. with_payload (c.number_at.ensures.value i) (c.after.ensures i) (c.ethernet.ensures i))
    ∙ sym (there bytes (le-leb 14 (length bytes) c.if-bytes-ge-ETHERNET.true))
