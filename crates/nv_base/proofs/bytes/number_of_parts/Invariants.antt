use Rattle.std.proofs.Common.{◌≡◌, ◌==◌, ◌<◌, ◌^◌, ◌-◌}
use Rattle.std.specs.List.{slice_split}
use Rattle.nv_base.specs.Bytes.{number_of_parts}
use Rattle.nv_base.specs.inner.Bytes.{byte_of}
use Rattle.nv_base.proofs.Parts.{text_after}
use Rattle.nv_base.proofs.bytes.number_of_parts.Given as goal

abbrev pub invariant-loop-seen : goal.invariant-loop-seen
invariant-loop-seen l = record {
  small : l.value < 256 ^ l._seen;
  same : text_after (byte_of l.spelling) l.separator l.value (l.count - l._seen) l.rest ≡ number_of_parts (byte_of l.spelling) l.count (slice_split (λ b. b == l.separator) l.text);
}
