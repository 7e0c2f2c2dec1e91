use Rattle.std.proofs.Common.{◌≡◌, ◌≤◌, ◌+◌, ◌*◌, drop}
use Rattle.pkt_frame.specs.Checksum.{word_sum}
use Rattle.pkt_frame.proofs.sum.word_sum.Given as goal

abbrev pub invariant-loop-word : goal.invariant-loop-word
invariant-loop-word l = (l.sum + word_sum (drop (2 * l.word) l.header) ≡ word_sum l.header) × (l.sum ≤ l.word * 0xffff)
