use Rattle.std.proofs.Common.{◌≡◌, ◌-◌, ◌≤◌, ◌++◌}
use Rattle.nb_text.specs.Commands.{script}
use Rattle.nb_dump.specs.inner.Parts.{edits_at, first_edits}
use Rattle.nb_dump.proofs.parts.put_part.Given as goal

-- the commands for the numbers so far come after what was there
abbrev pub invariant-loop-number : goal.invariant-loop-number
invariant-loop-number l = record {
  under : l.low ≤ l.records.next - 1;
  written : l.out.items ≡ l.fn.out.items ++ script (first_edits (edits_at l.part l.records) l.low);
}

abbrev pub decreases-loop-number : goal.decreases-loop-number
decreases-loop-number l = 4294967296 - l.low
