use Rattle.std.proofs.Common.{arith}
use Rattle.nb_dump.specs.inner.Parts.{edits_at}
use Rattle.nb_dump.proofs.Gaps.{up_to, with_next}
use Rattle.nb_dump.proofs.Scripts.{scripts}
use Rattle.nb_dump.proofs.parts.put_part.Goals as goal

pub loop-number-preserved : goal.loop-number-preserved
loop-number-preserved c =
    let edits = edits_at c.args.part c.args.records.now in
    let more = with_next edits c.loop-number.low c.in-Some.number.0 c.in-Some.ensures.above c.in-Some.ensures.some in
    record {
      under = omega (arith, c.in-Some.ensures.below);
      written = rw more (scripts _ _ _ _ _ c.loop-number.invariant.written c.in_ok-put_at.ensures.ok);
    }

pub returns-clause-ok : goal.returns-clause-ok
returns-clause-ok c =
    let edits = edits_at c.args.part c.args.records.now in
    rw (up_to edits c.loop-number.low c.args.records.now.next c.loop-number.invariant.under c.in_default.ensures.none) c.loop-number.invariant.written
