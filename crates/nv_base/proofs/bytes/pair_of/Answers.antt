use Rattle.std.proofs.Common.{arith}
use Rattle.nv_base.proofs.Digits.{pair-lt}
use Rattle.nv_base.proofs.bytes.pair_of.Goals as goal

pub overflow_cast-result : goal.overflow_cast-result
overflow_cast-result c = omega (arith, pair-lt c.args.part.now c.in_ok-byte.byte c.if-part-eq2.true c.in_ok-byte.ensures)

pub returns-in_ok-byte-clause-small : goal.returns-in_ok-byte-clause-small
returns-in_ok-byte-clause-small c = pair-lt c.args.part.now c.in_ok-byte.byte c.if-part-eq2.true c.in_ok-byte.ensures
