use Rattle.std.proofs.Common.{arith}
use Rattle.expr_core.proofs.Pairs.{one_falls}
use Rattle.pkt_micro.proofs.said.+put_said.Goals as goal

pub put_all_said-put_said-requires : goal.put_all_said-put_said-requires
put_all_said-put_said-requires t c = (omega (arith, one_falls c.args.operands.now _ _ c.loop-operand-test.true c.operand-item.is, c.decreases), tt)
