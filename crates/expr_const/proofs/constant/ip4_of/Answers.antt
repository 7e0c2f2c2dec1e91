use Rattle.std.proofs.Common.{refl}
use Rattle.expr_const.proofs.Shapes.{ip4_too_long}
use Rattle.expr_const.proofs.constant.ip4_of.Goals as goal

pub returns-then-text-gt-LONGEST_IP4 : goal.returns-then-text-gt-LONGEST_IP4
returns-then-text-gt-LONGEST_IP4 c = rw (ip4_too_long c.args.text.now c.if-text-gt-LONGEST_IP4.true) refl
