use Rattle.std.proofs.Common.{refl}
use Rattle.expr_const.proofs.Shapes.{mac_not_so_long}
use Rattle.expr_const.proofs.constant.mac_of.Goals as goal

pub returns-then-text-ne-MAC_LEN : goal.returns-then-text-ne-MAC_LEN
returns-then-text-ne-MAC_LEN c = rw (mac_not_so_long c.args.text.now c.if-text-ne-MAC_LEN.true) refl
