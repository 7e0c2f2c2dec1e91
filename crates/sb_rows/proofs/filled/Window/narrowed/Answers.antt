use Rattle.std.proofs.Common.{◌<◌, length, arith}
use Rattle.sb_rows.proofs.InOrder.{lower_up_to, not_lower_from}
use Rattle.sb_rows.proofs.filled.Window.narrowed.Goals as goal

pub returns-then-places-at : goal.returns-then-places-at
returns-then-places-at c =
    let turn = c.requires.turn in
    let inside : c.args.at < length c.args.places.now = omega (arith, c.if-self-at.false, turn.3) in
    (lower_up_to c.args.places.now c.args.bucket c.args.at _ c.requires.rise inside c.if-places-at.true, turn.1, (omega (arith, c.if-self-at.false)), turn.3)

pub returns-else-places-at : goal.returns-else-places-at
returns-else-places-at c =
    let turn = c.requires.turn in
    let inside : c.args.at < length c.args.places.now = omega (arith, c.if-self-at.false, turn.3) in
    (turn.0, not_lower_from c.args.places.now c.args.bucket c.args.at _ c.requires.rise inside c.if-places-at.false, (omega (arith, c.if-at-self.false)), (omega (arith, inside)))
