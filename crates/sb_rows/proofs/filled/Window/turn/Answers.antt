use Rattle.std.proofs.Common.{ℕ, ◌+◌, ◌-◌, ◌<◌, ◌/◌, length, arith}
use Rattle.sb_rows.proofs.InOrder.{lower_up_to, not_lower_from}
use Rattle.sb_rows.proofs.filled.Window.turn.Goals as goal

pub loop-low-preserved-then-places-middle : goal.loop-low-preserved-then-places-middle
loop-low-preserved-then-places-middle c =
    let turn = c.loop-low.invariant in
    let middle : ℕ = c.loop-low.low + (c.loop-low.high - c.loop-low.low) / 2 in
    let below : middle < c.loop-low.high = omega (arith, c.loop-low-test.true) in
    let inside : middle < length c.args.places.now = omega (arith, below, turn.3) in
    (lower_up_to c.args.places.now c.args.bucket middle _ c.requires.rise inside c.if-places-middle.true, turn.1, (omega (arith, below)), turn.3)

pub loop-low-preserved : goal.loop-low-preserved
loop-low-preserved c =
    let turn = c.loop-low.invariant in
    let middle : ℕ = c.loop-low.low + (c.loop-low.high - c.loop-low.low) / 2 in
    let below : middle < c.loop-low.high = omega (arith, c.loop-low-test.true) in
    let inside : middle < length c.args.places.now = omega (arith, below, turn.3) in
    (turn.0, not_lower_from c.args.places.now c.args.bucket middle _ c.requires.rise inside c.if-places-middle.false, (omega arith), (omega (arith, inside)))
