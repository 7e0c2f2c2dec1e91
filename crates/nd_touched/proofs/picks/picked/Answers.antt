use Rattle.nd_touched.proofs.Picked.{given_next}
use Rattle.nd_touched.proofs.picks.picked.Goals as goal

pub loop-touch-preserved : goal.loop-touch-preserved
loop-touch-preserved g c = given_next g.P.Picks.key_of c.args.touches.now c.loop-touch.touch-index _ c.loop-touch.keys.items c.add.new.keys.items c.in_ok-add.ensures c.loop-touch.invariant c.loop-touch-test.true
