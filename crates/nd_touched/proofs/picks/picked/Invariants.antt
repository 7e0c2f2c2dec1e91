use Rattle.std.proofs.Common.{◌≡◌, take}
use Rattle.std.specs.List.{filter_map}
use Rattle.nd_touched.proofs.picks.picked.Given as goal

-- the keys are those of the touches so far
abbrev pub invariant-loop-touch : goal.invariant-loop-touch
invariant-loop-touch g l = l.keys.items ≡ filter_map g.P.Picks.key_of (take l.touch-index l.touches)
