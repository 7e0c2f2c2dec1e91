use Rattle.std.proofs.Common.{◌≡◌, ◌++◌, map, take}
use Rattle.tr_walk.specs.declared.event.Event.TheVariants as variants
use Rattle.tr_walk.proofs.run.put_hits.Given as goal

-- the hits so far are after what was there
abbrev pub invariant-loop-hit : goal.invariant-loop-hit
invariant-loop-hit l = l.events.items ≡ l.initial.events.items ++ map variants.Hit (take l.hit-index l.hits)
