use Rattle.std.proofs.Common.{◌≤◌, map}
use Rattle.net_router.specs.Routing.{static_ways}
use Rattle.net_choice.specs.inner.Routes.{numbered_way}
use Rattle.net_choice.proofs.Longest.{AllShorter}
use Rattle.net_choice.proofs.routes.longest_static.Given as goal

-- the ways are shorter than so many bits, at most 33
abbrev pub invariant-loop-above : goal.invariant-loop-above
invariant-loop-above l = record {
  shorter : AllShorter l.above (map numbered_way (static_ways l.records l.router l.by l.ip));
  within : l.above ≤ 33;
}

abbrev pub decreases-loop-above : goal.decreases-loop-above
decreases-loop-above l = l.above
