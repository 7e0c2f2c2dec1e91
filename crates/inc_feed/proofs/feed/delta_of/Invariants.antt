use Rattle.std.proofs.Common.{take}
use Rattle.nv_map.specs.Map.{KeysRise}
use Rattle.inc_table.specs.Delta.{IsAbove}
use Rattle.inc_feed.specs.Feed.{IsFeed}
use Rattle.inc_feed.proofs.Fed.{IsAboveAll}
use Rattle.inc_feed.proofs.feed.delta_of.Given as goal

-- The delta tells what changes at the keys so far, and a key above these is above all that it tells.
abbrev pub invariant-loop-key : goal.invariant-loop-key
invariant-loop-key g l = record {
  feed : IsFeed g.W.Key.Ord.cmp g.W.Value.PartialEq.eq (take l.key-index l.keys) (g.E.Entries.entries_of l.there) (g.W.Wanted.wanted_of l.wanted) l.delta;
  rise : KeysRise g.W.Key.Ord.cmp l.delta;
  above : (k : g.row.W-Key.Denot) → IsAboveAll g.W.Key.Ord.cmp k (take l.key-index l.keys) → IsAbove g.W.Key.Ord.cmp k l.delta;
}
