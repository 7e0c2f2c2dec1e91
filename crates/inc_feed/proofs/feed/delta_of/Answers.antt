use Rattle.std.proofs.Common.{◌≡◌, ◌<◌, ◌≤◌, ◌++◌, [], ◌∷◌, List, Option, get_or, length, take, sym, ap, subst, ◌∙◌, arith}
use Rattle.std.proofs.lemmas.List.{take_all, take_more}
use Rattle.nv_map.specs.Map.{value_at}
use Rattle.nv_map.proofs.Values.{exact_order}
use Rattle.inc_table.specs.Delta.{change_between, told_at}
use Rattle.inc_feed.specs.Feed.{IsFeed}
use Rattle.inc_feed.proofs.Fed.{IsAboveAll, above_end, above_told, feed_alters, feed_leads, feed_more, feed_tells, rise_told}
use Rattle.inc_feed.proofs.Sorted.{below_place}
use Rattle.inc_feed.proofs.feed.delta_of.Goals as goal

pub tell-requires : goal.tell-requires
tell-requires g c =
    let within = subst (λ (l : List g.row.W-Key.Denot). c.loop-key.key-index < length l) c.as_slice-key-items.ensures.keys c.loop-key-test.true in
    let at = subst (λ (l : List g.row.W-Key.Denot). c.key-item.result ≡ get_or l c.loop-key.key-index c.key-item.result) c.as_slice-key-items.ensures.keys c.key-item.is in
    c.loop-key.invariant.above c.key-item.result (below_place g.W.Key.Ord.cmp c.args.keys.now c.loop-key.key-index c.key-item.result c.as_slice-key-items.ensures.rise within at)

pub loop-key-preserved : goal.loop-key-preserved
loop-key-preserved g c =
    let within = subst (λ (l : List g.row.W-Key.Denot). c.loop-key.key-index < length l) c.as_slice-key-items.ensures.keys c.loop-key-test.true in
    let at = subst (λ (l : List g.row.W-Key.Denot). c.key-item.result ≡ get_or l c.loop-key.key-index c.key-item.result) c.as_slice-key-items.ensures.keys c.key-item.is in
    let above = c.loop-key.invariant.above c.key-item.result (below_place g.W.Key.Ord.cmp c.args.keys.now c.loop-key.key-index c.key-item.result c.as_slice-key-items.ensures.rise within at) in
    let old = value_at g.W.Key.Ord.cmp c.key-item.result (g.E.Entries.entries_of c.args.there.now) in
    let is = c.in_ok-tell.ensures ∙ ap (λ (v : Option g.row.W-Value.Denot). c.loop-key.delta ++ told_at c.key-item.result (change_between g.W.Value.PartialEq.eq v c.in_ok-new.new)) c.value.ensures in
    let grown = take_more c.args.keys.now c.loop-key.key-index c.key-item.result within ∙ ap (λ (x : g.row.W-Key.Denot). take c.loop-key.key-index c.args.keys.now ++ x ∷ []) (sym at) in
    record {
      feed = feed_more g.met.W.Key.Ord.total (exact_order g.W.Key.PartialEq.eq g.W.Key.Ord.cmp g.met.W.Key.Ord.matches_eq g.met.W.Key.Kept.exact) g.W.Value.PartialEq.eq (g.E.Entries.entries_of c.args.there.now) (g.W.Wanted.wanted_of c.args.wanted.now) c.args.keys.now c.loop-key.key-index c.key-item.result c.in_ok-new.new c.loop-key.delta c.tell.new.delta within at c.in_ok-new.ensures above is c.loop-key.invariant.feed;
      rise = rise_told g.met.W.Key.Ord.total c.loop-key.delta c.tell.new.delta c.key-item.result (change_between g.W.Value.PartialEq.eq old c.in_ok-new.new) c.loop-key.invariant.rise above is;
      above = λ k a. above_told g.met.W.Key.Ord.total c.loop-key.delta c.tell.new.delta c.key-item.result k (change_between g.W.Value.PartialEq.eq old c.in_ok-new.new) above is
          (above_end g.W.Key.Ord.cmp k c.key-item.result (take c.loop-key.key-index c.args.keys.now) (subst (λ l. IsAboveAll g.W.Key.Ord.cmp k l) grown a));
    }

pub returns-clause-rise : goal.returns-clause-rise
returns-clause-rise g c = c.loop-key.invariant.rise

pub returns-clause-alters : goal.returns-clause-alters
returns-clause-alters g c = feed_alters g.met.W.Key.Ord.total g.W.Value.PartialEq.eq (take c.loop-key.key-index c.args.keys.now) (g.E.Entries.entries_of c.args.there.now) (g.W.Wanted.wanted_of c.args.wanted.now) c.loop-key.delta c.loop-key.invariant.rise c.loop-key.invariant.feed

pub returns-clause-leads : goal.returns-clause-leads
returns-clause-leads g c =
    let all = take_all c.loop-key.key-index c.args.keys.now (subst (λ (l : List g.row.W-Key.Denot). length l ≤ c.loop-key.key-index) c.as_slice-key-items.ensures.keys (omega (arith, c.loop-key-test.false))) in
    feed_leads g.met.W.Key.Ord.total g.W.Value.PartialEq.eq c.args.keys.now (g.E.Entries.entries_of c.args.there.now) (g.W.Wanted.wanted_of c.args.wanted.now) g.met.W.Value.Kept.exact c.loop-key.delta
    (subst (λ l. IsFeed g.W.Key.Ord.cmp g.W.Value.PartialEq.eq l (g.E.Entries.entries_of c.args.there.now) (g.W.Wanted.wanted_of c.args.wanted.now) c.loop-key.delta) all c.loop-key.invariant.feed)

pub returns-clause-tells : goal.returns-clause-tells
returns-clause-tells g c =
    let all = take_all c.loop-key.key-index c.args.keys.now (subst (λ (l : List g.row.W-Key.Denot). length l ≤ c.loop-key.key-index) c.as_slice-key-items.ensures.keys (omega (arith, c.loop-key-test.false))) in
    feed_tells g.met.W.Key.Ord.total g.W.Value.PartialEq.eq c.args.keys.now (g.E.Entries.entries_of c.args.there.now) (g.W.Wanted.wanted_of c.args.wanted.now) g.met.W.Value.Eq.laws.refl c.loop-key.delta
    (subst (λ l. IsFeed g.W.Key.Ord.cmp g.W.Value.PartialEq.eq l (g.E.Entries.entries_of c.args.there.now) (g.W.Wanted.wanted_of c.args.wanted.now) c.loop-key.delta) all c.loop-key.invariant.feed)
