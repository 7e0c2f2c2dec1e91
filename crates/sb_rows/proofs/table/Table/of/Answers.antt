use Rattle.std.proofs.Common.{◌≡◌, ◌+◌, ◌<◌, ◌≤◌, [], List, None, Ok, sym, subst, arith}
use Rattle.std.specs.BTreeMap.{IsFromIterResult}
use Rattle.std.specs.Ordering.{nat_cmp}
use Rattle.std.specs.Result.{IfOk}
use Rattle.std.proofs.lemmas.Iterator.Adapters.{YieldsList-from_vec, fact_from_collect}
use Rattle.std.proofs.lemmas.Iterator.Consumers.{YieldsList-end, YieldsList-so_far, YieldsList-turn}
use Rattle.sb_model.specs.declared.row.Row.{Row}
use Rattle.sb_rows.specs.Row.{IsInRowOrder}
use Rattle.sb_rows.specs.inner.Store.{ArePlaced, first_place}
use Rattle.sb_rows.proofs.PlacedAll.{AreRising, collected, last_below, rising_more, rising_none, rows_collected}
use Rattle.sb_rows.proofs.table.Table.of.Goals as goal

pub loop-row-init : goal.loop-row-init
loop-row-init c = subst (λ l. AreRising l None []) (sym c.in_ok-placed.ensures.items) rising_none

pub next_place-requires-clause-last : goal.next_place-requires-clause-last
next_place-requires-clause-last c =
    let e = YieldsList-from_vec c.args.sorted.items c.into_iter-row-iterator.ensures.into_iter_gives.0 (omega arith) in
    last_below c.args.sorted.items c.requires.order c.requires.key c.loop-row.placed.items c.loop-row.last c.loop-row.yielded c.in-Some.row c.rank.result c.loop-row.invariant
    (YieldsList-so_far e c.loop-row.yielded c.loop-row.row-iterator c.loop-row.yielded_by)
    (YieldsList-turn e c.loop-row.yielded c.loop-row.row-iterator c.loop-row.yielded_by c.next.result c.next.new.self c.in-Some.row c.in-Some.is c.next.ensures.steps)
    c.rank.ensures.fits c.rank.ensures.rank

pub loop-row-preserved : goal.loop-row-preserved
loop-row-preserved c =
    rising_more c.loop-row.placed.items c.push.new.self.items c.loop-row.last c.loop-row.yielded c.in-Some.row c.in_ok-place.place c.loop-row.invariant
    (record {
      from = subst (λ rank. first_place rank ≤ c.in_ok-place.place) c.rank.ensures.rank c.in_ok-place.ensures.from;
      below = subst (λ rank. c.in_ok-place.place < first_place (rank + 1)) c.rank.ensures.rank c.in_ok-place.ensures.below;
      fits = c.rank.ensures.fits;
    })
    c.in_ok-place.ensures.after c.in_ok-push.ensures.items

pub by_places-requires-clause-placed : goal.by_places-requires-clause-placed
by_places-requires-clause-placed c =
    let all = fact_from_collect {E = Unit {0}} (IsFromIterResult nat_cmp) (Ok c.in_ok-rows.rows) c.in_ok-rows.ensures.ran (YieldsList-from_vec c.loop-row.placed.items c.into_iter.ensures.rest (omega arith)) in
    subst ArePlaced (sym (collected c.loop-row.placed.items c.in_ok-rows.rows c.loop-row.invariant.placed.rise all)) c.loop-row.invariant.placed

pub by_places-requires-clause-order : goal.by_places-requires-clause-order
by_places-requires-clause-order c =
    let e = YieldsList-end (YieldsList-from_vec c.args.sorted.items c.into_iter-row-iterator.ensures.into_iter_gives.0 (omega arith)) c.loop-row.yielded c.loop-row.row-iterator c.loop-row.yielded_by c.next.result c.next.new.self c.in-None.is c.next.ensures.steps in
    let all = fact_from_collect {E = Unit {0}} (IsFromIterResult nat_cmp) (Ok c.in_ok-rows.rows) c.in_ok-rows.ensures.ran (YieldsList-from_vec c.loop-row.placed.items c.into_iter.ensures.rest (omega arith)) in
    subst IsInRowOrder (sym (rows_collected c.loop-row.placed.items c.loop-row.last c.loop-row.yielded c.args.sorted.items c.in_ok-rows.rows c.loop-row.invariant e.0 all)) c.requires.order

pub returns : goal.returns
returns c =
    let e = YieldsList-end (YieldsList-from_vec c.args.sorted.items c.into_iter-row-iterator.ensures.into_iter_gives.0 (omega arith)) c.loop-row.yielded c.loop-row.row-iterator c.loop-row.yielded_by c.next.result c.next.new.self c.in-None.is c.next.ensures.steps in
    let all = fact_from_collect {E = Unit {0}} (IsFromIterResult nat_cmp) (Ok c.in_ok-rows.rows) c.in_ok-rows.ensures.ran (YieldsList-from_vec c.loop-row.placed.items c.into_iter.ensures.rest (omega arith)) in
    subst (λ (rows : List Row). IfOk c.by_places.result (λ table. table ≡ rows)) (rows_collected c.loop-row.placed.items c.loop-row.last c.loop-row.yielded c.args.sorted.items c.in_ok-rows.rows c.loop-row.invariant e.0 all) c.by_places.ensures
