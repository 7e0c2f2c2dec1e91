use Rattle.std.proofs.Common.{sym, ap, ◌∙◌, ◌++◌}
use Rattle.std.proofs.lemmas.List.{append-nil, drop_all}
use Rattle.std.proofs.lemmas.List.Filters.{dedup_is}
use Rattle.std.proofs.lemmas.List.Kept.{Contains-dedup, IsStrictlySortedBy-dedup}
use Rattle.std.proofs.lemmas.List.Sorted.{Contains-permutation}
use Rattle.std.specs.List.{flat_map}
use Rattle.nb_store.specs.contracts.step.TouchEq.TheImpl.Laws.{laws-law}
use Rattle.nb_store.specs.contracts.step.TouchOrd.TheImpl.Laws.{total-law}
use Rattle.nb_store.specs.Touched.{touched}
use Rattle.nb_store.proofs.PlaceOrder.{touch_ties, same_touch}
use Rattle.nb_check.proofs.apply.touched.Goals as goal

-- the touches are those of the edits, in order and each once
pub returns : goal.returns
returns c =
    let once = dedup_is _ _ _ c.dedup.ensures.filtered in
    let whole = sym c.loop-undo.invariant ∙ ap (λ undos. c.loop-undo.touches.items ++ flat_map touched undos) (drop_all c.loop-undo.undo-index c.args.undos.now c.loop-undo-test.false) ∙ append-nil c.loop-undo.touches.items in
    record {
      rise = rw (c.from_items.ensures, once) (IsStrictlySortedBy-dedup total-law touch_ties _ c.sort_unstable.ensures.sorted);
      all = λ p there. rw (c.from_items.ensures, once) (Contains-dedup laws-law same_touch _ p (Contains-permutation _ _ p c.sort_unstable.ensures.permutation (rw whole at there)));
    }
