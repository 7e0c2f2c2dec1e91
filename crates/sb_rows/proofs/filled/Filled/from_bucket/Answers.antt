use Rattle.std.proofs.Common.{◌≡◌, Contains, sym, ◌∙◌}
use Rattle.std.specs.List.Sorted.{IsSorted}
use Rattle.sb_rows.specs.inner.Filled.{pair_cmp}
use Rattle.sb_rows.proofs.InOrder.{rest_from, rest_has, rest_is, rest_rises}
use Rattle.sb_rows.proofs.filled.Filled.from_bucket.Goals as goal

pub returns-clause-rise : goal.returns-clause-rise
returns-clause-rise c =
    let rises : IsSorted pair_cmp c.deref-2.result.now = rw c.deref-2.ensures.value c.self.invariant in
    rw (rest_is c.deref-2.result.now c.turn-from.result) (rest_rises c.deref-2.result.now c.turn-from.result rises)

pub returns-clause-from : goal.returns-clause-from
returns-clause-from c =
    let same : c.deref-2.result.now ≡ c.deref.result.now = c.deref-2.ensures.value ∙ sym c.deref.ensures.value in
    rw (rest_is c.deref-2.result.now c.turn-from.result, same) (rest_from c.deref.result.now c.args.bucket c.turn-from.result (c.turn-from.ensures.0, c.turn-from.ensures.1))

pub returns-clause-all : goal.returns-clause-all
returns-clause-all c place there =
    let same : c.deref-2.result.now ≡ c.deref.result.now = c.deref-2.ensures.value ∙ sym c.deref.ensures.value in
    let all : Contains c.deref.result.now (c.args.bucket, place) = rw c.deref.ensures.value (rw c.self.view_is there) in
    rw (rest_is c.deref-2.result.now c.turn-from.result, same) (rest_has c.deref.result.now c.args.bucket c.turn-from.result (c.turn-from.ensures.0, c.turn-from.ensures.1) place all)
