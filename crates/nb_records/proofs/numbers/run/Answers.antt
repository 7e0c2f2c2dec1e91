use Rattle.std.proofs.Common.{◌≡◌, length, take, drop, sym, ap, ◌∙◌, subst}
use Rattle.std.proofs.lemmas.List.{take_rest}
use Rattle.nb_records.specs.inner.Blocks.{joined, numbers_of}
use Rattle.nb_records.proofs.Counted.{run_is}
use Rattle.nb_records.proofs.numbers.run.Goals as goal

pub returns-clause-numbers : goal.returns-clause-numbers
returns-clause-numbers c =
    let at = c.find-block.result.1 in
    let items = c.as_slice.result.now in
    let all = drop c.args.at (joined c.args.blocks.now) in
    let same = c.as_slice.ensures.value ∙ ap (λ v. v.items) c.deref.ensures ∙ ap numbers_of (sym c.index-blocks-block.is) in
    let here = run_is c.args.blocks.now c.args.at c.find-block.result.0 at c.index-blocks-block.result c.find-block.ensures c.index-blocks-block.is in
    rw (take_rest items at) (subst (λ l. drop at l ≡ take (length (drop at l)) all) (sym same) here)
