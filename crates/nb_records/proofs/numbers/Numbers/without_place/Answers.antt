use Rattle.std.proofs.Common.{◌≡◌, ◌+◌, ◌-◌, ◌++◌, suc, length, take, drop, ap, sym, ◌∙◌, arith}
use Rattle.std.proofs.lemmas.List.{length-append, take_rest}
use Rattle.nb_records.specs.inner.Blocks.{joined, numbers_of}
use Rattle.nb_records.proofs.Counted.{parts_within, but_one, but_one_shorter}
use Rattle.nb_records.proofs.numbers.Numbers.without_place.Goals as goal

pub put_but_one-requires-clause-fits : goal.put_but_one-requires-clause-fits
put_but_one-requires-clause-fits c =
    let bs = c.as_slice-blocks.result.now in
    let k = c.find-block.result.0 in
    let b = c.index-blocks-block.result in
    let parts = parts_within bs c.args.at k c.find-block.result.1 b c.find-block.ensures c.index-blocks-block.is in
    let numbers = ap length (c.as_slice-numbers.ensures.value ∙ ap (λ v. v.items) c.deref.ensures ∙ ap numbers_of (sym c.index-blocks-block.is)) in
    let left = ap length (c.in_ok-share.ensures ∙ ap (λ l. l ++ joined (take k bs)) c.in_ok-left.ensures) in
    let all = ap (λ l. length (joined l)) c.as_slice-blocks.ensures.value in
    omega (arith, parts, numbers, left, all, c.self.invariant.1)

pub share-requires-2 : goal.share-requires-2
share-requires-2 c =
    let bs = c.as_slice-blocks.result.now in
    let k = c.find-block.result.0 in
    let at = c.find-block.result.1 in
    let b = c.index-blocks-block.result in
    let parts = parts_within bs c.args.at k at b c.find-block.ensures c.index-blocks-block.is in
    let shorter = but_one_shorter bs c.args.at k at b c.find-block.ensures c.index-blocks-block.is in
    let numbers = c.as_slice-numbers.ensures.value ∙ ap (λ v. v.items) c.deref.ensures ∙ ap numbers_of (sym c.index-blocks-block.is) in
    let left = c.in_ok-share.ensures ∙ ap (λ l. l ++ joined (take k bs)) c.in_ok-left.ensures in
    let more = ap length (c.in_ok-put_but_one.ensures ∙ ap (λ l. l ++ (take at c.as_slice-numbers.result.now ++ drop (at + 1) c.as_slice-numbers.result.now)) left ∙ ap (λ l. joined (take k bs) ++ (take at l ++ drop (at + 1) l)) numbers) in
    let both = length-append (joined (take k bs)) (take at (numbers_of b) ++ drop (at + 1) (numbers_of b)) in
    let rest = ap (λ l. length (joined l)) (take_rest bs (k + 1)) in
    let next : k + 1 ≡ suc k = omega arith in
    let rest_too = ap (λ n. length (joined (drop n bs))) next in
    let all = ap (λ l. length (joined l)) c.as_slice-blocks.ensures.value in
    omega (arith, parts, shorter, more, both, rest, rest_too, all, c.self.invariant.1)

pub returns : goal.returns
returns c =
    let bs = c.as_slice-blocks.result.now in
    let k = c.find-block.result.0 in
    let at = c.find-block.result.1 in
    let b = c.index-blocks-block.result in
    let numbers = c.as_slice-numbers.ensures.value ∙ ap (λ v. v.items) c.deref.ensures ∙ ap numbers_of (sym c.index-blocks-block.is) in
    let left = c.in_ok-share.ensures ∙ ap (λ l. l ++ joined (take k bs)) c.in_ok-left.ensures in
    let more = c.in_ok-put_but_one.ensures ∙ ap (λ l. l ++ (take at c.as_slice-numbers.result.now ++ drop (at + 1) c.as_slice-numbers.result.now)) left ∙ ap (λ l. joined (take k bs) ++ (take at l ++ drop (at + 1) l)) numbers in
    let next : k + 1 ≡ suc k = omega arith in
    let whole = ap joined c.as_slice-blocks.ensures.value ∙ c.self.view_is in
    c.in_ok-share-2.ensures
    ∙ ap (λ l. l ++ joined (take (length bs - (k + 1)) (drop (k + 1) bs))) more
    ∙ ap (λ l. (joined (take k bs) ++ (take at (numbers_of b) ++ drop (at + 1) (numbers_of b))) ++ joined l) (take_rest bs (k + 1) ∙ ap (λ n. drop n bs) next)
    ∙ but_one bs c.args.at k at b c.find-block.ensures c.index-blocks-block.is
    ∙ ap (λ l. take c.args.at l ++ drop (c.args.at + 1) l) whole
