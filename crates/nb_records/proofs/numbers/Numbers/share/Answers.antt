use Rattle.std.proofs.Common.{◌++◌, length, take, ap, sym, ◌∙◌, arith}
use Rattle.std.proofs.lemmas.List.{length-append, append_assoc}
use Rattle.nb_records.specs.inner.Blocks.{joined, numbers_of}
use Rattle.nb_records.proofs.Counted.{more_within, joined_more}
use Rattle.nb_records.proofs.numbers.Numbers.share.Goals as goal

pub put-requires : goal.put-requires
put-requires c =
    let blocks = c.args.blocks.now in
    let k = c.loop-block.block-index in
    let within = more_within blocks k c.block-item.result c.loop-block-test.true c.block-item.is in
    let so_far = ap length c.loop-block.invariant in
    let both = length-append c.args.self.now (joined (take k blocks)) in
    let same = ap (λ v. length v.items) c.in_ok-clone.ensures.cases in
    omega (arith, within, so_far, both, same)

pub loop-block-preserved : goal.loop-block-preserved
loop-block-preserved c =
    let blocks = c.args.blocks.now in
    let k = c.loop-block.block-index in
    let more = joined_more blocks k c.block-item.result c.loop-block-test.true c.block-item.is in
    c.in_ok-put.ensures
    ∙ ap (λ l. l ++ c.in_ok-clone.field-0.value.items) c.loop-block.invariant
    ∙ ap (λ v. (c.args.self.now ++ joined (take k blocks)) ++ v.items) c.in_ok-clone.ensures.cases
    ∙ append_assoc c.args.self.now (joined (take k blocks)) (numbers_of c.block-item.result)
    ∙ sym (ap (λ l. c.args.self.now ++ l) more)
