use Rattle.std.proofs.Common.{◌≡◌, ◌+◌, ◌-◌, ◌++◌, take, drop, ap, sym, ◌∙◌, arith}
use Rattle.std.proofs.Math.Seq.{take-add}
use Rattle.nb_records.proofs.numbers.Numbers.from_slice.Goals as goal

pub loop-at-preserved : goal.loop-at-preserved
loop-at-preserved c =
    let at = c.loop-at.at in
    let size = c.min-size.result in
    let l = c.args.numbers.now in
    let cut : (at + size) - at ≡ size = omega arith in
    record {
      within = omega (arith, c.min-size.ensures, c.loop-at.invariant.within);
      so_far =
          c.in_ok-put_copied.ensures
          ∙ ap (λ x. x ++ take ((at + size) - at) (drop at l)) c.loop-at.invariant.so_far
          ∙ ap (λ n. take at l ++ take n (drop at l)) cut
          ∙ sym (take-add at size l);
    }
