use Rattle.std.proofs.Common.{ap, sym, ◌∙◌}
use Rattle.ct_state.specs.Work.{unlearnt}
use Rattle.ct_state.proofs.Unlearnt.{unlearnt_last}
use Rattle.ct_state.proofs.work.forget.Goals as goal

pub loop-old-preserved : goal.loop-old-preserved
loop-old-preserved c =
    let old = c.in-Some.old in
    let nbrs = c.loop-old.nbrs in
    let left = c.pop.new.self.items in
    ap (unlearnt left) c.put_back.ensures ∙ sym (unlearnt_last left old nbrs) ∙ ap (λ olds. unlearnt olds nbrs) (sym c.in-Some.ensures.items) ∙ c.loop-old.invariant
