use Rattle.std.proofs.Common.{◌≤◌, length, ap, sym, subst, ◌∙◌}
use Rattle.std.specs.List.{AllByRecursion}
use Rattle.ct_core.proofs.Changed.{length-marked}
use Rattle.ct_state.specs.Work.{unmarked}
use Rattle.ct_state.specs.inner.Noted.{IsWithin}
use Rattle.ct_state.proofs.Undone.{all_first, unmarked_last}
use Rattle.ct_state.proofs.work.take_back.Goals as goal

pub loop-old-preserved : goal.loop-old-preserved
loop-old-preserved c =
    let old = c.in-Some.old in
    let conns = c.loop-old.conns in
    let left = c.pop.new.self.items in
    record {
      back = ap (unmarked left) c.mark.ensures ∙ sym (unmarked_last left old conns) ∙ ap (λ marks. unmarked marks conns) (sym c.in-Some.ensures.items) ∙ c.loop-old.invariant.back;
      there = subst (λ n. c.args.began ≤ n) (sym (ap length c.mark.ensures ∙ length-marked old.place old.blocked conns)) c.loop-old.invariant.there;
      within = all_first (IsWithin c.args.began) left old (subst (AllByRecursion (IsWithin c.args.began)) c.in-Some.ensures.items c.loop-old.invariant.within);
    }
