use Rattle.std.proofs.Common.{length, take, drop, ap, sym, ◌∙◌, arith}
use Rattle.std.proofs.lemmas.List.{length-drop}
use Rattle.std.specs.Cmp.Lexicographic.{pointwise}
use Rattle.nb_records.specs.Longer.{same_number}
use Rattle.nb_records.proofs.Runs.{agree_more, agree_not, front_of_run}
use Rattle.nb_records.proofs.numbers.Numbers.agrees.Goals as goal

pub overflow_add-at : goal.overflow_add-at
overflow_add-at c = let held = ap length c.self.view_is in omega (arith, held, c.self.invariant.1, c.requires.own)

pub overflow_add-place : goal.overflow_add-place
overflow_add-place c = let held = ap length c.other.view_is in omega (arith, held, c.other.invariant.1, c.requires.others)

pub returns-then-not-is_same_run : goal.returns-then-not-is_same_run
returns-then-not-is_same_run c =
    let a = drop c.args.at c.args.self.now in
    let b = drop c.args.place c.args.other.now in
    let done = c.loop-done.done in
    let size = c.min-size.result in
    let left = length-drop c.args.at c.args.self.now in
    let right = length-drop c.args.place c.args.other.now in
    let own = front_of_run c.args.self.now c.run-own.result.now c.args.at done size c.run-own.ensures.numbers (omega (arith, c.min.ensures, c.min-size.ensures)) in
    let others = front_of_run c.args.other.now c.run-others.result.now c.args.place done size c.run-others.ensures.numbers (omega (arith, c.min.ensures, c.min-size.ensures)) in
    agree_not same_number a b done size (omega (arith, left, c.requires.own, c.min-size.ensures)) (omega (arith, right, c.requires.others, c.min-size.ensures)) c.loop-done.invariant.so_far
    c.args.count (omega (arith, c.min-size.ensures, c.loop-done.invariant.within))
    (ap (λ l. pointwise same_number l (take size (drop done b))) (sym own)
    ∙ ap (λ l. pointwise same_number (take size c.run-own.result.now) l) (sym others)
    ∙ sym c.is_same_run.ensures
    ∙ c.if-not-is_same_run.true)

pub loop-done-preserved : goal.loop-done-preserved
loop-done-preserved c =
    let a = drop c.args.at c.args.self.now in
    let b = drop c.args.place c.args.other.now in
    let done = c.loop-done.done in
    let size = c.min-size.result in
    let left = length-drop c.args.at c.args.self.now in
    let right = length-drop c.args.place c.args.other.now in
    let own = front_of_run c.args.self.now c.run-own.result.now c.args.at done size c.run-own.ensures.numbers (omega (arith, c.min.ensures, c.min-size.ensures)) in
    let others = front_of_run c.args.other.now c.run-others.result.now c.args.place done size c.run-others.ensures.numbers (omega (arith, c.min.ensures, c.min-size.ensures)) in
    record {
      within = omega (arith, c.min-size.ensures, c.loop-done.invariant.within);
      so_far =
          agree_more same_number a b done size (omega (arith, left, c.requires.own, c.min-size.ensures)) (omega (arith, right, c.requires.others, c.min-size.ensures)) c.loop-done.invariant.so_far
          ∙ ap (λ l. pointwise same_number l (take size (drop done b))) (sym own)
          ∙ ap (λ l. pointwise same_number (take size c.run-own.result.now) l) (sym others)
          ∙ sym c.is_same_run.ensures
          ∙ c.if-not-is_same_run.false;
    }
