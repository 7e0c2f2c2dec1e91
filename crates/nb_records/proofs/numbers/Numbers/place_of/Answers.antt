use Rattle.std.proofs.Common.{◌+◌, ◌≤◌, ◌||◌, length, take, drop, ap, sym, ◌∙◌, arith}
use Rattle.std.proofs.lemmas.List.{length-take-le, take_all}
use Rattle.std.proofs.lemmas.List.Folds.{list_any-append}
use Rattle.std.specs.List.{list_any}
use Rattle.nb_records.specs.Longer.{same_number}
use Rattle.nb_records.proofs.Runs.{three, up_to, run_within, place_is, near_is, none_there}
use Rattle.nb_records.proofs.numbers.Numbers.place_of.Goals as goal

pub returns-in_err-near-clause-place : goal.returns-in_err-near-clause-place
returns-in_err-near-clause-place c =
    let p = same_number c.args.number in
    let there = near_is p c.run-run.result.now (sym c.is_in_run.ensures ∙ c.if-is_in_run.true) in
    let both = c.in_err-near.ensures ∙ there in
    absurd (cc)

pub returns-then-is_in_run-clause-place : goal.returns-then-is_in_run-clause-place
returns-then-is_in_run-clause-place c =
    let p = same_number c.args.number in
    let l = c.args.self.now in
    let at = c.loop-at.at in
    let r = c.run-run.result.now in
    place_is p l (take at l) r (drop (at + length r) l) at c.in_ok-near.near (three l r at c.run-run.ensures.numbers) (length-take-le at l c.loop-at.invariant.within) c.loop-at.invariant.before
    (sym c.is_in_run.ensures ∙ c.if-is_in_run.true) c.in_ok-near.ensures

pub loop-at-preserved : goal.loop-at-preserved
loop-at-preserved c =
    let p = same_number c.args.number in
    let l = c.args.self.now in
    let at = c.loop-at.at in
    let r = c.run-run.result.now in
    record {
      within = run_within l r at c.run-run.ensures.numbers c.loop-at.invariant.within;
      before =
          ap (list_any p) (up_to l r at c.run-run.ensures.numbers) ∙ list_any-append p (take at l) r ∙ ap (λ b. b || list_any p r) c.loop-at.invariant.before
          ∙ (sym c.is_in_run.ensures ∙ c.if-is_in_run.false);
    }

pub returns-clause-place : goal.returns-clause-place
returns-clause-place c =
    let p = same_number c.args.number in
    let l = c.args.self.now in
    let past : length l ≤ c.loop-at.at = omega (arith, c.len.ensures.count, c.loop-at-test.false) in
    none_there p l (ap (list_any p) (sym (take_all c.loop-at.at l past)) ∙ c.loop-at.invariant.before)
