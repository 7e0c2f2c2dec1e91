use Rattle.std.proofs.Common.{◌+◌, ◌||◌, length, drop, ap, sym, ◌∙◌}
use Rattle.std.proofs.lemmas.List.Folds.{list_any-append}
use Rattle.std.specs.List.{list_any}
use Rattle.nb_records.specs.Longer.{same_number}
use Rattle.nb_records.proofs.Runs.{run_then}
use Rattle.nb_records.proofs.numbers.Numbers.has_from.Goals as goal

pub returns-then-is_in_run : goal.returns-then-is_in_run
returns-then-is_in_run c =
    let p = same_number c.args.number in
    let l = c.args.self.now in
    let r = c.run-run.result.now in
    let rest = drop (c.loop-at.at + length r) l in
    sym (c.loop-at.invariant ∙ ap (list_any p) (run_then l r c.loop-at.at c.run-run.ensures.numbers) ∙ list_any-append p r rest ∙ ap (λ b. b || list_any p rest) (sym c.is_in_run.ensures ∙ c.if-is_in_run.true))

pub loop-at-preserved : goal.loop-at-preserved
loop-at-preserved c =
    let p = same_number c.args.number in
    let l = c.args.self.now in
    let r = c.run-run.result.now in
    let rest = drop (c.loop-at.at + length r) l in
    c.loop-at.invariant ∙ ap (list_any p) (run_then l r c.loop-at.at c.run-run.ensures.numbers) ∙ list_any-append p r rest ∙ ap (λ b. b || list_any p rest) (sym c.is_in_run.ensures ∙ c.if-is_in_run.false)
