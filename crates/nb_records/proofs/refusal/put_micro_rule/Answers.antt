use Rattle.std.proofs.Common.{◌++◌, ap, ◌∙◌}
use Rattle.std.proofs.lemmas.Result.{on_ok_weaker, on_err_weaker}
use Rattle.nv_base.proofs.Growth.{appended_twice}
use Rattle.nb_records.specs.Refusal.{spaced}
use Rattle.nb_records.proofs.Fronts.{further}
use Rattle.nb_records.proofs.refusal.put_micro_rule.Goals as goal

pub returns-in_ok-put_word-in-Contradiction-clause-ok : goal.returns-in_ok-put_word-in-Contradiction-clause-ok
returns-in_ok-put_word-in-Contradiction-clause-ok c =
    let first = c.in_ok-put_word-in-Contradiction.ensures.ok in
    let name = c.as_bytes.ensures.value ∙ c.name.ensures in
    rw c.in-Contradiction.is
    (on_ok_weaker c.put_word-in-Contradiction-2.result (λ more. appended_twice c.args.out.now.items _ _ _ _ first (more ∙ ap (λ word. c.put_word-in-Contradiction.new.out.items ++ spaced word) name)) c.put_word-in-Contradiction-2.ensures.ok)

pub returns-in_ok-put_word-in-Contradiction-clause-err : goal.returns-in_ok-put_word-in-Contradiction-clause-err
returns-in_ok-put_word-in-Contradiction-clause-err c =
    on_err_weaker c.put_word-in-Contradiction-2.result (λ front. further c.args.out.now.items _ _ _ _ _ c.args.out.now.ok.0 c.in_ok-put_word-in-Contradiction.ensures.ok front) c.put_word-in-Contradiction-2.ensures.err
