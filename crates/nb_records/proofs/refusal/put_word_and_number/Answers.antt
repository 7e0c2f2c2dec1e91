use Rattle.std.proofs.Common.{◌++◌, ap, ◌∙◌}
use Rattle.std.proofs.lemmas.Result.{on_ok_weaker, on_err_weaker}
use Rattle.nv_base.proofs.Growth.{appended_twice}
use Rattle.nb_records.specs.Refusal.{spaced}
use Rattle.nb_records.proofs.Fronts.{further}
use Rattle.nb_records.proofs.refusal.put_word_and_number.Goals as goal

pub returns-clause-ok : goal.returns-clause-ok
returns-clause-ok c =
    let there = c.args.out.now.items in
    let word = c.in_ok-put_word.ensures.ok ∙ ap (λ word. there ++ spaced word) c.as_bytes.ensures.value in
    on_ok_weaker c.put_number.result (λ more. appended_twice there _ _ _ _ word more) c.put_number.ensures.ok

pub returns-clause-err : goal.returns-clause-err
returns-clause-err c = on_err_weaker c.put_number.result (λ front. further c.args.out.now.items _ _ _ _ _ c.args.out.now.ok.0 c.in_ok-put_word.ensures.ok front) c.put_number.ensures.err
