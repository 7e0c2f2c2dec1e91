use Rattle.std.proofs.Common.{◌++◌, ap, ◌∙◌}
use Rattle.nv_base.proofs.Growth.{on_err, appended_twice}
use Rattle.nb_records.proofs.Fronts.{in_front, further}
use Rattle.nb_records.proofs.refusal.Refusal.put_line.Goals as goal

pub returns-in_err-extend_from_slice-2-clause-err : goal.returns-in_err-extend_from_slice-2-clause-err
returns-in_err-extend_from_slice-2-clause-err c = on_err _ _ (in_front c.args.out.now.items _ _ c.args.out.now.ok.0 (_, c.in_err-extend_from_slice-2.ensures.items ∙ c.in_ok-extend_from_slice.ensures.items))

pub returns-in_err-put_subject-clause-err : goal.returns-in_err-put_subject-clause-err
returns-in_err-put_subject-clause-err c =
    let there = c.args.out.now.items in
    let label = appended_twice there _ _ _ _ c.in_ok-extend_from_slice.ensures.items c.in_ok-extend_from_slice-2.ensures.items in
    on_err _ _ (further there _ _ _ _ _ c.args.out.now.ok.0 label c.in_err-put_subject.ensures.err)

pub returns-in_err-push-clause-err : goal.returns-in_err-push-clause-err
returns-in_err-push-clause-err c =
    let there = c.args.out.now.items in
    let label = appended_twice there _ _ _ _ c.in_ok-extend_from_slice.ensures.items c.in_ok-extend_from_slice-2.ensures.items in
    let subject = appended_twice there _ _ _ _ label c.in_ok-put_subject.ensures.ok in
    on_err _ _ (in_front there _ _ c.args.out.now.ok.0 (_, c.in_err-push.ensures.items ∙ subject))

pub returns-clause-ok : goal.returns-clause-ok
returns-clause-ok c =
    let there = c.args.out.now.items in
    let words = c.in_ok-extend_from_slice-2.ensures.items ∙ ap (λ label. c.extend_from_slice.new.self.items ++ label) (c.as_bytes.ensures.value ∙ c.label.ensures) in
    let label = appended_twice there _ _ _ _ c.in_ok-extend_from_slice.ensures.items words in
    let subject = appended_twice there _ _ _ _ label c.in_ok-put_subject.ensures.ok in
    appended_twice there _ _ _ _ subject c.in_ok-push.ensures.items
