use Rattle.nv_base.proofs.Growth.{grown_more, on_err}
use Rattle.nb_text.proofs.Appends.{grown_by_none}
use Rattle.nb_text.proofs.Lines.{line_of_five}
use Rattle.nb_text.proofs.rules.put_lb_add.Goals as goal

pub returns-clause-ok : goal.returns-clause-ok
returns-clause-ok c =
    let backends = rw c.as_slice.ensures at c.in_ok-put_backend_word.ensures.ok in
    let proto = rw (c.as_bytes.ensures.value, c.proto_text.ensures) at c.in_ok-put_word-2.ensures.ok in
    line_of_five _ _ _ _ _ _ _ _ _ _ _ _ _ c.in_ok-extend_from_slice.ensures.items c.in_ok-put_word.ensures.ok c.in_ok-put_frontend.ensures.ok backends proto c.in_ok-push.ensures.items

pub returns-in_err-put_word-clause-err : goal.returns-in_err-put_word-clause-err
returns-in_err-put_word-clause-err c = on_err _ _ (grown_more _ _ _ _ c.in_ok-extend_from_slice.ensures.items c.in_err-put_word.ensures.err)

pub returns-in_err-put_frontend-clause-err : goal.returns-in_err-put_frontend-clause-err
returns-in_err-put_frontend-clause-err c = on_err _ _ (grown_more _ _ _ _ c.in_ok-extend_from_slice.ensures.items (grown_more _ _ _ _ c.in_ok-put_word.ensures.ok c.in_err-put_frontend.ensures.err))

pub returns-in_err-put_backend_word-clause-err : goal.returns-in_err-put_backend_word-clause-err
returns-in_err-put_backend_word-clause-err c = on_err _ _ (grown_more _ _ _ _ c.in_ok-extend_from_slice.ensures.items (grown_more _ _ _ _ c.in_ok-put_word.ensures.ok (grown_more _ _ _ _ c.in_ok-put_frontend.ensures.ok c.in_err-put_backend_word.ensures.err)))

pub returns-in_err-put_word-2-clause-err : goal.returns-in_err-put_word-2-clause-err
returns-in_err-put_word-2-clause-err c = on_err _ _ (grown_more _ _ _ _ c.in_ok-extend_from_slice.ensures.items (grown_more _ _ _ _ c.in_ok-put_word.ensures.ok (grown_more _ _ _ _ c.in_ok-put_frontend.ensures.ok (grown_more _ _ _ _ c.in_ok-put_backend_word.ensures.ok c.in_err-put_word-2.ensures.err))))

pub returns-in_err-push-clause-err : goal.returns-in_err-push-clause-err
returns-in_err-push-clause-err c = on_err _ _ (grown_more _ _ _ _ c.in_ok-extend_from_slice.ensures.items (grown_more _ _ _ _ c.in_ok-put_word.ensures.ok (grown_more _ _ _ _ c.in_ok-put_frontend.ensures.ok (grown_more _ _ _ _ c.in_ok-put_backend_word.ensures.ok (grown_more _ _ _ _ c.in_ok-put_word-2.ensures.ok (grown_by_none _ _ c.in_err-push.ensures.items))))))
