use Rattle.nv_base.proofs.Growth.{appended_twice, grown_more, on_err}
use Rattle.nb_text.proofs.Appends.{grown_once, quoted}
use Rattle.nb_text.proofs.words.put_quoted_mac.Goals as goal

pub returns-clause-ok : goal.returns-clause-ok
returns-clause-ok g c = quoted _ _ _ _ _ _ _ _ c.in_ok-push.ensures.items c.in_ok-put_mac.ensures.ok c.in_ok-put_each.ensures.ok c.in_ok-push-2.ensures.items

pub returns-in_err-put_each-clause-err : goal.returns-in_err-put_each-clause-err
returns-in_err-put_each-clause-err g c = on_err _ _ (grown_more _ _ _ _ c.in_ok-push.ensures.items (grown_more _ _ _ _ c.in_ok-put_mac.ensures.ok c.in_err-put_each.ensures.err))

pub returns-in_err-put_mac-clause-err : goal.returns-in_err-put_mac-clause-err
returns-in_err-put_mac-clause-err g c = on_err _ _ (grown_once _ _ _ _ c.in_ok-push.ensures.items c.in_err-put_mac.ensures.err)

pub returns-in_err-push-2-clause-err : goal.returns-in_err-push-2-clause-err
returns-in_err-push-2-clause-err g c =
    let mac = appended_twice c.args.out.now.items _ _ _ _ c.in_ok-push.ensures.items c.in_ok-put_mac.ensures.ok in
    on_err _ _ (grown_once _ _ _ _ (appended_twice c.args.out.now.items _ _ _ _ mac c.in_ok-put_each.ensures.ok) c.in_err-push-2.ensures.items)
