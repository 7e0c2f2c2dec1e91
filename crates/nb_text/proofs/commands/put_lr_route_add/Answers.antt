use Rattle.nv_base.proofs.Growth.{grown_more, on_err}
use Rattle.nb_text.proofs.Appends.{grown_by_none}
use Rattle.nb_text.proofs.Lines.{line_of_six}
use Rattle.nb_text.proofs.commands.put_lr_route_add.Goals as goal

pub returns-clause-ok : goal.returns-clause-ok
returns-clause-ok c = line_of_six _ _ _ _ _ _ _ _ _ _ _ _ _ _ _ c.in_ok-put_policy.ensures.ok c.in_ok-extend_from_slice.ensures.items c.in_ok-put_word.ensures.ok c.in_ok-put_network.ensures.ok c.in_ok-put_ip4_word.ensures.ok c.in_ok-put_port_of_route.ensures.ok c.in_ok-push.ensures.items

pub returns-in_err-extend_from_slice-clause-err : goal.returns-in_err-extend_from_slice-clause-err
returns-in_err-extend_from_slice-clause-err c = on_err _ _ (grown_more _ _ _ _ c.in_ok-put_policy.ensures.ok (grown_by_none _ _ c.in_err-extend_from_slice.ensures.items))

pub returns-in_err-put_word-clause-err : goal.returns-in_err-put_word-clause-err
returns-in_err-put_word-clause-err c = on_err _ _ (grown_more _ _ _ _ c.in_ok-put_policy.ensures.ok (grown_more _ _ _ _ c.in_ok-extend_from_slice.ensures.items c.in_err-put_word.ensures.err))

pub returns-in_err-put_network-clause-err : goal.returns-in_err-put_network-clause-err
returns-in_err-put_network-clause-err c = on_err _ _ (grown_more _ _ _ _ c.in_ok-put_policy.ensures.ok (grown_more _ _ _ _ c.in_ok-extend_from_slice.ensures.items (grown_more _ _ _ _ c.in_ok-put_word.ensures.ok c.in_err-put_network.ensures.err)))

pub returns-in_err-put_ip4_word-clause-err : goal.returns-in_err-put_ip4_word-clause-err
returns-in_err-put_ip4_word-clause-err c = on_err _ _ (grown_more _ _ _ _ c.in_ok-put_policy.ensures.ok (grown_more _ _ _ _ c.in_ok-extend_from_slice.ensures.items (grown_more _ _ _ _ c.in_ok-put_word.ensures.ok (grown_more _ _ _ _ c.in_ok-put_network.ensures.ok c.in_err-put_ip4_word.ensures.err))))

pub returns-in_err-put_port_of_route-clause-err : goal.returns-in_err-put_port_of_route-clause-err
returns-in_err-put_port_of_route-clause-err c = on_err _ _ (grown_more _ _ _ _ c.in_ok-put_policy.ensures.ok (grown_more _ _ _ _ c.in_ok-extend_from_slice.ensures.items (grown_more _ _ _ _ c.in_ok-put_word.ensures.ok (grown_more _ _ _ _ c.in_ok-put_network.ensures.ok (grown_more _ _ _ _ c.in_ok-put_ip4_word.ensures.ok c.in_err-put_port_of_route.ensures.err)))))

pub returns-in_err-push-clause-err : goal.returns-in_err-push-clause-err
returns-in_err-push-clause-err c = on_err _ _ (grown_more _ _ _ _ c.in_ok-put_policy.ensures.ok (grown_more _ _ _ _ c.in_ok-extend_from_slice.ensures.items (grown_more _ _ _ _ c.in_ok-put_word.ensures.ok (grown_more _ _ _ _ c.in_ok-put_network.ensures.ok (grown_more _ _ _ _ c.in_ok-put_ip4_word.ensures.ok (grown_more _ _ _ _ c.in_ok-put_port_of_route.ensures.ok (grown_by_none _ _ c.in_err-push.ensures.items)))))))
