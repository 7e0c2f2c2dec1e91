use Rattle.std.proofs.Common.{◌∙◌}
use Rattle.std.proofs.lemmas.Result.{on_ok_weaker}
use Rattle.nb_records.specs.declared.switch.Switch.{Switch}
use Rattle.nb_model.specs.Effect.{without, is_detached}
use Rattle.nb_model.specs.Network.{lb_id}
use Rattle.nb_change.proofs.BalancerEdits.{of_switches, none_named, detached, no_lb_detached, emptied}
use Rattle.nb_change.proofs.balancers.ls_lb_del.Goals as goal

pub returns-in_default-clause-ok : goal.returns-in_default-clause-ok
returns-in_default-clause-ok c = let net = c.args.work.now.records in none_named (of_switches net c.requires.sound) c.args.switch (without (is_detached net c.args.lb.now)) c.in_default.ensures

pub returns-in_default-lb-clause-ok : goal.returns-in_default-lb-clause-ok
returns-in_default-lb-clause-ok c =
    let old : Switch = c.in-Some.old.now in
    let new : Switch = record { id = old.id; name = c.args.switch; lbs = c.new.result } in
    rw c.in_default-lb.is (on_ok_weaker c.store_switch.result (λ e. e
    ∙ emptied (of_switches c.args.work.now.records c.requires.sound) c.args.switch old new c.in-Some.ensures (λ is i. record { id = old.id; name = is i; lbs = c.new.ensures i })) c.store_switch.ensures.ok)

pub returns-in_default-lb_id-clause-ok : goal.returns-in_default-lb_id-clause-ok
returns-in_default-lb_id-clause-ok c =
    let net = c.args.work.now.records in
    rw c.in-Some-lb.is (no_lb_detached (of_switches net c.requires.sound) c.args.switch (lb_id net c.in-Some-lb.lb) c.in_default-lb_id.ensures)

pub returns-clause-ok : goal.returns-clause-ok
returns-clause-ok c =
    let net = c.args.work.now.records in
    rw c.in-Some-lb.is (on_ok_weaker c.unlist_on_switch.result (λ e. e
    ∙ detached (of_switches net c.requires.sound) c.args.switch (lb_id net c.in-Some-lb.lb) c.in-Some-lb_id.number c.in-Some.old.now c.in-Some-lb_id.ensures c.in-Some.ensures) c.unlist_on_switch.ensures.ok)
