use Rattle.std.proofs.Common.{◌∙◌}
use Rattle.std.proofs.lemmas.Result.{on_ok_weaker}
use Rattle.nb_records.specs.declared.balancer.Lb.{Lb}
use Rattle.nb_records.specs.declared.balancer.Vip.{Vip}
use Rattle.nb_change.proofs.BalancerEdits.{added_vip, first_vip}
use Rattle.nb_change.proofs.balancers.lb_add.Goals as goal

pub returns-in_default-clause-ok : goal.returns-in_default-clause-ok
returns-in_default-clause-ok c =
    let vip : Vip = record { at = c.args.at; backends = c.args.backends } in
    on_ok_weaker c.add_lb.result (λ e. e ∙ first_vip c.args.work.now.records c.requires.sound c.args.name vip c.args.proto c.in_default.ensures) c.add_lb.ensures.ok

pub returns-clause-ok : goal.returns-clause-ok
returns-clause-ok c =
    let vip : Vip = record { at = c.args.at; backends = c.args.backends } in
    let old : Lb = c.in-Some.old.now in
    let new : Lb = record { id = old.id; name = c.args.name; proto = old.proto; vips = c.in_ok-with_vip.field-0 } in
    on_ok_weaker c.store_lb.result (λ e. e
    ∙ added_vip c.args.work.now.records c.requires.sound c.args.name vip c.args.proto old new c.in-Some.ensures
    (λ is i. record { id = old.id; name = is i; proto = old.proto; vips = c.in_ok-with_vip.ensures i })) c.store_lb.ensures.ok
