use Rattle.std.proofs.Common.{◌∙◌, rules}
use Rattle.std.proofs.lemmas.Result.{on_ok_weaker}
use Rattle.nb_records.specs.declared.balancer.Lb.{Lb}
use Rattle.nb_change.proofs.BalancerRemovals.{no_vip, last_vip, other_vips}
use Rattle.nb_store.proofs.PlacedRecords.{rises}
use Rattle.nb_change.proofs.balancer_removals.remove_vip.Goals as goal

pub returns-in_default-clause-ok : goal.returns-in_default-clause-ok
returns-in_default-clause-ok c = no_vip c.args.work.now.records c.args.name.now c.args.at c.in_default.ensures

pub returns-then-is_last_vip-clause-ok : goal.returns-then-is_last_vip-clause-ok
returns-then-is_last_vip-clause-ok c =
    on_ok_weaker c.remove_lb.result (λ e. e ∙ last_vip c.args.work.now.records c.args.name.now c.args.at c.in-Some.old.now c.in-Some.ensures (search rules)) c.remove_lb.ensures.ok

pub returns-clause-ok : goal.returns-clause-ok
returns-clause-ok c =
    on_ok_weaker c.store_lb.result (λ e. e
    ∙ other_vips c.args.work.now.records c.args.name.now c.args.at c.in-Some.old.now c.in-Some.ensures c.in_ok-left.left c.in_ok-left.ensures (search rules)
    (rises (λ (x : Lb). x.id) c.args.work.now.records.lbs c.requires.order.lbs)) c.store_lb.ensures.ok
