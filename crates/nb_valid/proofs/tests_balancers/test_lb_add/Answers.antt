use Rattle.nb_valid.proofs.Vips.{vip_passes}
use Rattle.nb_valid.proofs.tests_balancers.test_lb_add.Goals as goal

pub returns-clause-ok : goal.returns-clause-ok
returns-clause-ok c =
    vip_passes c.args.records.now c.args.lb c.in_ok-lb.lb c.args.at c.args.backends c.args.proto c.in_ok-lb.ensures.ok.0 c.in_ok-lb.ensures.ok.1 c.has_vip.result c.has_vip.ensures c.lb_id.result c.lb_id.ensures
    c.in_ok-duplicate_if.ensures.ok
