use Rattle.std.proofs.lemmas.Result.{err_from_is_err_and}
use Rattle.nv_base.specs.Prefix.{prefix_text}
use Rattle.nv_base.proofs.Growth.{grown_more}
use Rattle.nb_text.proofs.Appends.{each_more}
use Rattle.nb_text.proofs.words.put_networks.Goals as goal

pub returns-in_err-put_network-clause-err : goal.returns-in_err-put_network-clause-err
returns-in_err-put_network-clause-err c =
    let p = err_from_is_err_and c.from_residual.result c.from_residual.ensures.1 in
    rw (p.1) (grown_more _ _ _ _ c.loop-net.invariant c.in_err-put_network.ensures.err)

pub loop-net-preserved : goal.loop-net-preserved
loop-net-preserved c = each_more prefix_text _ _ _ c.args.nets.now c.loop-net.net-index c.net-item.result c.loop-net-test.true c.net-item.is c.loop-net.invariant c.in_ok-put_network.ensures.ok
