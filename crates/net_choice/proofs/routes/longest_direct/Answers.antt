use Rattle.nb_records.specs.declared.router.RouterPort.{RouterPort}
use Rattle.nb_model.specs.Network.{same}
use Rattle.net_choice.specs.inner.Routes.{longest_by}
use Rattle.net_choice.proofs.Sound.{router_ports_rise}
use Rattle.net_choice.proofs.Through.{fewer_left, fold_next, fold_whole}
use Rattle.net_choice.proofs.routes.longest_direct.Goals as goal

pub loop-port-smaller : goal.loop-port-smaller
loop-port-smaller c =
    fewer_left (λ (x : RouterPort). x.id) (λ (x : RouterPort). same c.args.router x.router) c.loop-port.last c.in-Some.port.now c.args.records.now.router_ports (router_ports_rise c.args.records.now c.requires) c.in-Some.ensures

pub loop-port-preserved : goal.loop-port-preserved
loop-port-preserved c =
    fold_next (λ (x : RouterPort). x.id) (λ (x : RouterPort). same c.args.router x.router) (longest_by c.args.dst) c.loop-port.last c.args.records.now.router_ports
    _ _ c.loop-port.invariant c.in-Some.port.now (router_ports_rise c.args.records.now c.requires) c.in-Some.ensures _ c.longest_by-best.ensures

pub returns : goal.returns
returns c =
    fold_whole (λ (x : RouterPort). x.id) (λ (x : RouterPort). same c.args.router x.router) (longest_by c.args.dst) c.loop-port.last c.args.records.now.router_ports
    _ _ c.loop-port.invariant c.in_default.ensures
