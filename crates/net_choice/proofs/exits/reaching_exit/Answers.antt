use Rattle.std.proofs.Common.{sym, ◌∙◌}
use Rattle.nb_records.specs.declared.router.RouterPort.{RouterPort}
use Rattle.nb_model.specs.Network.{same}
use Rattle.net_router.specs.Routing.{reaches}
use Rattle.net_choice.proofs.Sound.{router_ports_rise}
use Rattle.net_choice.proofs.Through.{fewer_left, find_here, find_next, find_whole}
use Rattle.net_choice.proofs.exits.reaching_exit.Goals as goal

pub loop-port-smaller : goal.loop-port-smaller
loop-port-smaller c =
    fewer_left (λ (x : RouterPort). x.id) (λ (x : RouterPort). same c.args.router x.router) c.loop-port.last c.in-Some.port.now c.args.records.now.router_ports (router_ports_rise c.args.records.now c.requires) c.in-Some.ensures

pub loop-port-preserved : goal.loop-port-preserved
loop-port-preserved c =
    find_next (λ (x : RouterPort). x.id) (λ (x : RouterPort). same c.args.router x.router) (reaches c.args.ip) c.loop-port.last c.args.records.now.router_ports _ c.loop-port.invariant
    c.in-Some.port.now (router_ports_rise c.args.records.now c.requires) c.in-Some.ensures (sym c.reaches.ensures ∙ c.if-reaches.false)

pub returns-then-reaches : goal.returns-then-reaches
returns-then-reaches c =
    find_here (λ (x : RouterPort). x.id) (λ (x : RouterPort). same c.args.router x.router) (reaches c.args.ip) c.loop-port.last c.args.records.now.router_ports _ c.loop-port.invariant
    c.in-Some.port.now (router_ports_rise c.args.records.now c.requires) c.in-Some.ensures (sym c.reaches.ensures ∙ c.if-reaches.true)

pub returns : goal.returns
returns c =
    find_whole (λ (x : RouterPort). x.id) (λ (x : RouterPort). same c.args.router x.router) (reaches c.args.ip) c.loop-port.last c.args.records.now.router_ports _ c.loop-port.invariant c.in_default.ensures
