use Rattle.std.proofs.Common.{◌++◌, ap, ◌∙◌}
use Rattle.std.proofs.lemmas.Result.{on_ok_weaker}
use Rattle.nb_records.specs.declared.router.RouterPort.{RouterPort}
use Rattle.nb_model.specs.Network.{router_id}
use Rattle.nb_check.proofs.Numbers.{none_noted, owned_noted}
use Rattle.nb_check.proofs.gone.note_router_ports_of.Goals as goal

pub returns-in-Some : goal.returns-in-Some
returns-in-Some c =
    on_ok_weaker c.note_router_ports_on.result
    (λ e. e ∙ ap (λ all. c.args.numbers.now ++ all) (owned_noted (λ (port : RouterPort). port.id) (λ (port : RouterPort). port.router) c.args.first c.args.records.now.router_ports
    (router_id c.args.records.now c.args.name.now) c.in-Some.router c.in-Some.ensures))
    c.note_router_ports_on.ensures

pub returns-in-None : goal.returns-in-None
returns-in-None c =
    none_noted (λ (port : RouterPort). port.id) (λ (port : RouterPort). port.router) c.args.first c.args.records.now.router_ports (router_id c.args.records.now c.args.name.now) c.args.numbers.now c.in-None.ensures
