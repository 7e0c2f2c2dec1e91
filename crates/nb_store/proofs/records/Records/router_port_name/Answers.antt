use Rattle.std.proofs.Common.{ap, ◌∙◌}
use Rattle.std.specs.Prelude.{option_map}
use Rattle.nb_model.specs.Network.{router_port_id}
use Rattle.nb_records.specs.declared.router.RouterPort.{RouterPort}
use Rattle.nb_store.proofs.PortNames.{name_of_number}
use Rattle.nb_store.proofs.records.Records.router_port_name.Goals as goal

pub returns-in-Some : goal.returns-in-Some
returns-in-Some c name is =
    ap (option_map (λ (p : RouterPort). p.name)) c.in-Some.ensures.record
    ∙ name_of_number (λ (p : RouterPort). p.id) (λ p. p.name) name c.args.port c.self.inside.router_ports c.in-Some.ensures.rise (ap (λ net. router_port_id net name) c.self.view_is ∙ is)

pub returns-in-None : goal.returns-in-None
returns-in-None c name is =
    ap (option_map (λ (p : RouterPort). p.name)) c.in-None.ensures.record
    ∙ name_of_number (λ (p : RouterPort). p.id) (λ p. p.name) name c.args.port c.self.inside.router_ports c.in-None.ensures.rise (ap (λ net. router_port_id net name) c.self.view_is ∙ is)
