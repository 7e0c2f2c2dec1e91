use Rattle.std.proofs.Common.{ap, ◌∙◌}
use Rattle.std.specs.Prelude.{option_map}
use Rattle.nb_model.specs.Network.{port_id}
use Rattle.nb_records.specs.declared.switch.Port.{Port}
use Rattle.nb_store.proofs.PortNames.{name_of_number}
use Rattle.nb_store.proofs.records.Records.port_name.Goals as goal

pub returns-in-Some : goal.returns-in-Some
returns-in-Some c name is =
    ap (option_map (λ (p : Port). p.name)) c.in-Some.ensures.record
    ∙ name_of_number (λ (p : Port). p.id) (λ p. p.name) name c.args.port c.self.inside.ports c.in-Some.ensures.rise (ap (λ net. port_id net name) c.self.view_is ∙ is)

pub returns-in-None : goal.returns-in-None
returns-in-None c name is =
    ap (option_map (λ (p : Port). p.name)) c.in-None.ensures.record
    ∙ name_of_number (λ (p : Port). p.id) (λ p. p.name) name c.args.port c.self.inside.ports c.in-None.ensures.rise (ap (λ net. port_id net name) c.self.view_is ∙ is)
