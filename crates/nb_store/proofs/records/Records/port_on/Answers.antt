use Rattle.std.proofs.Common.{ap, sym, ◌∙◌}
use Rattle.std.proofs.lemmas.Bool.{eq-eqb}
use Rattle.nb_records.specs.declared.switch.Port.{Port}
use Rattle.nb_model.specs.Network.{same}
use Rattle.nv_table.specs.Table.{is_after}
use Rattle.nb_store.proofs.Found.{first_found}
use Rattle.nb_store.proofs.Owned.{port_on, port_on_found}
use Rattle.nb_store.proofs.records.Records.port_on.Goals as goal

-- the port that comes next by number is the first of the switch where it is one of the switch
pub returns-in-Some : goal.returns-in-Some
returns-in-Some c =
    sym (first_found (λ (s : Port). is_after c.args.after s.id) (λ (s : Port). same c.args.switch s.switch) c.in-Some.port.now c.self.inside.ports (sym c.in-Some.ensures.record) (eq-eqb _ _ c.if-switch-port.true))
    ∙ ap (λ net. port_on c.args.switch c.args.after net.ports) c.self.view_is

pub returns-in_default : goal.returns-in_default
returns-in_default c = c.tagged.ensures.record ∙ port_on_found c.args.switch c.args.after c.self.inside.ports ∙ ap (λ net. port_on c.args.switch c.args.after net.ports) c.self.view_is
