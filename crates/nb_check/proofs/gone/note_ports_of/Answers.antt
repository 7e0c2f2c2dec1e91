use Rattle.std.proofs.Common.{◌++◌, ap, ◌∙◌}
use Rattle.std.proofs.lemmas.Result.{on_ok_weaker}
use Rattle.nb_records.specs.declared.switch.Port.{Port}
use Rattle.nb_model.specs.Network.{switch_id}
use Rattle.nb_check.proofs.Numbers.{none_noted, owned_noted}
use Rattle.nb_check.proofs.gone.note_ports_of.Goals as goal

pub returns-in-Some : goal.returns-in-Some
returns-in-Some c =
    on_ok_weaker c.note_ports_on.result
    (λ e. e ∙ ap (λ all. c.args.numbers.now ++ all) (owned_noted (λ (port : Port). port.id) (λ (port : Port). port.switch) c.args.first c.args.records.now.ports
    (switch_id c.args.records.now c.args.name.now) c.in-Some.switch c.in-Some.ensures))
    c.note_ports_on.ensures

pub returns-in-None : goal.returns-in-None
returns-in-None c =
    none_noted (λ (port : Port). port.id) (λ (port : Port). port.switch) c.args.first c.args.records.now.ports (switch_id c.args.records.now c.args.name.now) c.args.numbers.now c.in-None.ensures
