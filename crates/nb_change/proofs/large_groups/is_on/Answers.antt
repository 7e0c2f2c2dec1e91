use Rattle.std.proofs.Common.{ap, ◌∙◌}
use Rattle.nb_records.specs.declared.switch.Port.{Port}
use Rattle.nv_table.specs.Table.{record_of}
use Rattle.nb_change.proofs.ManyLeave.{none_on, found_on}
use Rattle.nb_change.proofs.large_groups.is_on.Goals as goal

pub returns-in-Some : goal.returns-in-Some
returns-in-Some c =
    found_on c.args.number c.args.switch c.in-Some.port.now c.args.records.now.ports c.requires (c.in-Some.ensures.record ∙ ap (record_of (λ (x : Port). x.id) c.args.number) c.ports.ensures)

pub returns-in-None : goal.returns-in-None
returns-in-None c =
    none_on c.args.number c.args.switch c.args.records.now.ports c.requires (c.in-None.ensures.record ∙ ap (record_of (λ (x : Port). x.id) c.args.number) c.ports.ensures)
