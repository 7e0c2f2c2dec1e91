use Rattle.std.proofs.Common.{ap, sym, ◌∙◌}
use Rattle.nb_records.specs.declared.switch.Port.{Port}
use Rattle.nv_table.specs.Table.{record_of}
use Rattle.net_meaning.specs.Places.{peer_side}
use Rattle.tr_walk.proofs.PortNumbers.{side_of_router}
use Rattle.tr_walk.proofs.places.side_of.Goals as goal

pub returns-in-None : goal.returns-in-None
returns-in-None c =
    c.peer_side-in-None.ensures
    ∙ ap peer_side c.peer_of_router_port.ensures
    ∙ sym (side_of_router c.args.records.now c.args.port (c.in-None.ensures.record ∙ ap (record_of (λ (p : Port). p.id) c.args.port) c.ports.ensures))
