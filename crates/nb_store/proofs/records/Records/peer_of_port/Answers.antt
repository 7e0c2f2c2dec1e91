use Rattle.std.proofs.Common.{ap, sym, ◌∙◌}
use Rattle.nb_records.specs.declared.switch.Port.{Port}
use Rattle.nb_model.specs.Network.{Network}
use Rattle.nv_table.specs.Table.{record_of}
use Rattle.nv_table.proofs.Undone.{found_number}
use Rattle.nb_store.proofs.records.Records.peer_of_port.Goals as goal

pub peer_router_port-requires-clause-there : goal.peer_router_port-requires-clause-there
peer_router_port-requires-clause-there c =
    let port = c.in_ok-port.port.now in
    let found = sym c.in_ok-port.ensures.record in
    let own = found_number (λ (x : Port). x.id) c.args.number port c.self.inside.ports found in
    ap (λ (net : Network). record_of (λ (x : Port). x.id) port.id net.ports) (sym c.self.view_is)
    ∙ ap (λ n. record_of (λ (x : Port). x.id) n c.self.inside.ports) (sym own)
    ∙ found
