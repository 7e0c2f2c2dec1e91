use Rattle.std.proofs.Common.{ap, ◌∙◌}
use Rattle.nb_store.proofs.Owned.{router_port_on, router_port_on_found}
use Rattle.nb_store.proofs.records.Records.router_port_on.Goals as goal

pub returns : goal.returns
returns c = c.tagged.ensures.record ∙ router_port_on_found c.args.router c.args.after c.self.inside.router_ports ∙ ap (λ net. router_port_on c.args.router c.args.after net.router_ports) c.self.view_is
