use Rattle.std.proofs.Common.{ap, ◌∙◌}
use Rattle.std.specs.Prelude.{find}
use Rattle.std.specs.Str.{bytes_eq}
use Rattle.nb_model.specs.Network.{router_port_named}
use Rattle.nb_store.proofs.Found.{router_port_found}
use Rattle.nb_store.proofs.records.Records.router_port_named.Goals as goal

pub returns : goal.returns
returns c = c.tagged.ensures.record ∙ router_port_found c.as_slice.result.now c.self.inside.router_ports ∙ ap (λ name. find (λ r. bytes_eq r.name name) c.self.inside.router_ports) c.as_slice.ensures ∙ ap (λ net. router_port_named net c.args.name.now) c.self.view_is
